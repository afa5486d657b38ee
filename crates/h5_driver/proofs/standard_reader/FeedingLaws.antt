-- What the standard tokenizer's calls do over a builder that works.
use Rattle.std.proofs.Common.{◌≡◌, ◌≢◌, ◌++◌, ◌<◌, ℕ, Bool, true, false, List, [], ◌∷◌, Option, Some, None, Result, Ok, Err, OnErr, OnOk, inl, inr, refl, ap, sym, subst, ◌∙◌, IsUtf8}
use Rattle.std.proofs.lemmas.Bool.{false≢true}
use Rattle.h5_token.specs.Reply.{Reply, RunsScript}
use Rattle.h5_token.specs.TokenText.{TokenText, Characters, EndOfFile}
use Rattle.h5_token.specs.declared.fault.BuildFault.{BuildFault}
use Rattle.h5_token.specs.declared.fault.BuildFault.TheVariants.{AfterEnd, Failed, Memory, NotInText}
use Rattle.h5_interface.specs.SinkChoices.{SinkChoices}
use Rattle.h5_tables.specs.declared.modes.InsertionMode.TheVariants.{Text}
use Rattle.h5_builder_spec.specs.Run.{View, after_token, reply_to}
use Rattle.h5_builder_laws.proofs.cuts.RunLaws.{takes_text}
use Rattle.h5_tokenizer_input.specs.Answers.{goes_on, refuses}
use Rattle.h5_tokenizer_input.specs.Taking.{ClosesWith}
use Rattle.h5_tokenizer_input.specs.Told as told
use Rattle.h5_tokenizer_input.specs.declared.result.TokenizerResult.{TokenizerResult}
use Rattle.h5_tokenizer_input.specs.declared.result.TokenizerResult.TheVariants as result
use Rattle.h5_tokenizer_input.specs.declared.stage.Stage.TheVariants.{Reading}
use Rattle.h5_tokenizer_spec.specs.AtEnd.{at_end}
use Rattle.h5_tokenizer_spec.specs.End.{Closes, last_tokens}
use Rattle.h5_tokenizer_spec.specs.ReferenceTable.{references}
use Rattle.h5_tokenizer_spec.specs.Reading.{ReaderPlace, Read}
use Rattle.h5_tokenizer_spec.specs.Whole as whole
use Rattle.h5_tokenizer_spec.specs.Whole.{more_reading, no_reading}
use Rattle.h5_tokenizer_spec.proofs.ReadLaws.{read_goes_on}
use Rattle.h5_tokenizer_spec.proofs.WholeLaws.{end_ends}
use Rattle.h5_standard_tokenizer.specs.Mark.{behind_mark, still_at_start}
use Rattle.h5_standard_tokenizer.specs.Outcome.{Feeds, ReadsAll, StopsAt}
use Rattle.h5_standard_tokenizer.specs.ReaderText.{ReaderText}
use Rattle.h5_standard_tokenizer.specs.Steps.{RefusedAt}
use Rattle.h5_standard_tokenizer.specs.Weight.{weight}
use Rattle.h5_driver.specs.Reading.{Advances, IsReadToEnd}
use Rattle.h5_driver.specs.StandardReader.{IsRaw, IsUndecided, Readings, Reads, ahead, left}
use Rattle.h5_driver.specs.inner.Working.{IsReady, IsWorking}
use Rattle.h5_driver.specs.BuilderSink.{after, ended, foreign, replies}
use Rattle.h5_driver.proofs.TakenLaws.{IsTaken, comes, finishes_memory, takes_memory, token_taken, was_text}
use Rattle.h5_driver.proofs.standard_reader.EndLaws.{raw_end}
use Rattle.h5_driver.proofs.standard_reader.MarkLaws.{decided, whole as none_whole}
use Rattle.h5_driver.proofs.standard_reader.ReadLaws.{nothing_reads, stopped_is_less}
use Rattle.h5_driver.proofs.standard_reader.WorkLaws.{IsWorkingAt, read_works}

-- readings from a place
abbrev ReadingsAt : SinkChoices → ReaderPlace → View → List ℕ → List TokenText → ReaderPlace → View → List ℕ → Type 0
ReadingsAt choices p v xs ts q w ys = whole.Readings references (replies choices) (after choices) foreign p v xs ts q w ys

-- one reading, if what was fed is a text
still : (at_start : Bool) (xs : List ℕ) → still_at_start at_start xs ≡ true → IsUtf8 xs → (at_start ≡ true) × (xs ≡ [])
still true xs e u = (refl, none_whole xs u e)
still false xs e u = absurd (false≢true e)

module _ (choices : SinkChoices) (r s : ReaderText) (m n : View) (xs ys : List ℕ) (ts : List TokenText) (reply : Reply)
    (read : Read references (replies choices) (after choices) foreign r.place m (ahead r xs) ts reply s.place n ys) (taken : refuses reply ≡ false) (start : s.at_start ≡ still_at_start r.at_start xs) (utf8 : IsUtf8 xs) where
  -- it is known that no byte order mark comes
  read_begun : still_at_start r.at_start xs ≡ false → Advances (Readings choices) r m xs s n ys
  read_begun e = record {
    tokens = ts;
    readings = λ more.
        subst (λ ws. ReadingsAt choices r.place m ws ts s.place n (ahead s (ys ++ more))) (sym (decided r.at_start xs more e))
        (subst (λ b. ReadingsAt choices r.place m (ahead r xs ++ more) ts s.place n (behind_mark b (ys ++ more))) (sym (start ∙ e))
        (more_reading no_reading (read_goes_on references (replies choices) (after choices) foreign more read) taken));
  }

  -- if one may still come, nothing was fed
  read_nothing : still_at_start r.at_start xs ≡ true → Advances (Readings choices) r m xs s n ys
  read_nothing e =
      let at = still r.at_start xs e utf8 in
      let none : ahead r xs ≡ [] = ap (behind_mark r.at_start) at.1 ∙ ap (λ b. behind_mark b []) at.0 in
      let k = nothing_reads (replies choices) (after choices) foreign read none in
      record {
        tokens = [];
        readings = λ more.
            let same : ahead r (xs ++ more) ≡ ahead s (ys ++ more) =
            ap (λ b. behind_mark b (xs ++ more)) at.0 ∙ ap (λ ws. behind_mark true (ws ++ more)) (at.1 ∙ sym k.rest) ∙ ap (λ b. behind_mark b (ys ++ more)) (sym (start ∙ e)) in
            subst (λ ws. ReadingsAt choices r.place m (ahead r (xs ++ more)) [] s.place n ws) same
            (subst (λ q. ReadingsAt choices r.place m (ahead r (xs ++ more)) [] q n (ahead r (xs ++ more))) k.place
            (subst (λ v. ReadingsAt choices r.place m (ahead r (xs ++ more)) [] r.place v (ahead r (xs ++ more))) k.meaning no_reading));
      }

  by_start : (b : Bool) → still_at_start r.at_start xs ≡ b → Advances (Readings choices) r m xs s n ys
  by_start true e = read_nothing e
  by_start false e = read_begun e

  pub read_advances : Advances (Readings choices) r m xs s n ys
  read_advances = by_start (still_at_start r.at_start xs) refl

  -- and there is less to do after it stopped
  less_begun : still_at_start r.at_start xs ≡ false → goes_on reply ≡ false → weight s.place (ahead s ys) < weight r.place (ahead r xs)
  less_begun e stops = subst (λ b. weight s.place (behind_mark b ys) < weight r.place (ahead r xs)) (sym (start ∙ e)) (stopped_is_less (replies choices) (after choices) foreign read stops)

  less_nothing : still_at_start r.at_start xs ≡ true → goes_on reply ≡ false → weight s.place (ahead s ys) < weight r.place (ahead r xs)
  less_nothing e stops =
      let at = still r.at_start xs e utf8 in
      let none : ahead r xs ≡ [] = ap (behind_mark r.at_start) at.1 ∙ ap (λ b. behind_mark b []) at.0 in
      absurd (false≢true (sym stops ∙ (nothing_reads (replies choices) (after choices) foreign read none).goes_on))

  less_by_start : (b : Bool) → still_at_start r.at_start xs ≡ b → goes_on reply ≡ false → weight s.place (ahead s ys) < weight r.place (ahead r xs)
  less_by_start true e stops = less_nothing e stops
  less_by_start false e stops = less_begun e stops

  pub stopped_weighs_less : goes_on reply ≡ false → weight s.place (ahead s ys) < weight r.place (ahead r xs)
  stopped_weighs_less stops = less_by_start (still_at_start r.at_start xs) refl stops

-- a builder that works refuses nothing
never_refused : (choices : SinkChoices) (p : ReaderPlace) (m : View) (xs : List ℕ) (fault : BuildFault) (n : View) → IsWorkingAt p m → ¬ (RefusedAt (replies choices) (after choices) foreign p m xs fault n)
never_refused choices p m xs fault n w r = let e : true ≡ false = (read_works choices r.stopped.read w).1 in cc

pub fault_is_memory : {H : Type 0} (choices : SinkChoices) (node : H → ℕ) (r : ReaderText) (m : View) (xs : List ℕ) (s : ReaderText) (n : View) (queue : List ℕ) (f : BuildFault) → IsWorkingAt r.place m → Feeds (replies choices) (after choices) foreign node r m xs s n queue (Err f) → f ≡ Memory
fault_is_memory choices node r m xs s n queue Memory w h = refl
fault_is_memory choices node r m xs s n queue AfterEnd w h = absurd (never_refused choices r.place m (ahead r xs) AfterEnd n w h.fails)
fault_is_memory choices node r m xs s n queue NotInText w h = absurd (never_refused choices r.place m (ahead r xs) NotInText n w h.fails)
fault_is_memory choices node r m xs s n queue Failed w h = absurd (never_refused choices r.place m (ahead r xs) Failed n w h.fails)

-- ---- what `feed` did, as a parser sees it
pub record HasFed {H : Type 0} (choices : SinkChoices) (r : ReaderText) (v : View) (xs : List ℕ) (s : ReaderText) (w : View) (ys : List ℕ) (answer : Result (TokenizerResult H) BuildFault) : Type 0 where
  pub reading : OnOk answer (s.stage ≡ Reading)
  pub works : OnOk answer (IsWorking IsRaw s w)
  pub advances : OnOk answer (Advances (Readings choices) r v xs s w ys)
  pub done : answer ≡ Ok result.Done → (ys ≡ []) × IsUndecided s w
  pub less : OnOk answer (answer ≢ Ok result.Done → left s ys < left r xs)
  pub memory : OnErr answer (answer ≡ Err Memory)

module _ {H : Type 0} (choices : SinkChoices) (node : H → ℕ) (r : ReaderText) (v : View) (xs : List ℕ) (s : ReaderText) (w : View) (ys : List ℕ) (working : IsWorking IsRaw r v) (utf8 : IsUtf8 xs) where
  at_first : IsWorkingAt r.place v
  at_first = record { ready = working.ready; text = working.text }

  read_all : ReadsAll (replies choices) (after choices) foreign r v xs s w ys → HasFed {H = H} choices r v xs s w ys (Ok result.Done)
  read_all h =
      let one = h.reads.stopped in
      let k = read_works choices one.read at_first in
      record {
        reading = h.stage;
        works = record { ready = k.0.ready; text = k.0.text };
        advances = subst (λ zs. Advances (Readings choices) r v xs s w zs) (sym h.empty) (read_advances choices r s v w xs [] one.tokens h.reads.reply one.read k.1 h.at_start utf8);
        done = λ e. (h.empty, tt);
        less = λ differs. absurd (differs refl);
        memory = tt;
      }

  stopped : (reply : Reply) (answer : TokenizerResult H) → answer ≢ result.Done → goes_on reply ≡ false → StopsAt (replies choices) (after choices) foreign r v xs reply s w ys → HasFed choices r v xs s w ys (Ok answer)
  stopped reply answer differs stops h =
      let k = read_works choices h.stopped.read at_first in
      record {
        reading = h.stage;
        works = record { ready = k.0.ready; text = k.0.text };
        advances = read_advances choices r s v w xs ys h.stopped.tokens reply h.stopped.read k.1 h.at_start utf8;
        done = λ e. absurd (differs (cc));
        less = λ _. stopped_weighs_less choices r s v w xs ys h.stopped.tokens reply h.stopped.read k.1 h.at_start utf8 stops;
        memory = tt;
      }

  pub fed : (answer : Result (TokenizerResult H) BuildFault) → Feeds (replies choices) (after choices) foreign node r v xs s w ys answer → HasFed choices r v xs s w ys answer
  fed (Ok result.Done) h = read_all h
  fed (Ok (result.Script handle)) h = stopped (RunsScript (node handle)) (result.Script handle) (λ e. cc) refl h
  fed (Ok (result.EncodingIndicator encoding)) h = stopped _ (result.EncodingIndicator encoding) (λ e. cc) refl h
  fed (Err f) h = record {
    reading = tt;
    works = tt;
    advances = tt;
    done = λ e. cc;
    less = tt;
    memory = ap Err (fault_is_memory choices node r v xs s w ys f at_first h);
  }

-- ---- the end of a builder that works: an error is a failed allocation

-- a token at the end; raw text has none
token_closes : (choices : SinkChoices) (m n : View) (o : Option TokenText) (line last : ℕ) (f : BuildFault) → IsReady m → (m.world.mode ≡ Text → o ≡ None)
    → ClosesWith (replies choices) (after choices) (ended choices) m (told.handed o) line last n (Err f) → f ≡ Memory
token_closes choices m n None line last f r raw h = finishes_memory choices m n last f r h
token_closes choices m n (Some t) line last f r raw h =
    let k = token_taken choices t m r (comes m.world.mode t (λ i. let none : Some t ≡ None = raw i in cc)) in
    at h k
  where
    at : ClosesWith (replies choices) (after choices) (ended choices) m (t ∷ []) line last n (Err f) → IsTaken t m.world.mode (reply_to choices t m) (after_token choices t m) → f ≡ Memory
    at (inl i) k = takes_memory choices m n t line f k.takes i
    at (inr i) k = finishes_memory choices (after_token choices t m) n last f k.ready i.1

closes_memory : (choices : SinkChoices) (m n : View) (text : List ℕ) (o : Option TokenText) (line last : ℕ) (f : BuildFault) → IsReady m → (m.world.mode ≡ Text → o ≡ None)
    → ClosesWith (replies choices) (after choices) (ended choices) m (told.told text ++ told.handed o) line last n (Err f) → f ≡ Memory
closes_memory choices m n [] o line last f r raw h = token_closes choices m n o line last f r raw h
closes_memory choices m n (x ∷ text) o line last f r raw h = at h (token_taken choices (Characters (x ∷ text)) m r (takes_text m.world.mode (x ∷ text)))
  where
    at : ClosesWith (replies choices) (after choices) (ended choices) m (Characters (x ∷ text) ∷ told.handed o) line last n (Err f)
        → IsTaken (Characters (x ∷ text)) m.world.mode (reply_to choices (Characters (x ∷ text)) m) (after_token choices (Characters (x ∷ text)) m) → f ≡ Memory
    at (inl i) k = takes_memory choices m n (Characters (x ∷ text)) line f k.takes i
    at (inr i) k = token_closes choices (after_token choices (Characters (x ∷ text)) m) n o line last f k.ready (λ j. raw (was_text m.world.mode _ k.leads.1 j)) i.1

pub ends_memory : (choices : SinkChoices) (p : ReaderPlace) (m n : View) (result : Result (Unit {0}) BuildFault) → IsWorkingAt p m → Closes (replies choices) (after choices) (ended choices) references p m n result → OnErr result (result ≡ Err Memory)
ends_memory choices p m n (Ok done) w c = tt
ends_memory choices p m n (Err f) w c =
    let end = at_end references p.state in
    ap Err (closes_memory choices m n end.text end.token p.began p.line f w.ready (λ i. raw_end references p.state (w.text i)) c)

-- what `end` did
nothing_ahead : (b : Bool) → behind_mark b [] ≡ []
nothing_ahead true = refl
nothing_ahead false = refl

pub closed : (choices : SinkChoices) (r : ReaderText) (v w : View) (result : Result (Unit {0}) BuildFault) → Closes (replies choices) (after choices) (ended choices) references r.place v w result → OnOk result (IsReadToEnd (Reads choices) r v [] w)
closed choices r v w (Ok done) h = record {
  tokens = last_tokens references r.place ++ EndOfFile ∷ [];
  reads = end_ends (replies choices) (after choices) (ended choices) references foreign r.place v (ahead r []) [] r.place v w (subst (λ xs. ReadingsAt choices r.place v (ahead r []) [] r.place v xs) (nothing_ahead r.at_start) no_reading) h;
}
closed choices r v w (Err f) h = tt
