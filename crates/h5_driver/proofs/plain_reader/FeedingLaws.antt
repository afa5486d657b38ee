-- What the plain tokenizer's calls do over a builder that works.
use Rattle.std.proofs.Common.{◌≡◌, ◌≢◌, ◌++◌, ◌<◌, ℕ, true, false, List, [], length, Option, Some, None, Result, Ok, Err, OnErr, OnOk, inl, inr, refl, ap, sym, subst, ◌∙◌, append-nil}
use Rattle.h5_token.specs.Reply.{Reply}
use Rattle.h5_token.specs.TokenText.{TokenText, Characters}
use Rattle.h5_token.specs.declared.fault.BuildFault.{BuildFault}
use Rattle.h5_token.specs.declared.fault.BuildFault.TheVariants.{AfterEnd, Failed, Memory, NotInText}
use Rattle.h5_interface.specs.SinkChoices.{SinkChoices}
use Rattle.h5_builder_spec.specs.Run.{View, after_token, refuses_in, reply_to}
use Rattle.h5_builder_laws.proofs.cuts.RunLaws.{takes_text}
use Rattle.h5_tokenizer_input.specs.Answers.{refuses}
use Rattle.h5_tokenizer_input.specs.Lines.{line_behind}
use Rattle.h5_tokenizer_input.specs.Taking.{ClosesWith}
use Rattle.h5_tokenizer_input.specs.Told.{handed}
use Rattle.h5_tokenizer_input.specs.declared.result.TokenizerResult.{TokenizerResult}
use Rattle.h5_tokenizer_input.specs.declared.result.TokenizerResult.TheVariants as result
use Rattle.h5_tokenizer_input.specs.declared.stage.Stage.TheVariants.{Reading}
use Rattle.h5_plain_tokenizer.specs.End.{Closes, settle}
use Rattle.h5_plain_tokenizer.specs.Front.{ReaderPlace}
use Rattle.h5_plain_tokenizer.specs.Outcome.{Feeds, ReadsAll, RefusedAt, StopsAt}
use Rattle.h5_plain_tokenizer.specs.Read.{Read, Step, behind, marked, next_place, nothing_read, read_on, started, switch_step, text_step, token_step, unmarked}
use Rattle.h5_plain_tokenizer.specs.ReaderText.{ReaderText}
use Rattle.h5_plain_tokenizer.specs.Whole as whole
use Rattle.h5_plain_tokenizer.specs.Whole.{closing, more_reading, no_reading}
use Rattle.h5_plain_tokenizer.proofs.WholeLaws.{end_ends}
use Rattle.h5_driver.specs.PlainReader.{IsRaw, IsUndecided, Readings, Reads, left}
use Rattle.h5_driver.specs.Reading.{Advances, IsReadToEnd}
use Rattle.h5_driver.specs.inner.Working.{IsWorking}
use Rattle.h5_driver.specs.BuilderSink.{after, ended, foreign, replies}
use Rattle.h5_driver.proofs.TakenLaws.{comes, finishes_memory, takes_memory}
use Rattle.h5_driver.proofs.plain_reader.AnswerLaws.{IsWorkingAt, token_works, works_at}
use Rattle.h5_driver.proofs.plain_reader.RawLaws.{raw_rest, raw_stays, raw_token}

step_works : (choices : SinkChoices) {p : ReaderPlace} {m : View} {xs : List ℕ} {ts : List TokenText} {reply : Reply} {q : ReaderPlace} {n : View} {ys : List ℕ} → Step (replies choices) (after choices) foreign p m xs ts reply q n ys → IsWorkingAt p m → IsWorkingAt q n × (refuses reply ≡ false)
step_works choices {p = p} {m = m} (marked e f) w = (works_at p (started p) m refl w, refl)
step_works choices {p = p} {m = m} (unmarked e f) w = (works_at p (started p) m refl w, refl)
step_works choices {p = p} {m = m} {xs = xs} {ys = rest} (token_step token e f) w =
    let k = token_works choices p token m w (comes m.world.mode token (λ i. raw_token p.mode p.last (foreign m) xs rest token f (w.text i))) in
    let q = next_place p token (reply_to choices token m) in
    (works_at q (behind q xs rest) (after_token choices token m) refl k.works, k.takes)
step_works choices {p = p} {m = m} {xs = xs} {ys = rest} (switch_step mode e f) w = (
  record {
    ready = w.ready;
    text = λ i. absurd (raw_stays p.mode p.last (foreign m) xs rest mode f (w.text i));
  },
  refl,
)
step_works choices {p = p} {m = m} {xs = xs} {ys = ys} (text_step text e l b) w =
    let k = token_works choices p (Characters text) m w (takes_text m.world.mode text) in
    (works_at p (behind p xs ys) (after_token choices (Characters text) m) refl k.works, k.takes)

pub read_works : (choices : SinkChoices) {p : ReaderPlace} {m : View} {xs : List ℕ} {ts : List TokenText} {reply : Reply} {q : ReaderPlace} {n : View} {ys : List ℕ} → Read (replies choices) (after choices) foreign p m xs ts reply q n ys → IsWorkingAt p m → IsWorkingAt q n × (refuses reply ≡ false)
read_works choices nothing_read w = (w, refl)
read_works choices (read_on r g s) w = step_works choices s (read_works choices r w).0

-- a builder that works refuses nothing
pub never_refused : (choices : SinkChoices) (p : ReaderPlace) (m : View) (xs : List ℕ) (fault : BuildFault) (new : ReaderText) (n : View) → IsWorkingAt p m → ¬ (RefusedAt (replies choices) (after choices) foreign p m xs fault new n)
never_refused choices p m xs fault new n w r = let e : true ≡ false = (read_works choices r.reads.read w).1 in cc

pub fault_is_memory : {H : Type 0} (choices : SinkChoices) (node : H → ℕ) (p : ReaderPlace) (m : View) (xs : List ℕ) (new : ReaderText) (n : View) (queue : List ℕ) (f : BuildFault) → IsWorkingAt p m → Feeds (replies choices) (after choices) foreign node p m xs new n queue (Err f) → f ≡ Memory
fault_is_memory choices node p m xs new n queue Memory w h = refl
fault_is_memory choices node p m xs new n queue AfterEnd w h = absurd (never_refused choices p m xs AfterEnd new n w h)
fault_is_memory choices node p m xs new n queue NotInText w h = absurd (never_refused choices p m xs NotInText new n w h)
fault_is_memory choices node p m xs new n queue Failed w h = absurd (never_refused choices p m xs Failed new n w h)

-- the end of a builder that works: an error is a failed allocation
closes_memory : (choices : SinkChoices) (p : ReaderPlace) (m n : View) (o : Option TokenText) (line last : ℕ) (f : BuildFault) → IsWorkingAt p m → ((t : TokenText) → o ≡ Some t → refuses_in m.world.mode t ≡ false)
    → ClosesWith (replies choices) (after choices) (ended choices) m (handed o) line last n (Err f) → f ≡ Memory
closes_memory choices p m n None line last f w c h = finishes_memory choices m n last f w.ready h
closes_memory choices p m n (Some t) line last f w c (inl h) = takes_memory choices m n t line f (token_works choices p t m w (c t refl)).takes h
closes_memory choices p m n (Some t) line last f w c (inr h) =
    finishes_memory choices (after_token choices t m) n last f (token_works choices p t m w (c t refl)).works.ready h.1

-- what `feed` did, as a parser sees it
pub record HasFed {H : Type 0} (choices : SinkChoices) (r : ReaderText) (v : View) (xs : List ℕ) (s : ReaderText) (w : View) (ys : List ℕ) (answer : Result (TokenizerResult H) BuildFault) : Type 0 where
  pub reading : OnOk answer (s.stage ≡ Reading)
  pub works : OnOk answer (IsWorking IsRaw s w)
  pub advances : OnOk answer (Advances (Readings choices) r v xs s w ys)
  pub done : answer ≡ Ok result.Done → (ys ≡ []) × IsUndecided s w
  pub less : OnOk answer (answer ≢ Ok result.Done → left s ys < left r xs)
  pub memory : OnErr answer (answer ≡ Err Memory)

module _ {H : Type 0} (choices : SinkChoices) (node : H → ℕ) (r : ReaderText) (v : View) (xs : List ℕ) (s : ReaderText) (w : View) (ys : List ℕ) (working : IsWorking IsRaw r v) where
  at_first : IsWorkingAt r.place v
  at_first = record { ready = working.ready; text = working.text }

  read_all : ReadsAll (replies choices) (after choices) foreign r.place v (r.held ++ xs) s w ys → HasFed {H = H} choices r v xs s w ys (Ok result.Done)
  read_all h =
      let k = read_works choices h.reads.read at_first in
      record {
        reading = h.stage;
        works = record { ready = k.0.ready; text = k.0.text };
        advances = record {
          tokens = h.reads.tokens;
          readings = subst (λ zs. whole.Readings (replies choices) (after choices) foreign r.place v (r.held ++ xs) h.reads.tokens s.place w zs) (sym (ap (λ zs. s.held ++ zs) h.empty ∙ append-nil s.held))
              (more_reading no_reading h.reads.read k.1);
        };
        done = λ e. (h.empty, h.undecided);
        less = λ differs. absurd (differs refl);
        memory = tt;
      }

  stopped : (reply : Reply) (answer : TokenizerResult H) → answer ≢ result.Done → StopsAt (replies choices) (after choices) foreign r.place v (r.held ++ xs) reply s w ys → HasFed choices r v xs s w ys (Ok answer)
  stopped reply answer differs h =
      let k = read_works choices h.reads.read at_first in
      record {
        reading = h.stage;
        works = record { ready = k.0.ready; text = k.0.text };
        advances = record {
          tokens = h.reads.tokens;
          readings = subst (λ zs. whole.Readings (replies choices) (after choices) foreign r.place v (r.held ++ xs) h.reads.tokens s.place w (zs ++ ys)) (sym h.nothing_held) (more_reading no_reading h.reads.read k.1);
        };
        done = λ e. absurd (differs (cc));
        less = λ _. subst (λ zs. length (zs ++ ys) < length (r.held ++ xs)) (sym h.nothing_held) h.shorter;
        memory = tt;
      }

  pub fed : (answer : Result (TokenizerResult H) BuildFault) → Feeds (replies choices) (after choices) foreign node r.place v (r.held ++ xs) s w ys answer → HasFed choices r v xs s w ys answer
  fed (Ok result.Done) h = read_all h
  fed (Ok (result.Script handle)) h = stopped _ (result.Script handle) (λ e. cc) h
  fed (Ok (result.EncodingIndicator encoding)) h = stopped _ (result.EncodingIndicator encoding) (λ e. cc) h
  fed (Err f) h = record {
    reading = tt;
    works = tt;
    advances = tt;
    done = λ e. cc;
    less = tt;
    memory = ap Err (fault_is_memory choices node r.place v (r.held ++ xs) s w ys f at_first h);
  }

pub ends_memory : (choices : SinkChoices) (p : ReaderPlace) (m n : View) (rest : List ℕ) (result : Result (Unit {0}) BuildFault) → IsWorkingAt p m → Closes (replies choices) (after choices) foreign (ended choices) p m rest n result → OnErr result (result ≡ Err Memory)
ends_memory choices p m n rest (Ok done) w c = tt
ends_memory choices p m n rest (Err f) w c =
    ap Err (closes_memory choices p m n (settle p.mode p.last (foreign m) rest) p.line (line_behind p.line rest []) f w (λ t e. comes m.world.mode t (λ i. raw_rest p.mode p.last (foreign m) rest t e (w.text i))) c)

-- what `end` did
pub closed : (choices : SinkChoices) (r : ReaderText) (v w : View) (result : Result (Unit {0}) BuildFault) → IsUndecided r v → Closes (replies choices) (after choices) foreign (ended choices) r.place v r.held w result
    → OnOk result (IsReadToEnd (Reads choices) r v [] w)
closed choices r v w (Ok done) undecided h = record {
  tokens = closing (settle r.place.mode r.place.last (foreign v) r.held);
  reads = subst (λ xs. whole.ReadsToEnd (replies choices) (after choices) foreign (ended choices) r.place v xs (closing (settle r.place.mode r.place.last (foreign v) r.held)) w) (sym (append-nil r.held))
      (end_ends (replies choices) (after choices) foreign (ended choices) r.place v r.held [] r.place v r.held w no_reading undecided h);
}
closed choices r v w (Err f) undecided h = tt
