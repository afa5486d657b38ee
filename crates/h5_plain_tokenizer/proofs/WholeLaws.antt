-- Readings of chunks, one after another, and the end.
use Rattle.std.proofs.Common.{◌≡◌, ℕ, Bool, false, List, [], ◌∷◌, ◌++◌, refl, sym, ap, ◌∙◌, subst, append-nil, Option, Some, None, Ok}
use Rattle.h5_token.specs.TokenText.{TokenText}
use Rattle.h5_token.specs.Reply.{Reply}
use Rattle.h5_token.specs.declared.states.RawKind.TheVariants.{Rcdata, Rawtext, ScriptData}
use Rattle.h5_markup.specs.Matching.{Open}
use Rattle.h5_tokenizer_input.specs.Answers.{refuses}
use Rattle.h5_tokenizer_input.specs.Taking.{ClosesWith}
use Rattle.h5_tokenizer_input.specs.declared.result.TokenizerResult.{TokenizerResult}
use Rattle.h5_tokenizer_input.specs.declared.result.TokenizerResult.TheVariants as result
use Rattle.h5_tokenizer_input.specs.Lines.{line_behind}
use Rattle.h5_tokenizer_input.specs.Told.{handed}
use Rattle.h5_tokenizer_input.proofs.AnswerLaws.{unrefused}
use Rattle.h5_plain_tokenizer.specs.declared.front.Mode.{Mode}
use Rattle.h5_plain_tokenizer.specs.declared.front.Mode.TheVariants.{Data, RawData, Plaintext, Cdata}
use Rattle.h5_plain_tokenizer.specs.End.{settle, Closes}
use Rattle.h5_plain_tokenizer.specs.Front.{ReaderPlace, front}
use Rattle.h5_plain_tokenizer.specs.Outcome.{Feeds}
use Rattle.h5_plain_tokenizer.specs.Read.{Read, Reads, IsUndecided}
use Rattle.h5_plain_tokenizer.specs.ReaderText.{ReaderText}
use Rattle.h5_plain_tokenizer.specs.Whole.{HasRead, Readings, no_reading, more_reading, ReadsToEnd, closing, after_closing}
use Rattle.h5_plain_tokenizer.proofs.ReadLaws.{read_goes_on}

front_nothing : (mode : Mode) (last : List ℕ) (foreign : Bool) → front mode last foreign [] ≡ Open
front_nothing Data last foreign = refl
front_nothing (RawData Rcdata) [] foreign = refl
front_nothing (RawData Rawtext) [] foreign = refl
front_nothing (RawData ScriptData) [] foreign = refl
front_nothing (RawData kind) (c ∷ cs) foreign = refl
front_nothing Plaintext last foreign = refl
front_nothing Cdata last foreign = refl

-- nothing is decided about the empty input
pub undecided_nothing : (p : ReaderPlace) (foreign : Bool) → IsUndecided p foreign []
undecided_nothing p foreign = ((λ _. refl), (λ _. front_nothing p.mode p.last foreign))

module _ {M : Type 0} (reply_to : M → TokenText → Reply) (after : M → TokenText → ℕ → M) (foreign : M → Bool) where
  pub readings_go_on : {p : ReaderPlace} {m : M} {xs : List ℕ} {ts : List TokenText} {q : ReaderPlace} {n : M} {ys : List ℕ} (more : List ℕ) → Readings reply_to after foreign p m xs ts q n ys → Readings reply_to after foreign p m (xs ++ more) ts q n (ys ++ more)
  readings_go_on more no_reading = no_reading
  readings_go_on more (more_reading readings read goes) = more_reading (readings_go_on more readings) (read_goes_on reply_to after foreign more read) goes

  pub pieces_join : {p : ReaderPlace} {m : M} {xs : List ℕ} {ts : List TokenText} {q : ReaderPlace} {n : M} {ys : List ℕ} {us : List TokenText} {reply : Reply} {r : ReaderPlace} {o : M} {zs : List ℕ} (more : List ℕ)
      → Readings reply_to after foreign p m xs ts q n ys → Read reply_to after foreign q n (ys ++ more) us reply r o zs → refuses reply ≡ false
      → Readings reply_to after foreign p m (xs ++ more) (ts ++ us) r o zs
  pieces_join more readings read goes = more_reading (readings_go_on more readings) read goes

  has_read_more : {p : ReaderPlace} {m : M} {xs : List ℕ} {q : ReaderPlace} {n : M} {ys : List ℕ} {reply : Reply} {r : ReaderPlace} {o : M} {zs : List ℕ} (more rest : List ℕ)
      → HasRead reply_to after foreign p m xs q n ys → Reads reply_to after foreign q n (ys ++ more) reply r o zs → refuses reply ≡ false → zs ≡ rest
      → HasRead reply_to after foreign p m (xs ++ more) r o rest
  has_read_more {p} {m} {xs} {r} {o} more rest had reads goes e =
      subst (λ (l : List ℕ). HasRead reply_to after foreign p m (xs ++ more) r o l) e
      (record { tokens = had.tokens ++ reads.tokens; readings = pieces_join more had.readings reads.read goes })

  -- a call of `feed` that succeeds continues what was read
  pub feeds_join : {H : Type 0} (node : H → ℕ) (p : ReaderPlace) (m : M) (xs more : List ℕ) (q : ReaderPlace) (n : M) (ys : List ℕ) (new : ReaderText) (o : M) (queue : List ℕ) (answer : TokenizerResult H)
      → HasRead reply_to after foreign p m xs q n ys → Feeds reply_to after foreign node q n (ys ++ more) new o queue (Ok answer)
      → HasRead reply_to after foreign p m (xs ++ more) new.place o (new.held ++ queue)
  feeds_join node p m xs more q n ys new o queue result.Done had fed =
      has_read_more more (new.held ++ queue) had fed.reads (unrefused fed.reply fed.goes_on) (sym (append-nil new.held) ∙ ap (λ l. new.held ++ l) (sym fed.empty))
  feeds_join node p m xs more q n ys new o queue (result.Script handle) had fed =
      has_read_more more (new.held ++ queue) had fed.reads refl (ap (λ l. l ++ queue) (sym fed.nothing_held))
  feeds_join node p m xs more q n ys new o queue (result.EncodingIndicator encoding) had fed =
      has_read_more more (new.held ++ queue) had fed.reads refl (ap (λ l. l ++ queue) (sym fed.nothing_held))

module _ {M : Type 0} (reply_to : M → TokenText → Reply) (after : M → TokenText → ℕ → M) (foreign : M → Bool) (ended : M → M) where
  closed_by : (n o : M) (s : Option TokenText) (line last : ℕ) → ClosesWith reply_to after ended n (handed s) line last o (Ok tt) → o ≡ ended (after_closing after n s line last)
  closed_by n o None line last h = h.1
  closed_by n o (Some t) line last h = h.1.1

  pub end_ends : (p : ReaderPlace) (m : M) (xs : List ℕ) (ts : List TokenText) (q : ReaderPlace) (n : M) (ys : List ℕ) (o : M)
      → Readings reply_to after foreign p m xs ts q n ys → IsUndecided q (foreign n) ys
      → Closes reply_to after foreign ended q n ys o (Ok tt)
      → ReadsToEnd reply_to after foreign ended p m xs (ts ++ closing (settle q.mode q.last (foreign n) ys)) o
  end_ends p m xs ts q n ys o readings waits closes = record {
    handed = ts;
    place = q;
    meaning = n;
    rest = ys;
    readings = readings;
    undecided = waits;
    tokens = refl;
    closed = closed_by n o (settle q.mode q.last (foreign n) ys) q.line (line_behind q.line ys []) closes;
  }
