-- Readings go on and join, and what they emit is proper.
use Rattle.std.proofs.Common.{◌≡◌, ℕ, Bool, true, List, ◌++◌, refl, ◌∙◌, append_assoc, append-nil}
use Rattle.h5_token.specs.TokenText.{TokenText}
use Rattle.h5_token.specs.Reply.{Reply}
use Rattle.h5_tokenizer_input.specs.Answers.{goes_on}
use Rattle.h5_tokenizer_input.specs.Proper.{AreProper}
use Rattle.h5_tokenizer_input.proofs.ProperLaws.{proper_append}
use Rattle.h5_tokenizer_spec.specs.Lines.{normal}
use Rattle.h5_tokenizer_spec.specs.References.{Reference}
use Rattle.h5_tokenizer_spec.specs.Reading.{ReaderPlace, Passes, passed, drops, goes, again, Step, quiet_step, text_step, token_step, ask_step, Read, nothing_read, read_on}
use Rattle.h5_tokenizer_spec.proofs.RankLaws.{hands_proper}

pub passes_go_on : (table : List Reference) {p q : ReaderPlace} {xs text ys : List ℕ} (more : List ℕ) → Passes table p xs text q ys → Passes table p (xs ++ more) text q (ys ++ more)
passes_go_on table more passed = passed
passes_go_on table more (drops d h) = drops d (passes_go_on table more h)
passes_go_on table more (goes text state d e h) = goes text state d e (passes_go_on table more h)
passes_go_on table more (again text state d e h) = again text state d e (passes_go_on table more h)

-- bytes are passed, and then more
pub passes_join : (table : List Reference) {p q r : ReaderPlace} {xs ys zs text more : List ℕ} → Passes table p xs text q ys → Passes table q ys more r zs → Passes table p xs (text ++ more) r zs
passes_join table passed h = h
passes_join table (drops d g) h = drops d (passes_join table g h)
passes_join table (goes text state d e g) h = rw append_assoc (goes text state d e (passes_join table g h))
passes_join table (again text state d e g) h = rw append_assoc (again text state d e (passes_join table g h))

module _ (table : List Reference) {M : Type 0} (reply_to : M → TokenText → Reply) (after : M → TokenText → ℕ → M) (foreign : M → Bool) where
  step_goes_on : {p : ReaderPlace} {m : M} {xs : List ℕ} {ts : List TokenText} {reply : Reply} {q : ReaderPlace} {n : M} {ys : List ℕ} (more : List ℕ)
      → Step table reply_to after foreign p m xs ts reply q n ys → Step table reply_to after foreign p m (xs ++ more) ts reply q n (ys ++ more)
  step_goes_on more (quiet_step h) = quiet_step (passes_go_on table more h)
  step_goes_on more (text_step h) = text_step (passes_go_on table more h)
  step_goes_on more (token_step token state d e) = token_step token state d e
  step_goes_on more (ask_step there error elsewhere d e) = ask_step there error elsewhere d e

  -- what was read is read in the same way, whatever follows
  pub read_goes_on : {p : ReaderPlace} {m : M} {xs : List ℕ} {ts : List TokenText} {reply : Reply} {q : ReaderPlace} {n : M} {ys : List ℕ} (more : List ℕ)
      → Read table reply_to after foreign p m xs ts reply q n ys → Read table reply_to after foreign p m (xs ++ more) ts reply q n (ys ++ more)
  read_goes_on more nothing_read = nothing_read
  read_goes_on more (read_on read on step) = read_on (read_goes_on more read) on (step_goes_on more step)

  -- one reading, and then another; tokenization goes on after both exactly if it goes on after the second
  pub read_joins : {p : ReaderPlace} {m : M} {xs : List ℕ} {ts : List TokenText} {reply : Reply} {q : ReaderPlace} {n : M} {ys : List ℕ} {us : List TokenText} {next : Reply} {r : ReaderPlace} {o : M} {zs : List ℕ}
      → Read table reply_to after foreign p m xs ts reply q n ys → goes_on reply ≡ true → Read table reply_to after foreign q n ys us next r o zs
      → (last : Reply) × ((goes_on last ≡ goes_on next) × Read table reply_to after foreign p m xs (ts ++ us) last r o zs)
  read_joins {ts} {reply} first on nothing_read = (reply, (on, rw append-nil first))
  read_joins {ts} first on (read_on {ts = vs} {us = ws} {next} read on' step) =
      let before = read_joins first on read in
      (next, (refl, rw (← append_assoc) (read_on before.1.1 (before.1.0 ∙ on') step)))

  step_proper : {p : ReaderPlace} {m : M} {xs : List ℕ} {ts : List TokenText} {reply : Reply} {q : ReaderPlace} {n : M} {ys : List ℕ}
      → Step table reply_to after foreign p m xs ts reply q n ys → AreProper ts
  step_proper (quiet_step h) = tt
  step_proper (text_step h) = (tt, tt)
  step_proper (token_step {p} {x} token state d e) = (hands_proper table p.last p.state (normal x) token state e, tt)
  step_proper (ask_step there error elsewhere d e) = tt

  pub read_proper : {p : ReaderPlace} {m : M} {xs : List ℕ} {ts : List TokenText} {reply : Reply} {q : ReaderPlace} {n : M} {ys : List ℕ}
      → Read table reply_to after foreign p m xs ts reply q n ys → AreProper ts
  read_proper nothing_read = tt
  read_proper (read_on {ts} {us} read on step) = proper_append ts us (read_proper read) (step_proper step)
