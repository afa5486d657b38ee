-- A reading of nothing, and how much is left to do after a reply that stops reading.
use Rattle.std.proofs.Common.{◌≡◌, ◌≢◌, ◌<◌, ◌≤◌, ℕ, Bool, true, false, List, [], ◌∷◌, refl, sym, ◌∙◌, arith}
use Rattle.std.proofs.lemmas.Bool.{false≢true}
use Rattle.h5_token.specs.Reply.{Reply}
use Rattle.h5_token.specs.TokenText.{TokenText}
use Rattle.h5_tokenizer_input.specs.Answers.{goes_on}
use Rattle.h5_tokenizer_spec.specs.ReferenceTable.{references}
use Rattle.h5_tokenizer_spec.specs.Reading.{ReaderPlace, Passes, passed, drops, goes, again, Step, quiet_step, text_step, token_step, ask_step, Read, nothing_read, read_on, behind, behind_newline}
use Rattle.h5_standard_tokenizer.specs.Weight.{weight}
use Rattle.h5_standard_tokenizer.proofs.WeightLaws.{passes_is_no_more, reconsumed_is_less, shorter_is_less}

consumed_is_less : (p q : ReaderPlace) (x : ℕ) (xs : List ℕ) → weight q xs < weight p (x ∷ xs)
consumed_is_less p q x xs = shorter_is_less p q (x ∷ xs) xs (omega arith)

-- what emits a text leaves less to do
passes_is_less : {p q : ReaderPlace} {xs text ys : List ℕ} → Passes references p xs text q ys → text ≢ [] → weight q ys < weight p xs
passes_is_less passed h = absurd (h refl)
passes_is_less (drops {p} {x} {xs} d rest) h = omega (arith, passes_is_no_more rest, consumed_is_less p (behind_newline p) x xs)
passes_is_less (goes {p} {x} {xs} text state d e rest) h = omega (arith, passes_is_no_more rest, consumed_is_less p (behind x state p) x xs)
passes_is_less (again {p} {x} {xs} text state d e rest) h = omega (arith, passes_is_no_more rest, reconsumed_is_less p x xs text state e)

-- in an empty input there is nothing to pass
record PassesNothing (p : ReaderPlace) (text : List ℕ) (q : ReaderPlace) (ys : List ℕ) : Type 0 where
  emitted : text ≡ []
  place : p ≡ q
  rest : ys ≡ []

nothing_passes : {p q : ReaderPlace} {xs text ys : List ℕ} → Passes references p xs text q ys → xs ≡ [] → PassesNothing p text q ys
nothing_passes passed e = record { emitted = refl; place = refl; rest = e }
nothing_passes (drops {x = x} {xs = xs} d rest) e = let no : x ∷ xs ≡ [] = e in cc
nothing_passes (goes {x = x} {xs = xs} text state d f rest) e = let no : x ∷ xs ≡ [] = e in cc
nothing_passes (again {x = x} {xs = xs} text state d f rest) e = let no : x ∷ xs ≡ [] = e in cc

module _ {M : Type 0} (reply_to : M → TokenText → Reply) (after : M → TokenText → ℕ → M) (foreign : M → Bool) where
  -- and nothing to read
  pub record ReadsNothing (p : ReaderPlace) (m : M) (ts : List TokenText) (reply : Reply) (q : ReaderPlace) (n : M) (ys : List ℕ) : Type 0 where
    pub tokens : ts ≡ []
    pub goes_on : goes_on reply ≡ true
    pub place : p ≡ q
    pub meaning : m ≡ n
    pub rest : ys ≡ []

  nothing_steps : {p : ReaderPlace} {m : M} {xs : List ℕ} {ts : List TokenText} {reply : Reply} {q : ReaderPlace} {n : M} {ys : List ℕ} → Step references reply_to after foreign p m xs ts reply q n ys → xs ≡ [] → ReadsNothing p m ts reply q n ys
  nothing_steps (quiet_step h) e = let k = nothing_passes h e in record { tokens = refl; goes_on = refl; place = k.place; meaning = refl; rest = k.rest }
  nothing_steps (text_step {x = x} {text = text} h) e = let no : x ∷ text ≡ [] = (nothing_passes h e).emitted in cc
  nothing_steps (token_step {x = x} {xs = xs} token state d f) e = let no : x ∷ xs ≡ [] = e in cc
  nothing_steps (ask_step {x = x} {xs = xs} there error elsewhere d f) e = let no : x ∷ xs ≡ [] = e in cc

  pub nothing_reads : {p : ReaderPlace} {m : M} {xs : List ℕ} {ts : List TokenText} {reply : Reply} {q : ReaderPlace} {n : M} {ys : List ℕ} → Read references reply_to after foreign p m xs ts reply q n ys → xs ≡ [] → ReadsNothing p m ts reply q n ys
  nothing_reads nothing_read e = record { tokens = refl; goes_on = refl; place = refl; meaning = refl; rest = e }
  nothing_reads (read_on {ts = ts} {us = us} r on s) e =
      let k = nothing_reads r e in
      let l = nothing_steps s k.rest in
      record {
        tokens = rw (k.tokens, l.tokens) refl;
        goes_on = l.goes_on;
        place = k.place ∙ l.place;
        meaning = k.meaning ∙ l.meaning;
        rest = l.rest;
      }

  step_is_no_more : {p : ReaderPlace} {m : M} {xs : List ℕ} {ts : List TokenText} {reply : Reply} {q : ReaderPlace} {n : M} {ys : List ℕ} → Step references reply_to after foreign p m xs ts reply q n ys → weight q ys ≤ weight p xs
  step_is_no_more (quiet_step h) = passes_is_no_more h
  step_is_no_more (text_step h) = passes_is_no_more h
  step_is_no_more {p} {q} (token_step {x = x} {xs = xs} token state d e) = omega (arith, consumed_is_less p q x xs)
  step_is_no_more {p} {q} (ask_step {x = x} {xs = xs} there error elsewhere d e) = omega (arith, consumed_is_less p q x xs)

  read_is_no_more : {p : ReaderPlace} {m : M} {xs : List ℕ} {ts : List TokenText} {reply : Reply} {q : ReaderPlace} {n : M} {ys : List ℕ} → Read references reply_to after foreign p m xs ts reply q n ys → weight q ys ≤ weight p xs
  read_is_no_more nothing_read = omega arith
  read_is_no_more (read_on r on s) = omega (arith, read_is_no_more r, step_is_no_more s)

  -- a step that stops reading passed something
  step_is_less : {p : ReaderPlace} {m : M} {xs : List ℕ} {ts : List TokenText} {reply : Reply} {q : ReaderPlace} {n : M} {ys : List ℕ} → Step references reply_to after foreign p m xs ts reply q n ys → goes_on reply ≡ false → weight q ys < weight p xs
  step_is_less (quiet_step h) e = absurd (false≢true (sym e))
  step_is_less (text_step {x = x} {text = text} h) e = passes_is_less h (λ no. cc)
  step_is_less {p} {q} (token_step {x = x} {xs = xs} token state d f) e = consumed_is_less p q x xs
  step_is_less {p} {q} (ask_step {x = x} {xs = xs} there error elsewhere d f) e = consumed_is_less p q x xs

  pub stopped_is_less : {p : ReaderPlace} {m : M} {xs : List ℕ} {ts : List TokenText} {reply : Reply} {q : ReaderPlace} {n : M} {ys : List ℕ} → Read references reply_to after foreign p m xs ts reply q n ys → goes_on reply ≡ false → weight q ys < weight p xs
  stopped_is_less nothing_read e = absurd (false≢true (sym e))
  stopped_is_less (read_on r on s) e = omega (arith, read_is_no_more r, step_is_less s e)
