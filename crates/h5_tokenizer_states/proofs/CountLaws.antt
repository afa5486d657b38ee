-- Newlines in a run.
use Rattle.std.proofs.Common.{◌≡◌, ℕ, zero, suc, add-one, ◌+◌, ◌<◌, ◌≤◌, Bool, true, false, ◌==◌, ◌&&◌, cond, List, [], ◌∷◌, ◌++◌, length, take, drop, get_or, refl, sym, ap, ◌∙◌, arith, if◌then◌else◌, length-drop}
use Rattle.std.proofs.Math.Seq.{take-add, take-suc}
use Rattle.std.proofs.lemmas.Bool.{and_parts}
use Rattle.std.proofs.lemmas.List.{length-take-le}
use Rattle.h5_markup.specs.Plain.{is_plain}
use Rattle.h5_markup.proofs.PlainBytes.{plain}
use Rattle.h5_tokenizer_input.specs.Lines.{newlines, ends_in_cr}
use Rattle.h5_tokenizer_input.proofs.LineLaws.{few, newlines_append}
use Rattle.h5_tokenizer_states.specs.Runs.{is_in, are_in}
use Rattle.h5_tokenizer_states.specs.declared.runs.Run.{Run}
use Rattle.h5_tokenizer_states.specs.declared.runs.Run.TheVariants as run
use Rattle.h5_tokenizer_states.proofs.PassLaws.{not_return}

-- no run ends in a CARRIAGE RETURN
ends_in_run : (run : Run) (xs : List ℕ) → are_in run xs ≡ true → ends_in_cr false xs ≡ false
ends_in_run run [] h = refl
ends_in_run run (x ∷ xs) h =
    let p = and_parts (is_in run x) (are_in run xs) h in
    ap (λ b. ends_in_cr b xs) (not_return run x p.0) ∙ ends_in_run run xs p.1

-- n bytes at the start are in a run, with this number of newlines
pub record AreCounted (run : Run) (xs : List ℕ) (n lines : ℕ) : Type 0 where
  pub within : n ≤ length xs
  pub taken : are_in run (take n xs) ≡ true
  pub counted : lines ≡ newlines false (take n xs)

both_in : (run : Run) (xs ys : List ℕ) → are_in run xs ≡ true → are_in run ys ≡ true → are_in run (xs ++ ys) ≡ true
both_in run [] ys h i = i
both_in run (x ∷ xs) ys h i = let p = and_parts (is_in run x) (are_in run xs) h in rw (p.0, both_in run xs ys p.1 i) refl

-- two adjacent parts
pub counted_on : (run : Run) (xs rest : List ℕ) (n m lines others : ℕ) → rest ≡ drop n xs → AreCounted run xs n lines → AreCounted run rest m others → AreCounted run xs (n + m) (lines + others)
counted_on run xs rest n m lines others e first second =
    let front = take n xs in
    let back = take m (drop n xs) in
    let counted : others ≡ newlines false back = second.counted ∙ ap (λ l. newlines false (take m l)) e in
    record {
      within = omega (arith, first.within, second.within, ap length e, length-drop n xs);
      taken = ap (are_in run) (take-add n m xs) ∙ both_in run front back first.taken (ap (λ l. are_in run (take m l)) (sym e) ∙ second.taken);
      counted = (λ i. first.counted i + counted i)
          ∙ ap (λ b. newlines false front + newlines b back) (sym (ends_in_run run front first.taken))
          ∙ sym (newlines_append false front back) ∙ ap (newlines false) (sym (take-add n m xs));
    }

one_newline : (b : Bool) → (if b && true then 1 + 0 else 0) ≡ cond b 1 0
one_newline true = refl
one_newline false = refl

newlines_of : (x : ℕ) → (x == 13) ≡ false → newlines false (x ∷ []) ≡ cond (x == 10) 1 0
newlines_of x e = rw e (one_newline (x == 10))

pub none_more : {lines : ℕ} {b : Bool} → b ≡ false → lines + cond b 1 0 ≡ lines
none_more {lines} e = rw e (omega arith)

-- one more byte
pub counted_next : (run : Run) (xs : List ℕ) (n lines next : ℕ) → n < length xs → are_in run (take n xs) ≡ true → lines ≡ newlines false (take n xs) → is_in run (get_or xs n 0) ≡ true
    → next ≡ lines + cond (get_or xs n 0 == 10) 1 0 → (are_in run (take (n + 1) xs) ≡ true) × (next ≡ newlines false (take (n + 1) xs))
counted_next run xs n lines next lt taken counted here e =
    let x = get_or xs n 0 in
    let grown : take (n + 1) xs ≡ take n xs ++ x ∷ [] = ap (λ k. take k xs) (add-one n) ∙ take-suc xs n 0 lt in (
      ap (are_in run) grown ∙ both_in run (take n xs) (x ∷ []) taken (rw here refl),
      e ∙ (λ i. counted i + sym (newlines_of x (not_return run x here)) i)
          ∙ ap (λ b. newlines false (take n xs) + newlines b (x ∷ [])) (sym (ends_in_run run (take n xs) taken))
          ∙ sym (newlines_append false (take n xs) (x ∷ [])) ∙ ap (newlines false) (sym grown),
    )

-- there are no more newlines than bytes
pub counted_few : (run : Run) (xs : List ℕ) (n lines : ℕ) → AreCounted run xs n lines → lines ≤ n
counted_few run xs n lines h = omega (arith, h.counted, few false (take n xs), length-take-le n xs h.within)

-- what is text in every state is in the run of a text with references
plain_is_in : (x : ℕ) → is_plain x ≡ true → is_in run.References x ≡ true
plain_is_in x h = let p = plain x h in rw (p.lt, p.amp, p.nul, p.cr) refl

pub plain_are_in : (xs : List ℕ) (n : ℕ) → n ≤ length xs → ((k : ℕ) → k < n → is_plain (get_or xs k 0) ≡ true) → are_in run.References (take n xs) ≡ true
plain_are_in xs zero le h = refl
plain_are_in [] (suc n) le h = refl
plain_are_in (x ∷ xs) (suc n) le h = rw (plain_is_in x (h 0 (omega arith)), plain_are_in xs n (omega arith) (λ k lt. h (suc k) (omega arith))) refl
