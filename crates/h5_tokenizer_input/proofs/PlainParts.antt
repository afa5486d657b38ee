-- Plain text, part by part.
use Rattle.std.proofs.Common.{◌≡◌, ℕ, ◌+◌, ◌-◌, ◌<◌, ◌≤◌, false, true, List, length, take, drop, get_or, ap, sym, ◌∙◌, ⊎_elim, arith, length-drop}
use Rattle.std.proofs.lemmas.Bool.{cases_lt}
use Rattle.std.proofs.lemmas.List.{get_or-drop, get_or-take, take-take, length-take-le}
use Rattle.h5_markup.specs.Plain.{is_plain}
use Rattle.h5_tokenizer_input.specs.Lines.{newlines}
use Rattle.h5_tokenizer_input.proofs.LineLaws.{few}
use Rattle.h5_tokenizer_input.proofs.PlainLines.{plain_apart}

-- n bytes are plain, with this number of newlines
pub record ArePlain (xs : List ℕ) (n lines : ℕ) : Type 0 where
  pub within : n ≤ length xs
  pub plain : (k : ℕ) → k < n → is_plain (get_or xs k 0) ≡ true
  pub counted : lines ≡ newlines false (take n xs)

-- a byte of a suffix
pub in_rest : (xs rest : List ℕ) (n k : ℕ) → rest ≡ drop n xs → get_or rest k 0 ≡ get_or xs (n + k) 0
in_rest xs rest n k e = ap (λ l. get_or l k 0) e ∙ get_or-drop n xs k 0

joined_plain : (xs rest : List ℕ) (n m : ℕ) → rest ≡ drop n xs → ((k : ℕ) → k < n → is_plain (get_or xs k 0) ≡ true) → ((k : ℕ) → k < m → is_plain (get_or rest k 0) ≡ true) → (k : ℕ) → k < n + m → is_plain (get_or xs k 0) ≡ true
joined_plain xs rest n m e before behind k lt =
    ⊎_elim
    (λ below. before k below)
    (λ above.
    let back : n + (k - n) ≡ k = omega arith in
    sym (ap is_plain (in_rest xs rest n (k - n) e ∙ ap (λ j. get_or xs j 0) back)) ∙ behind (k - n) (omega arith))
    (cases_lt k n)

-- two adjacent parts
pub joined : (xs rest : List ℕ) (n m lines others : ℕ) → rest ≡ drop n xs → ArePlain xs n lines → ArePlain rest m others → ArePlain xs (n + m) (lines + others)
joined xs rest n m lines others e first second = record {
  within = omega (arith, first.within, second.within, ap length e, length-drop n xs);
  plain = joined_plain xs rest n m e first.plain second.plain;
  counted = (λ i. first.counted i + second.counted i) ∙ ap (λ l. newlines false (take n xs) + newlines false (take m l)) e ∙ sym (plain_apart xs n m first.within first.plain);
}

-- a part of the start
pub of_front : (xs front : List ℕ) (near n lines : ℕ) → front ≡ take near xs → near ≤ length xs → n ≤ near → ArePlain front n lines → ArePlain xs n lines
of_front xs front near n lines e le inside h = record {
  within = omega arith;
  plain = λ k lt. let here : k < near = omega arith in sym (ap is_plain (ap (λ l. get_or l k 0) e ∙ get_or-take near xs k 0 here)) ∙ h.plain k lt;
  counted = h.counted ∙ ap (λ l. newlines false (take n l)) e ∙ ap (newlines false) (take-take n near xs inside);
}

-- there are no more newlines than bytes
pub at_most : (xs : List ℕ) (n lines : ℕ) → ArePlain xs n lines → lines ≤ n
at_most xs n lines h = omega (arith, h.counted, few false (take n xs), length-take-le n xs h.within)
