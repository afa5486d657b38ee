-- Texts, up to their first space.
use Rattle.std.proofs.Common.{◌≡◌, ℕ, suc, ◌<◌, List, [], ◌∷◌, ◌++◌, Some, None, length, get_or, refl, ◌∙◌, arith}
use Rattle.std.proofs.lemmas.Bool.{ne_eqb}
use Rattle.h5_print.specs.Words.{cut}

cut_more : (c : ℕ) (cs : List ℕ) → (c ≡ 32 → ⊥) → cut (c ∷ cs) ≡ record { word = c ∷ (cut cs).word; operand = (cut cs).operand }
cut_more c cs ne = let h = ne_eqb c 32 ne in rw h refl

-- a text with a space, and one without
pub cut_at : (front rest : List ℕ) → ((k : ℕ) → k < length front → get_or front k 0 ≡ 32 → ⊥) → cut (front ++ 32 ∷ rest) ≡ record { word = front; operand = Some rest }
cut_at [] rest h = refl
cut_at (c ∷ front) rest h =
    let same = cut_at front rest (λ k lt. h (suc k) (omega arith)) in
    cut_more c (front ++ 32 ∷ rest) (h 0 (omega arith)) ∙ (λ i. record { word = c ∷ (same i).word; operand = (same i).operand })

pub cut_none : (xs : List ℕ) → ((k : ℕ) → k < length xs → get_or xs k 0 ≡ 32 → ⊥) → cut xs ≡ record { word = xs; operand = None }
cut_none [] h = refl
cut_none (c ∷ cs) h =
    let same = cut_none cs (λ k lt. h (suc k) (omega arith)) in
    cut_more c cs (h 0 (omega arith)) ∙ (λ i. record { word = c ∷ (same i).word; operand = (same i).operand })
