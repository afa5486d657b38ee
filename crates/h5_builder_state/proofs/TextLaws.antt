-- A run of blanks that grows, and one that has none.
use Rattle.std.proofs.Common.{◌≡◌, ℕ, ◌+◌, ◌<◌, true, false, cond, List, [], ◌∷◌, ◌++◌, length, take, get_or, refl, arith}
use Rattle.std.proofs.lemmas.List.{take_more}
use Rattle.h5_builder_spec.specs.Blanks.{is_blank, rest_of}

rest_of-push : (t : List ℕ) (b : ℕ) → rest_of t ≡ [] → is_blank b ≡ true → rest_of (t ++ b ∷ []) ≡ []
rest_of-push [] b h k = rw k refl
rest_of-push (a ∷ t) b h k =
    (elim (is_blank a) as (λ v. cond v (rest_of t) (a ∷ t) ≡ [] → cond v (rest_of (t ++ b ∷ [])) (a ∷ (t ++ b ∷ [])) ≡ []) [ true ↦ λ e. rest_of-push t b e k | false ↦ λ e. cc ]) h

pub rest_of-more : (t : List ℕ) (i : ℕ) → i < length t → rest_of (take i t) ≡ [] → is_blank (get_or t i 0) ≡ true → rest_of (take (i + 1) t) ≡ []
rest_of-more t i l h k = rw (take_more t i 0 l) (rest_of-push (take i t) (get_or t i 0) h k)

pub blank_small : (b : ℕ) → is_blank b ≡ true → b < 128
blank_small b h = grind arith
