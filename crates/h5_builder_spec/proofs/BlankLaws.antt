-- Blanks of a text that is made of two.
use Rattle.std.proofs.Common.{◌≡◌, ℕ, true, false, ◌&&◌, List, [], ◌∷◌, ◌++◌, refl}
use Rattle.h5_builder_spec.specs.Blanks.{all_blank, is_blank}

pub all_blank-append : (t u : List ℕ) → all_blank (t ++ u) ≡ (all_blank t && all_blank u)
all_blank-append [] u = refl
all_blank-append (b ∷ t) u = elim (is_blank b) as (λ v. (v && all_blank (t ++ u)) ≡ ((v && all_blank t) && all_blank u)) [ true ↦ all_blank-append t u | false ↦ refl ]
