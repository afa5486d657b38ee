-- The last of a list.
use Rattle.std.proofs.Common.{◌≡◌, ◌∙◌, ℕ, suc, ◌-◌, List, [], ◌∷◌, ◌++◌, ap, arith, length, map, refl}
use Rattle.std.specs.Prelude.{slice_get}
use Rattle.std.specs.Option.{option_to_list}
use Rattle.h5_selectors.specs.Ways.{last_of}

pub mapped_last : {N : Type 0} (place : N → ℕ) (xs : List N) → map place (option_to_list (slice_get xs (length xs - 1))) ≡ last_of (map place xs)
mapped_last place [] = refl
mapped_last place (x ∷ []) = refl
mapped_last place (x ∷ y ∷ ys) =
    let e : length (x ∷ y ∷ ys) - 1 ≡ suc (length ys) = omega arith in
    let g : length ys ≡ length (y ∷ ys) - 1 = omega arith in
    ap (λ i. map place (option_to_list (slice_get (x ∷ y ∷ ys) i))) e
    ∙ ap (λ i. map place (option_to_list (slice_get (y ∷ ys) i))) g
    ∙ mapped_last place (y ∷ ys)

-- a last entry more
pub last_more : (xs : List ℕ) (n : ℕ) → last_of (xs ++ n ∷ []) ≡ n ∷ []
last_more [] n = refl
last_more (x ∷ []) n = refl
last_more (x ∷ y ∷ ys) n = last_more (y ∷ ys) n
