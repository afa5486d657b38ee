-- The index of the newest value of a number in a stack of numbered values.
use Rattle.std.proofs.Common.{◌≡◌, ℕ, List, [], ◌∷◌, map, refl}
use Rattle.h5_builder_state.specs.Numbered.{Numbered, newest_under, one_of}

-- the letters a to d
abbrev four : List (Numbered ℕ)
four = one_of 1 97 ∷ one_of 2 98 ∷ one_of 1 99 ∷ one_of 3 100 ∷ []

newest : map (λ number. newest_under number four 4) (1 ∷ 2 ∷ 3 ∷ 0 ∷ 9 ∷ []) ≡ 3 ∷ 2 ∷ 4 ∷ 0 ∷ 0 ∷ []
newest = refl

older : map (λ place. newest_under 1 four place) (2 ∷ 0 ∷ []) ≡ 1 ∷ 0 ∷ []
older = refl
