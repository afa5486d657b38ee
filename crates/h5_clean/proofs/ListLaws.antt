-- A test over a list that is a map of another.
use Rattle.std.proofs.Common.{◌≡◌, ◌||◌, ◌∷◌, Bool, List, [], ap, map, refl}
use Rattle.std.specs.List.{list_any}

pub any_of_map : {X Y : Type 0} (test : Y → Bool) (f : X → Y) (xs : List X) → list_any test (map f xs) ≡ list_any (λ x. test (f x)) xs
any_of_map test f [] = refl
any_of_map test f (x ∷ xs) = ap (λ b. test (f x) || b) (any_of_map test f xs)
