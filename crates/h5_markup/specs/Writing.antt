-- Attributes as they are written, independent of where they are in memory.
use Rattle.std.specs.Prelude.{◌≡◌, ℕ, List, [], ◌∷◌}
use Rattle.h5_markup.specs.Attributes as a
use Rattle.h5_markup.specs.declared.attributes.Written.{Written}

abbrev pub written : Written → a.Written
written w = record { name = w.name.now; value = w.value.now; rest = w.rest.now }

abbrev pub WrittenAt : List ℕ → a.Written → Type 0
WrittenAt [] w = ⊥
WrittenAt (x ∷ xs) w = w ≡ a.attribute_at x xs
