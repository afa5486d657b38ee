-- The context of a test.
use Rattle.std.specs.Prelude.{ℕ, Bool, List, Option}
use Rattle.h5_interface.specs.Forest.{Forest}
use Rattle.h5_selectors.specs.Holds.{holds, matches}
use Rattle.h5_selectors.specs.declared.formula.Formula.{Formula}

-- a forest, whether ids and classes are compared ASCII case-insensitively, and the scope
pub record Context : Type 0 where
  pub forest : Forest
  pub quirky : Bool
  pub scope : Option ℕ

abbrev pub context : Forest → Bool → Option ℕ → Context
context f q s = record { forest = f; quirky = q; scope = s }

abbrev pub seen_by : Context → Forest
seen_by c = c.forest

abbrev pub holds_by : Context → Formula → ℕ → Bool
holds_by c = holds c.forest c.quirky c.scope

abbrev pub matches_by : Context → List Formula → ℕ → Bool
matches_by c = matches c.forest c.quirky c.scope
