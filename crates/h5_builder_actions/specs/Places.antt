-- The place of insertion, in the form of the code.
use Rattle.std.specs.Prelude.{ℕ}
use Rattle.h5_builder_spec.specs.insertion.Place.{LastChild, Place, TableFosterParenting}
use Rattle.h5_builder_actions.specs.declared.place.InsertionPoint.{InsertionPoint}
use Rattle.h5_builder_actions.specs.declared.place.InsertionPoint.TheVariants as points

abbrev pub place_of : {H : Type 0} → (H → ℕ) → InsertionPoint H → Place
place_of node (points.LastChild parent) = LastChild (node parent)
place_of node (points.TableFosterParenting element prev) = TableFosterParenting (node element) (node prev)
