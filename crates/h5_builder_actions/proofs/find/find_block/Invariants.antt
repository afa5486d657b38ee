use Rattle.std.proofs.Common.{◌≡◌, ◌≤◌, ◌<◌, ◌-◌, ℕ, false, length}
use Rattle.std.specs.List.{list_any}
use Rattle.h5_tables.specs.TagSets.{is_special}
use Rattle.h5_builder_spec.specs.formatting.Adoption.{newer_than}
use Rattle.h5_builder_spec.specs.World.{name_in}
use Rattle.h5_builder_state.specs.View.{stack_under, world}
use Rattle.h5_builder_state.specs.OpenPlaces.{IsOpenAt}
use Rattle.h5_builder_actions.proofs.find.find_block.Given as goal

-- none between is special
abbrev pub invariant-up : goal.invariant-up
invariant-up g l =
    let w = world g.S.TreeSink.sees g.S.TreeSink.node l.sink l.state in
    record {
      count : l.count ≡ length w.stack;
      above : l.above ≤ l.count;
      below : l.place < l.above;
      none : (n : ℕ) → IsOpenAt n l.place w → list_any (λ m. is_special (name_in w.forest m)) (newer_than n (stack_under g.S.TreeSink.node l.state l.above)) ≡ false;
    }

abbrev pub decreases-up : goal.decreases-up
decreases-up g l = l.count - l.above
