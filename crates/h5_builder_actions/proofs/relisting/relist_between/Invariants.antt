use Rattle.std.proofs.Common.{◌≡◌, ◌-◌, ◌≤◌, ℕ, List, drop, length, map, take}
use Rattle.h5_builder_spec.specs.formatting.FormattingList.{nodes_of}
use Rattle.h5_builder_spec.specs.formatting.InnerLoop.{walked}
use Rattle.h5_builder_state.specs.View.{stack_under, world}
use Rattle.h5_builder_actions.specs.FormattingPlaces.{AreNodes}
use Rattle.h5_builder_actions.specs.Restacks.{MayRestack}
use Rattle.h5_builder_actions.proofs.relisting.relist_between.Given as goal

-- what is left gives what was to come at first
abbrev pub invariant-down : goal.invariant-down
invariant-down g l =
    let node = g.S.TreeSink.node in
    let first = world g.S.TreeSink.sees node l.sink l.fn.state in
    let w = world g.S.TreeSink.sees node l.sink l.state in
    let clones = map node l.clones.items in
    record {
      place : l.place ≤ l.block;
      used : l.used ≤ length l.clones.items;
      stack : l.state.open_elems ≡ l.fn.state.open_elems;
      restack : (ns : List ℕ) → MayRestack node l.fn.state.open_elems l.block ns l.fn.state.active_formatting → MayRestack node l.fn.state.open_elems l.block ns l.state.active_formatting;
      listed : AreNodes (g.S.TreeSink.sees l.sink).forest (nodes_of w.formatting);
      world : w ≡ record first { formatting = w.formatting };
      left : walked (3 - (l.block - l.place)) (take (l.place - l.first) (stack_under node l.fn.state l.place)) (drop l.used clones) w.formatting
          ≡ walked 3 (take (l.block - l.first) (stack_under node l.fn.state l.block)) clones first.formatting;
    }

abbrev pub decreases-down : goal.decreases-down
decreases-down g l = l.place
