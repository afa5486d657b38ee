use Rattle.std.proofs.Common.{◌≡◌, ◌≤◌, ◌+◌, ◌-◌, ◌∷◌, ℕ, List, map}
use Rattle.h5_builder_spec.specs.formatting.Adoption.{to_clone}
use Rattle.h5_builder_spec.specs.formatting.InnerLoop.{picked}
use Rattle.h5_builder_spec.specs.formatting.AdoptionAgency.{IsLoose, nest, KeepsKinds}
use Rattle.h5_builder_state.specs.Steps.{IsSound, world_of}
use Rattle.h5_builder_state.specs.View.{stack_under}
use Rattle.h5_builder_actions.specs.Hanging.{nest_of, open_between}
use Rattle.h5_builder_actions.specs.FormattingPlaces.{AreNodes}
use Rattle.h5_builder_actions.proofs.NestLaws.{grown}
use Rattle.h5_builder_actions.proofs.clones.make_clones.Given as goal

-- the clones that are there, and those that are still to be made, are all that are wanted
abbrev pub invariant-near : goal.invariant-near
invariant-near g l =
    let node = g.S.TreeSink.node in
    let choices = g.S.TreeSink.choices in
    let seen = g.S.TreeSink.sees l.sink in
    let was = g.S.TreeSink.sees l.fn.sink in
    let w = world_of g.S.TreeSink l.fn.sink l.fn.state in
    record {
      above : l.first ≤ l.place;
      inside : l.place ≤ l.block;
      sound : IsSound g.S.TreeSink l.sink l.state;
      kinds : KeepsKinds was.forest seen.forest;
      quiet : seen.errors ≡ was.errors;
      quirks : seen.quirks ≡ was.quirks;
      nodes : AreNodes seen.forest (map node l.clones.made.items);
      loose : (n : ℕ) (older : List ℕ) → stack_under node l.state (l.block + 1) ≡ n ∷ older → IsLoose seen.forest w.stack n (node l.clones.outermost);
      left : (n : ℕ) (older : List ℕ) → stack_under node l.state (l.block + 1) ≡ n ∷ older →
          grown choices w.formatting (picked l.left w.formatting (open_between node l.state l.first l.place)) (nest_of node seen.forest l.clones)
          ≡ nest choices w.formatting (to_clone w.formatting (open_between node l.state l.first l.block)) n was.forest;
    }

abbrev pub decreases-near : goal.decreases-near
decreases-near g l = l.place - l.first
