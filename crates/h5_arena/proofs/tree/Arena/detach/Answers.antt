use Rattle.std.proofs.Common.{◌∙◌, ap}
use Rattle.h5_interface.specs.Changes.{detach}
use Rattle.h5_interface.specs.Forest.{parent_of}
use Rattle.h5_interface.specs.Seen.{CanDetach}
use Rattle.h5_interface.proofs.ForestLaws.{child_is_node}
use Rattle.h5_interface.proofs.HangingLaws.{detach_rearranges, detached_parent}
use Rattle.h5_arena.specs.ArenaModel.{forest_in}
use Rattle.h5_arena.proofs.KindLaws.{detached_kinds, elements_after}
use Rattle.h5_arena.proofs.NoteLaws.{notes_detached}
use Rattle.h5_arena.proofs.tree.Arena.detach.Goals as goal

pub invariant_of-self-in-Some : goal.invariant_of-self-in-Some
invariant_of-self-in-Some c =
    let child = (rw (← c.self.view_is) at c.in-Some.ensures.child) in
    let may : CanDetach (forest_in c.self.inside.nodes.items) c.args.id.index = record { is_node = child_is_node (forest_in c.self.inside.nodes.items) c.args.id.index c.in-Some.field-0.index child.parent; no_fragment = child.no_fragment } in
    rw c.in_ok-detach-in-Some.ensures.ok (record {
      is_forest = (detach_rearranges (forest_in c.self.inside.nodes.items) c.args.id.index c.self.invariant.is_forest may).is_forest;
      notes = notes_detached (forest_in c.self.inside.nodes.items) c.args.id.index c.self.invariant.notes;
    })

pub returns-in_ok-detach-in-Some-clause-free : goal.returns-in_ok-detach-in-Some-clause-free
returns-in_ok-detach-in-Some-clause-free c =
    λ _. ap (λ g. parent_of g c.args.id.index) c.in_ok-detach-in-Some.ensures.ok ∙ detached_parent (forest_in c.self.inside.nodes.items) c.args.id.index

pub returns-in_ok-detach-in-Some-clause-elements : goal.returns-in_ok-detach-in-Some-clause-elements
returns-in_ok-detach-in-Some-clause-elements c =
    let f = forest_in c.self.inside.nodes.items in
    rw (← c.self.view_is) (elements_after f (detach c.args.id.index f) (forest_in c.detach.new.nodes.items) c.in_ok-detach-in-Some.ensures.ok (detached_kinds (parent_of f c.args.id.index) c.args.id.index f))
