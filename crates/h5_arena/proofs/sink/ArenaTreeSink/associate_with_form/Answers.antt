use Rattle.std.proofs.Common.{ap}
use Rattle.std.specs.Prelude.{None}
use Rattle.h5_interface.proofs.MakingLaws.{mark_rearranges}
use Rattle.h5_arena.specs.ArenaModel.{arena_choices, forest_in, node_view}
use Rattle.h5_arena.proofs.NodeWrites.{element_within, form_write, seen_after}
use Rattle.h5_arena.proofs.NoteLaws.{notes_associated}
use Rattle.h5_arena.proofs.sink.ArenaTreeSink.associate_with_form.Goals as goal

pub invariant_of-self : goal.invariant_of-self
invariant_of-self c =
    let held = (rw (← c.self.view_is) at c.requires.form) in
    let there = element_within c.self.inside.nodes.items c.args.target.now.index (rw (← c.self.view_is) at c.requires.target) in
    rw (form_write c.self.inside.nodes.items c.args.target.now.index c.args.form.now.index 0 None c.index_mut-node.result.now (record c.index_mut-node.result.now { form = c.to-node.result }) there c.index_mut-node.ensures.value (ap (λ p. record (node_view c.index_mut-node.result.now) { marks = record (node_view c.index_mut-node.result.now).marks { form = p } }) c.to-node.ensures)) (record {
      is_forest = (mark_rearranges (forest_in c.self.inside.nodes.items) (arena_choices.marks_after_associate (forest_in c.self.inside.nodes.items) c.args.target.now.index c.args.form.now.index 0 None) c.self.invariant.is_forest).is_forest;
      notes = notes_associated (forest_in c.self.inside.nodes.items) c.args.target.now.index c.args.form.now.index 0 None held c.self.invariant.notes;
    })

pub returns-clause-associated : goal.returns-clause-associated
returns-clause-associated c =
    let there = element_within c.self.inside.nodes.items c.args.target.now.index (rw (← c.self.view_is) at c.requires.target) in
    rw (← c.self.view_is) (seen_after _ _ _ _ (form_write c.self.inside.nodes.items c.args.target.now.index c.args.form.now.index 0 None c.index_mut-node.result.now (record c.index_mut-node.result.now { form = c.to-node.result }) there c.index_mut-node.ensures.value (ap (λ p. record (node_view c.index_mut-node.result.now) { marks = record (node_view c.index_mut-node.result.now).marks { form = p } }) c.to-node.ensures)))
