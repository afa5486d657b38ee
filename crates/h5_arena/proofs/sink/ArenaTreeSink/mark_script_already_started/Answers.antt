use Rattle.std.proofs.Common.{refl, true}
use Rattle.h5_interface.proofs.MakingLaws.{mark_rearranges}
use Rattle.h5_arena.specs.ArenaModel.{arena_choices, forest_in}
use Rattle.h5_arena.proofs.NodeWrites.{element_within, seen_after, started_write}
use Rattle.h5_arena.proofs.NoteLaws.{notes_started}
use Rattle.h5_arena.proofs.sink.ArenaTreeSink.mark_script_already_started.Goals as goal

pub invariant_of-self : goal.invariant_of-self
invariant_of-self c =
    let there = element_within c.self.inside.nodes.items c.args.script.now.index (rw (← c.self.view_is) at c.requires) in
    rw (started_write c.self.inside.nodes.items c.args.script.now.index c.index_mut-node.result.now (record c.index_mut-node.result.now { started = true }) there c.index_mut-node.ensures.value refl) (record {
      is_forest = (mark_rearranges (forest_in c.self.inside.nodes.items) (arena_choices.marks_after_started (forest_in c.self.inside.nodes.items) c.args.script.now.index) c.self.invariant.is_forest).is_forest;
      notes = notes_started (forest_in c.self.inside.nodes.items) c.args.script.now.index c.self.invariant.notes;
    })

pub returns-clause-started : goal.returns-clause-started
returns-clause-started c =
    let there = element_within c.self.inside.nodes.items c.args.script.now.index (rw (← c.self.view_is) at c.requires) in
    rw (← c.self.view_is) (seen_after _ _ _ _ (started_write c.self.inside.nodes.items c.args.script.now.index c.index_mut-node.result.now (record c.index_mut-node.result.now { started = true }) there c.index_mut-node.ensures.value refl))
