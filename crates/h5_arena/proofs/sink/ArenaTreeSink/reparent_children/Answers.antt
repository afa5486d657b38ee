use Rattle.h5_interface.proofs.HangingLaws.{reparent_keeps}
use Rattle.h5_arena.specs.ArenaModel.{forest_in}
use Rattle.h5_arena.proofs.NodeWrites.{seen_after}
use Rattle.h5_arena.proofs.NoteLaws.{notes_reparented}
use Rattle.h5_arena.proofs.sink.ArenaTreeSink.reparent_children.Goals as goal

pub invariant_of-self-2 : goal.invariant_of-self-2
invariant_of-self-2 c =
    let may = (rw (← c.self.view_is) at c.requires) in
    rw c.in_ok-reparent.ensures.ok (record {
      is_forest = reparent_keeps (forest_in c.self.inside.nodes.items) c.args.from.now.index c.args.to.now.index c.self.invariant.is_forest may;
      notes = notes_reparented (forest_in c.self.inside.nodes.items) c.args.from.now.index c.args.to.now.index c.self.invariant.notes;
    })

pub returns-clause-ok : goal.returns-clause-ok
returns-clause-ok c = rw (← c.self.view_is) (seen_after _ _ _ _ c.in_ok-reparent.ensures.ok)
