use Rattle.h5_interface.proofs.HangingLaws.{detach_rearranges}
use Rattle.h5_arena.specs.ArenaModel.{forest_in}
use Rattle.h5_arena.proofs.NoteLaws.{notes_detached}
use Rattle.h5_arena.proofs.sink.ArenaTreeSink.remove_from_parent.Goals as goal

pub invariant_of-self-2 : goal.invariant_of-self-2
invariant_of-self-2 c =
    let may = (rw (← c.self.view_is) at c.requires) in
    rw c.in_ok-detach.ensures.ok (record {
      is_forest = (detach_rearranges (forest_in c.self.inside.nodes.items) c.args.target.now.index c.self.invariant.is_forest may).is_forest;
      notes = notes_detached (forest_in c.self.inside.nodes.items) c.args.target.now.index c.self.invariant.notes;
    })
