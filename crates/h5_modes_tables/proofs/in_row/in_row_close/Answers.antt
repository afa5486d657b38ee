use Rattle.std.proofs.Common.{◌<◌, length, subst, sym}
use Rattle.h5_builder_spec.specs.World.{World}
use Rattle.h5_builder_state.specs.Steps.{world_of}
use Rattle.h5_modes_tables.proofs.ContextLaws.{open_in_row}
use Rattle.h5_modes_tables.proofs.in_row.in_row_close.Goals as goal

pub pop-requires : goal.pop-requires
pop-requires g c = record {
  sound = c.clear_to_table_row_context.ensures.sound;
  some = subst (λ (w : World). 0 < length w.stack) (sym c.clear_to_table_row_context.ensures.world)
      (open_in_row (world_of g.S.TreeSink c.args.sink.now c.args.state.now) c.requires.ready);
}
