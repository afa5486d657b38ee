use Rattle.std.proofs.Common.{sym, ◌∙◌}
use Rattle.h5_tables.specs.TurnText.{turn_text}
use Rattle.h5_tree_builder.proofs.DispatchLaws.{turns_by_mode}
use Rattle.h5_tree_builder.proofs.dispatch.step.Goals as goal

pub returns-else-is_foreign : goal.returns-else-is_foreign
returns-else-is_foreign g c =
    turns_by_mode g.S.TreeSink (turn_text c.args.token) c.args.sink.now c.args.state.now c.step_by_mode.new.sink c.step_by_mode.new.state c.step_by_mode.result
    (sym c.is_foreign.ensures ∙ c.if-is_foreign.false) c.step_by_mode.ensures
