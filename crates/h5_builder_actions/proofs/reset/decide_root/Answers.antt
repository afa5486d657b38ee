use Rattle.std.proofs.Common.{sym, ◌∙◌}
use Rattle.h5_tables.specs.declared.modes.InsertionMode.TheVariants.{InBody}
use Rattle.h5_builder_spec.specs.Sound.{situation_of}
use Rattle.h5_builder_actions.specs.Reset.{role_as}
use Rattle.h5_builder_state.specs.Steps.{world_of}
use Rattle.h5_builder_actions.proofs.ResetLaws.{root_decides}
use Rattle.h5_builder_actions.proofs.reset.decide_root.Goals as goal

pub returns-in-Some : goal.returns-in-Some
returns-in-Some g c =
    let s = situation_of (world_of g.S.TreeSink c.args.sink.now c.args.state.now) in
    sym (root_decides s (role_as c.args.role) (sym c.is_cell_or_head.ensures ∙ c.if-is_cell_or_head.false) ∙ c.in-Some.ensures InBody)

pub returns-in-None : goal.returns-in-None
returns-in-None g c =
    let s = situation_of (world_of g.S.TreeSink c.args.sink.now c.args.state.now) in
    sym (root_decides s (role_as c.args.role) (sym c.is_cell_or_head.ensures ∙ c.if-is_cell_or_head.false) ∙ c.in-None.ensures InBody)
