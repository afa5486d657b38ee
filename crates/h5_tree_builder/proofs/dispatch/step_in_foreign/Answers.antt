use Rattle.std.proofs.Common.{subst}
use Rattle.h5_tables.specs.TurnText.{turn_text}
use Rattle.h5_builder_spec.specs.modes.ForeignContent.{foreign_step}
use Rattle.h5_modes_rest.specs.ForeignSteps.{CameTo}
use Rattle.h5_builder_state.specs.Steps.{errors_of, world_of}
use Rattle.h5_tree_builder.proofs.DispatchLaws.{left_keeps, turns_in_foreign, turns_left}
use Rattle.h5_tree_builder.proofs.dispatch.step_in_foreign.Goals as goal

pub step_by_mode-requires-clause-ready : goal.step_by_mode-requires-clause-ready
step_by_mode-requires-clause-ready g c =
    let law = g.S.TreeSink in
    let t = turn_text c.args.token in
    let w = world_of law c.args.sink.now c.args.state.now in
    let v = world_of law c.step_foreign.new.sink c.step_foreign.new.state in
    let foreign = c.requires.foreign in
    let came = subst (CameTo law.choices law.node (foreign_step t w) t w v (errors_of law c.args.sink.now) (errors_of law c.step_foreign.new.sink) c.step_foreign.new.state) c.in-ByMode.is c.in_ok-result.ensures.came in
    let kept = left_keeps law t c.args.sink.now c.args.state.now c.step_foreign.new.sink c.step_foreign.new.state c.in-ByMode.again foreign came (record { sound = c.requires.ready.sound.sound; fits = c.requires.ready.fits }) in
    record { sound = c.step_foreign.ensures.sound; fits = kept.fits }

pub returns-in-Ended : goal.returns-in-Ended
returns-in-Ended g c =
    let law = g.S.TreeSink in
    let t = turn_text c.args.token in
    let w = world_of law c.args.sink.now c.args.state.now in
    let v = world_of law c.step_foreign.new.sink c.step_foreign.new.state in
    let foreign = c.requires.foreign in
    let came = subst (CameTo law.choices law.node (foreign_step t w) t w v (errors_of law c.args.sink.now) (errors_of law c.step_foreign.new.sink) c.step_foreign.new.state) c.in-Ended.is c.in_ok-result.ensures.came in
    turns_in_foreign law t c.args.sink.now c.args.state.now c.step_foreign.new.sink c.step_foreign.new.state c.in-Ended.result foreign came c.step_foreign.ensures.sound

pub returns-in-ByMode : goal.returns-in-ByMode
returns-in-ByMode g c =
    let law = g.S.TreeSink in
    let t = turn_text c.args.token in
    let w = world_of law c.args.sink.now c.args.state.now in
    let v = world_of law c.step_foreign.new.sink c.step_foreign.new.state in
    let foreign = c.requires.foreign in
    let came = subst (CameTo law.choices law.node (foreign_step t w) t w v (errors_of law c.args.sink.now) (errors_of law c.step_foreign.new.sink) c.step_foreign.new.state) c.in-ByMode.is c.in_ok-result.ensures.came in
    turns_left law t c.args.sink.now c.args.state.now c.step_foreign.new.sink c.step_foreign.new.state c.in-ByMode.again foreign came
    c.step_by_mode.new.sink c.step_by_mode.new.state c.step_by_mode.result c.step_by_mode.ensures
