use Rattle.std.proofs.Common.{refl, subst, sym, ap, true, ◌∙◌}
use Rattle.std.specs.Prelude.{IfOk}
use Rattle.h5_tables.specs.TurnText.{turn_text}
use Rattle.h5_builder_spec.specs.Changes.{set_foster}
use Rattle.h5_builder_spec.specs.modes.InBody.{in_body}
use Rattle.h5_builder_spec.specs.Rows.{Follows}
use Rattle.h5_builder_spec.specs.inner.Kept.{HasHtmlRoot}
use Rattle.h5_builder_spec.specs.World.{World}
use Rattle.h5_builder_state.specs.Steps.{errors_of, world_of}
use Rattle.h5_builder_state.specs.Turn.{turn_result}
use Rattle.h5_modes_tables.proofs.FosterLaws.{foster_if_ok, ready_foster}
use Rattle.h5_modes_tables.proofs.foster.foster_parent_in_body.Goals as goal

pub step_in_body-turn-requires-clause-ready : goal.step_in_body-turn-requires-clause-ready
step_in_body-turn-requires-clause-ready g c =
    let w = world_of g.S.TreeSink c.args.sink.now c.args.state.now in
    subst HasHtmlRoot (sym (c.set_foster.ensures.made.world ∙ ap (set_foster true) c.report_token.ensures.told.world)) (ready_foster w c.requires.ready)

pub returns : goal.returns
returns g c =
    let law = g.S.TreeSink in
    let t = turn_text c.args.token in
    let w = world_of law c.args.sink.now c.args.state.now in
    let v = world_of law c.step_in_body-turn.new.sink c.step_in_body-turn.new.state in
    let u = world_of law c.step_in_body-turn.new.sink c.set_foster-2.new.state in
    let before = errors_of law c.report_token.new.sink in
    let after = errors_of law c.step_in_body-turn.new.sink in
    record {
      follows = foster_if_ok law.choices law.node t w v u before after (errors_of law c.args.sink.now) after c.step_in_body-turn.new.state c.set_foster-2.new.state c.step_in_body-turn.result c.set_foster-2.ensures.again c.set_foster-2.ensures.answer
          (subst (λ (x : World). IfOk c.step_in_body-turn.result (λ r. Follows law.choices law.node (in_body t x) t x v before after (turn_result r c.step_in_body-turn.new.state)))
          (c.set_foster.ensures.made.world ∙ ap (set_foster true) c.report_token.ensures.told.world) c.step_in_body-turn.ensures.follows)
          c.set_foster-2.ensures.made.world c.report_token.ensures.noted refl;
      sound = c.set_foster-2.ensures.made.sound;
    }
