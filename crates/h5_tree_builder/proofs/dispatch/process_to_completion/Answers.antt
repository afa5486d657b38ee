use Rattle.std.proofs.Common.{◌≡◌, ◌-◌, true, ap, refl, sym, subst, ◌∙◌, arith}
use Rattle.h5_token.specs.declared.sink.TokenSinkResult.TheVariants.{Continue}
use Rattle.h5_tables.specs.TurnResult as results
use Rattle.h5_tables.specs.TurnText.{turn_text}
use Rattle.h5_builder_spec.specs.Changes.{set_mode}
use Rattle.h5_builder_spec.specs.modes.ForeignContent.{dispatch}
use Rattle.h5_builder_spec.specs.Rows.{Follows}
use Rattle.h5_builder_spec.specs.Settle.{settle}
use Rattle.h5_builder_spec.specs.inner.Kept.{Fits}
use Rattle.h5_builder_laws.proofs.kept.DispatchLaws.{fits_acknowledged, fits_again, fits_answered, fits_done}
use Rattle.h5_builder_laws.proofs.turns.FallsLaws.{rank_few}
use Rattle.h5_builder_laws.proofs.turns.SettleLaws.{rank_falls}
use Rattle.h5_builder_state.specs.Turn.{turn_result}
use Rattle.h5_builder_state.specs.View.{world}
use Rattle.h5_tree_builder.specs.Chains.{CameTo, Left}
use Rattle.h5_tree_builder.proofs.ChainLaws.{acknowledged_last, answered_last, done_last, few_open, left_all, left_next}
use Rattle.h5_tree_builder.proofs.dispatch.process_to_completion.Goals as goal

pub returns-in-Done : goal.returns-in-Done
returns-in-Done g c =
    let k = g.S.TreeSink.choices in
    let node = g.S.TreeSink.node in
    let t = turn_text c.args.token in
    let w = world g.S.TreeSink.sees node c.turns.sink c.turns.state in
    let v = world g.S.TreeSink.sees node c.step.new.sink c.step.new.state in
    let a = (g.S.TreeSink.sees c.turns.sink).errors in
    let b = (g.S.TreeSink.sees c.step.new.sink).errors in
    let e = (g.S.TreeSink.sees c.args.sink.now).errors in
    let first = world g.S.TreeSink.sees node c.args.sink.now c.args.state.now in
    let f : Follows k node (dispatch k t w) t w v a b results.Done = subst (λ x. Follows k node (dispatch k x w) x w v a b results.Done) c.turns.invariant.same (subst (λ r. Follows k node (dispatch k (turn_text c.turns.rest) w) (turn_text c.turns.rest) w v a b (turn_result r c.step.new.state)) c.in-Done.is c.in_ok-step.ensures.follows) in
    let u = world g.S.TreeSink.sees node c.error_if_self_closing.new.sink c.step.new.state in
    let d = (g.S.TreeSink.sees c.error_if_self_closing.new.sink).errors in
    record {
      came = subst (λ x. CameTo node (settle k t first) true x e d (record { turns = c.turns.turns; answer = Continue })) (sym c.error_if_self_closing.ensures.told.world)
          (subst (λ n. CameTo node (settle k t first) true v e d (record { turns = n; answer = Continue })) (omega (arith, c.turns.invariant.some))
          (done_last k node t first w v e a b d (c.turns.turns - 1) c.is_self_closing-self_closing.result f c.is_self_closing-self_closing.ensures c.error_if_self_closing.ensures.quiet c.error_if_self_closing.ensures.noted c.error_if_self_closing.ensures.told.rises c.turns.invariant.left));
      sound = c.error_if_self_closing.ensures.told.sound c.step.ensures.sound;
      fits = subst Fits (sym c.error_if_self_closing.ensures.told.world) (fits_done k node t w v a b f c.turns.invariant.sound.sound c.requires.text c.turns.invariant.fits);
    }

pub returns-in-DoneAckSelfClosing : goal.returns-in-DoneAckSelfClosing
returns-in-DoneAckSelfClosing g c =
    let k = g.S.TreeSink.choices in
    let node = g.S.TreeSink.node in
    let t = turn_text c.args.token in
    let w = world g.S.TreeSink.sees node c.turns.sink c.turns.state in
    let v = world g.S.TreeSink.sees node c.step.new.sink c.step.new.state in
    let a = (g.S.TreeSink.sees c.turns.sink).errors in
    let b = (g.S.TreeSink.sees c.step.new.sink).errors in
    let e = (g.S.TreeSink.sees c.args.sink.now).errors in
    let first = world g.S.TreeSink.sees node c.args.sink.now c.args.state.now in
    let f : Follows k node (dispatch k t w) t w v a b results.DoneAckSelfClosing = subst (λ x. Follows k node (dispatch k x w) x w v a b results.DoneAckSelfClosing) c.turns.invariant.same (subst (λ r. Follows k node (dispatch k (turn_text c.turns.rest) w) (turn_text c.turns.rest) w v a b (turn_result r c.step.new.state)) c.in-DoneAckSelfClosing.is c.in_ok-step.ensures.follows) in
    record {
      came = subst (λ n. CameTo node (settle k t first) true v e b (record { turns = n; answer = Continue })) (omega (arith, c.turns.invariant.some))
          (acknowledged_last k node t first w v e a b (c.turns.turns - 1) f c.turns.invariant.left);
      sound = c.step.ensures.sound;
      fits = fits_acknowledged k node t w v a b f c.turns.invariant.sound.sound c.requires.text c.turns.invariant.fits;
    }

pub returns-in-Answer : goal.returns-in-Answer
returns-in-Answer g c =
    let k = g.S.TreeSink.choices in
    let node = g.S.TreeSink.node in
    let t = turn_text c.args.token in
    let w = world g.S.TreeSink.sees node c.turns.sink c.turns.state in
    let v = world g.S.TreeSink.sees node c.step.new.sink c.step.new.state in
    let a = (g.S.TreeSink.sees c.turns.sink).errors in
    let b = (g.S.TreeSink.sees c.step.new.sink).errors in
    let e = (g.S.TreeSink.sees c.args.sink.now).errors in
    let first = world g.S.TreeSink.sees node c.args.sink.now c.args.state.now in
    let f : Follows k node (dispatch k t w) t w v a b (results.Answer c.step.new.state.answer) = subst (λ x. Follows k node (dispatch k x w) x w v a b (results.Answer c.step.new.state.answer)) c.turns.invariant.same (subst (λ r. Follows k node (dispatch k (turn_text c.turns.rest) w) (turn_text c.turns.rest) w v a b (turn_result r c.step.new.state)) c.in-Answer.is c.in_ok-step.ensures.follows) in
    let z = world g.S.TreeSink.sees node c.step.new.sink c.take_answer-answer.new.state in
    let given = c.step.new.state.answer in
    let answered = subst (λ n. CameTo node (settle k t first) true v e b (record { turns = n; answer = given })) (omega (arith, c.turns.invariant.some))
    (answered_last k node t first w v e a b (c.turns.turns - 1) given f c.turns.invariant.left) in
    record {
      came = subst (λ x. CameTo node (settle k t first) true z e b (record { turns = c.turns.turns; answer = x })) (sym c.take_answer-answer.ensures.answer)
          (subst (λ x. CameTo node (settle k t first) true x e b (record { turns = c.turns.turns; answer = given })) (sym c.take_answer-answer.ensures.kept.world) answered);
      sound = c.take_answer-answer.ensures.kept.sound;
      fits = subst Fits (sym c.take_answer-answer.ensures.kept.world) (fits_answered k node t w v a b given f c.turns.invariant.sound.sound c.requires.text c.turns.invariant.fits);
    }

pub turns-init : goal.turns-init
turns-init g c =
    let k = g.S.TreeSink.choices in
    let t = turn_text c.args.token in
    let w = world g.S.TreeSink.sees g.S.TreeSink.node c.args.sink.now c.args.state.now in
    record {
      sound = c.requires.ready.sound;
      fits = c.requires.ready.fits;
      same = refl;
      some = omega arith;
      few = omega (arith, rank_few t w c.requires.ready.fits);
      left = left_all k t w (g.S.TreeSink.sees c.args.sink.now).errors;
    }

pub overflow_add-turns : goal.overflow_add-turns
overflow_add-turns g c = omega (arith, c.turns.invariant.few, few_open g.S.TreeSink c.args.sink.now c.args.state.now c.requires.ready.sound)

pub turns-smaller : goal.turns-smaller
turns-smaller g c =
    let k = g.S.TreeSink.choices in
    let node = g.S.TreeSink.node in
    let t = turn_text c.args.token in
    let w = world g.S.TreeSink.sees node c.turns.sink c.turns.state in
    let v = world g.S.TreeSink.sees node c.step.new.sink c.step.new.state in
    let a = (g.S.TreeSink.sees c.turns.sink).errors in
    let b = (g.S.TreeSink.sees c.step.new.sink).errors in
    let f : Follows k node (dispatch k t w) t w v a b (results.Reprocess c.in-Reprocess.mode c.step.new.state.again) = subst (λ x. Follows k node (dispatch k x w) x w v a b (results.Reprocess c.in-Reprocess.mode c.step.new.state.again)) c.turns.invariant.same (subst (λ r. Follows k node (dispatch k (turn_text c.turns.rest) w) (turn_text c.turns.rest) w v a b (turn_result r c.step.new.state)) c.in-Reprocess.is c.in_ok-step.ensures.follows) in
    let u = world g.S.TreeSink.sees node c.step.new.sink c.set_mode.new.state in
    let next : u ≡ set_mode c.in-Reprocess.mode v = c.set_mode.ensures.world ∙ ap (set_mode c.in-Reprocess.mode) c.take_again-again.ensures.kept.world in
    rank_falls k node t w v u a b c.in-Reprocess.mode c.step.new.state.again f next c.turns.invariant.sound.sound c.requires.text c.turns.invariant.fits

pub turns-preserved : goal.turns-preserved
turns-preserved g c =
    let k = g.S.TreeSink.choices in
    let node = g.S.TreeSink.node in
    let t = turn_text c.args.token in
    let w = world g.S.TreeSink.sees node c.turns.sink c.turns.state in
    let v = world g.S.TreeSink.sees node c.step.new.sink c.step.new.state in
    let a = (g.S.TreeSink.sees c.turns.sink).errors in
    let b = (g.S.TreeSink.sees c.step.new.sink).errors in
    let e = (g.S.TreeSink.sees c.args.sink.now).errors in
    let first = world g.S.TreeSink.sees node c.args.sink.now c.args.state.now in
    let f : Follows k node (dispatch k t w) t w v a b (results.Reprocess c.in-Reprocess.mode c.step.new.state.again) = subst (λ x. Follows k node (dispatch k x w) x w v a b (results.Reprocess c.in-Reprocess.mode c.step.new.state.again)) c.turns.invariant.same (subst (λ r. Follows k node (dispatch k (turn_text c.turns.rest) w) (turn_text c.turns.rest) w v a b (turn_result r c.step.new.state)) c.in-Reprocess.is c.in_ok-step.ensures.follows) in
    let u = world g.S.TreeSink.sees node c.step.new.sink c.set_mode.new.state in
    let next : u ≡ set_mode c.in-Reprocess.mode v = c.set_mode.ensures.world ∙ ap (set_mode c.in-Reprocess.mode) c.take_again-again.ensures.kept.world in
    let m = c.in-Reprocess.mode in
    let token = c.step.new.state.again in
    let less = rank_falls k node t w v u a b m token f next c.turns.invariant.sound.sound c.requires.text c.turns.invariant.fits in
    record {
      sound = c.set_mode.ensures.sound;
      fits = fits_again k node t w v u a b m token f next c.turns.invariant.sound.sound c.requires.text c.turns.invariant.fits;
      same = ap turn_text c.take_again-again.ensures.token ∙ f.ending.1;
      some = omega arith;
      few = omega (arith, less, c.turns.invariant.few);
      left = subst (λ n. Left k t first u e b n) (omega (arith, c.turns.invariant.some)) (left_next k node t first w v u e a b (c.turns.turns - 1) m token f next c.turns.invariant.sound.sound c.requires.text c.turns.invariant.fits c.turns.invariant.left);
    }
