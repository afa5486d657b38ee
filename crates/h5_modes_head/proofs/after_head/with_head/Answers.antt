use Rattle.std.proofs.Common.{◌≡◌, ◌<◌, ap, option_map, subst, sym, ◌∙◌}
use Rattle.h5_token.specs.Reply.{reply}
use Rattle.h5_token.specs.TokenText.{tag_text}
use Rattle.h5_tables.specs.TurnText.{TagTurn}
use Rattle.h5_builder_spec.specs.Changes.{push_head}
use Rattle.h5_builder_spec.specs.modes.InHead.{in_head_start_tag}
use Rattle.h5_builder_spec.specs.Rows.{Follows, apply_all}
use Rattle.h5_builder_spec.specs.modes.AfterHead.{removes_known}
use Rattle.h5_builder_spec.specs.Sound.{Sound}
use Rattle.h5_builder_spec.specs.World.{World, root}
use Rattle.h5_builder_spec.proofs.rows.MarkLaws.{still_told}
use Rattle.h5_builder_spec.proofs.modes.AfterHead.{head_stays_above, head_stays_known}
use Rattle.h5_builder_spec.proofs.modes.PushHeadLaws.{only_root, sound_push_head}
use Rattle.h5_builder_state.specs.Steps.{errors_of, world_of}
use Rattle.h5_builder_state.specs.Turn.{turn_result}
use Rattle.h5_builder_state.specs.View.{world}
use Rattle.h5_modes_head.proofs.HeadLaws.{apart_if_known, element_if_known, followed}
use Rattle.h5_modes_head.proofs.after_head.with_head.Goals as goal

pub push_head-requires-clause-ready : goal.push_head-requires-clause-ready
push_head-requires-clause-ready g c =
    let w = world_of g.S.TreeSink c.args.sink.now c.args.state.now in
    subst (λ (x : World). Sound (push_head x)) (sym c.unexpected_tag.ensures.told.world) (sound_push_head w c.requires.sound.sound (only_root w c.requires.fits))

pub leave_head-requires-clause-root : goal.leave_head-requires-clause-root
leave_head-requires-clause-root g c =
    let law = g.S.TreeSink in
    let tag = tag_text c.args.tag in
    let w = world_of law c.args.sink.now c.args.state.now in
    let x = world_of law c.unexpected_tag.new.sink c.push_head.new.state in
    let u = world_of law c.in_head_start_tag.new.sink c.in_head_start_tag.new.state in
    let known = c.known_head-head.ensures ∙ ap (λ (v : World). v.head) c.unexpected_tag.ensures.told.world in
    let pushed : x ≡ push_head w = c.in_ok-push_head.ensures.world ∙ ap push_head c.unexpected_tag.ensures.told.world in
    let f = subst (λ y. Follows law.choices law.node (in_head_start_tag tag y) (TagTurn tag) y u (errors_of law c.unexpected_tag.new.sink) (errors_of law c.in_head_start_tag.new.sink) (turn_result c.in_ok-result.result c.in_head_start_tag.new.state)) pushed c.in_ok-result.ensures.follows in
    let left = world_of law c.in_head_start_tag.new.sink c.take_answer-answer.new.state in
    apart_if_known law.node c.known_head-head.result w left known
    (λ h e. subst (λ (v : World). h ≡ root v → ⊥) (sym (c.take_answer-answer.ensures.kept.world ∙ f.world)) (head_stays_above law.choices tag w c.requires.sound.sound c.requires.fits c.requires.name h e))

pub leave_head-requires-clause-element : goal.leave_head-requires-clause-element
unfolding world
leave_head-requires-clause-element g c =
    let law = g.S.TreeSink in
    let tag = tag_text c.args.tag in
    let w = world_of law c.args.sink.now c.args.state.now in
    let x = world_of law c.unexpected_tag.new.sink c.push_head.new.state in
    let u = world_of law c.in_head_start_tag.new.sink c.in_head_start_tag.new.state in
    let known = c.known_head-head.ensures ∙ ap (λ (v : World). v.head) c.unexpected_tag.ensures.told.world in
    let pushed : x ≡ push_head w = c.in_ok-push_head.ensures.world ∙ ap push_head c.unexpected_tag.ensures.told.world in
    let f = subst (λ y. Follows law.choices law.node (in_head_start_tag tag y) (TagTurn tag) y u (errors_of law c.unexpected_tag.new.sink) (errors_of law c.in_head_start_tag.new.sink) (turn_result c.in_ok-result.result c.in_head_start_tag.new.state)) pushed c.in_ok-result.ensures.follows in
    element_if_known law.node c.known_head-head.result u c.in_head_start_tag.ensures.sound.sound
    (known ∙ sym (ap (λ (v : World). v.head) f.world ∙ head_stays_known law.choices tag w c.requires.sound.sound c.requires.fits c.requires.name))

pub returns : goal.returns
returns g c =
    let law = g.S.TreeSink in
    let tag = tag_text c.args.tag in
    let w = world_of law c.args.sink.now c.args.state.now in
    let x = world_of law c.unexpected_tag.new.sink c.push_head.new.state in
    let u = world_of law c.in_head_start_tag.new.sink c.in_head_start_tag.new.state in
    let v = world_of law c.leave_head.new.sink c.set_answer.new.state in
    let head = option_map law.node c.known_head-head.result in
    let known = c.known_head-head.ensures ∙ ap (λ (y : World). y.head) c.unexpected_tag.ensures.told.world in
    let pushed : x ≡ push_head w = c.in_ok-push_head.ensures.world ∙ ap push_head c.unexpected_tag.ensures.told.world in
    let f = subst (λ y. Follows law.choices law.node (in_head_start_tag tag y) (TagTurn tag) y u (errors_of law c.unexpected_tag.new.sink) (errors_of law c.in_head_start_tag.new.sink) (turn_result c.in_ok-result.result c.in_head_start_tag.new.state)) pushed c.in_ok-result.ensures.follows in
    record {
      follows = followed law.choices law.node tag w u v (errors_of law c.args.sink.now) (errors_of law c.leave_head.new.sink) c.in_ok-result.result c.in_head_start_tag.new.state c.set_answer.new.state head c.requires.name
          (c.set_answer.ensures.answer ∙ ap (reply law.node) c.take_answer-answer.ensures.answer) known f.world f.ending
          (c.set_answer.ensures.kept.world ∙ c.leave_head.ensures.world ∙ ap (apply_all law.choices (removes_known head)) c.take_answer-answer.ensures.kept.world)
          (subst (λ n. 0 < n) (sym c.leave_head.ensures.quiet)
          (still_told law.choices law.node (in_head_start_tag tag (push_head w)) (TagTurn tag) (push_head w) u (errors_of law c.unexpected_tag.new.sink) (errors_of law c.in_head_start_tag.new.sink) (turn_result c.in_ok-result.result c.in_head_start_tag.new.state) f c.unexpected_tag.ensures.noted));
      sound = c.set_answer.ensures.kept.sound;
    }
