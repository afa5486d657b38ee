use Rattle.std.proofs.Common.{◌≡◌, ap, ◌∙◌}
use Rattle.h5_token.specs.TokenText.{doctype_text}
use Rattle.h5_tables.specs.declared.modes.InsertionMode.TheVariants.{BeforeHtml}
use Rattle.h5_builder_spec.specs.Changes.{set_mode, set_quirks_mode}
use Rattle.h5_builder_spec.specs.Run.{judged, with_doctype}
use Rattle.h5_builder_state.specs.Steps.{world_of}
use Rattle.h5_builder_state.specs.View.{world}
use Rattle.h5_tree_builder.proofs.doctype.judge_doctype.Goals.{else-is_error, then-is_error}
use Rattle.h5_tree_builder.proofs.doctype.judge_doctype.Goals as goal

pub returns-clause-done : goal.returns-clause-done
unfolding world judged
returns-clause-done g c =
    let law = g.S.TreeSink in
    let d = doctype_text c.args.doctype in
    let told : world_of law c.if-is_error.sink c.args.state.now ≡ world_of law c.args.sink.now c.args.state.now =
    elim c.if-is_error.branch [
      | then-is_error w ↦ ap (λ s. world_of law s c.args.state.now) w.sink-is ∙ w.tell_bad.ensures.told.world
      | else-is_error w ↦ ap (λ s. world_of law s c.args.state.now) w.sink-is
    ] in
    c.set_mode.ensures.world
    ∙ ap (set_mode BeforeHtml)
    (c.set_quirks_mode.ensures.world ∙ ap (λ q. set_quirks_mode q (world_of law c.append_doctype.new.sink c.args.state.now)) c.doctype_error_and_quirks-is_error.ensures.quirks
    ∙ ap (set_quirks_mode _) (c.in_ok-append_doctype.ensures.done ∙ ap (with_doctype law.choices d) told))
