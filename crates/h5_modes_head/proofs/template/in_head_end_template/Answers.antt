use Rattle.std.proofs.Common.{List, [], ◌∷◌, codes, ap, refl, subst, sym, ◌∙◌}
use Rattle.h5_token.specs.TokenText.{tag_text}
use Rattle.h5_tables.specs.TagSets.{is_html_named, is_thorough_implied}
use Rattle.h5_tables.specs.TurnResult.{Done}
use Rattle.h5_tables.specs.TurnText.{TagTurn}
use Rattle.h5_builder_spec.specs.stack.Scope.{first_passes}
use Rattle.h5_builder_spec.specs.modes.InHead.{in_head_end_template}
use Rattle.h5_builder_spec.specs.Rows.{Change, ClearActiveFormattingToMarker, Follows, GenerateImpliedEndThoroughly, IsDone, PopTemplateMode, PopUntilNamed, ResetMode, apply_all, choose, ignored, row_if}
use Rattle.h5_builder_spec.specs.stack.Expected.{is_expected}
use Rattle.h5_builder_spec.specs.World.{names_of}
use Rattle.h5_builder_state.specs.Steps.{errors_of, world_of}
use Rattle.h5_modes_head.proofs.template.in_head_end_template.Goals as goal

pub returns : goal.returns
unfolding in_head_end_template
returns g c =
    let law = g.S.TreeSink in
    let tag = tag_text c.args.tag in
    let closes : List Change = PopUntilNamed (codes "template") ∷ ClearActiveFormattingToMarker ∷ PopTemplateMode ∷ ResetMode ∷ [] in
    let w = world_of law c.args.sink.now c.args.state.now in
    let told = world_of law c.expect_to_close.new.sink c.generate_implied_end_thoroughly.new.state in
    let v = world_of law c.expect_to_close.new.sink c.close_template.new.state in
    let expected =
    c.is_current_html-expected.ensures
    ∙ ap (λ local. first_passes (is_html_named local) (names_of (world_of law c.generate_implied_end_thoroughly.new.sink c.generate_implied_end_thoroughly.new.state))) c.from_known-template.ensures
    ∙ ap (first_passes (is_html_named (codes "template"))) c.generate_implied_end_thoroughly.ensures.names in
    record {
      follows = subst (λ b. Follows law.choices law.node (choose b (row_if (is_expected is_thorough_implied (is_html_named (codes "template")) (names_of w)) (GenerateImpliedEndThoroughly ∷ closes) IsDone) ignored) (TagTurn tag) w v (errors_of law c.args.sink.now) (errors_of law c.expect_to_close.new.sink) Done)
          (sym c.if-not-has_open_template.false ∙ c.has_open_template.ensures)
          (record {
            world = c.close_template.ensures.world ∙ ap (apply_all law.choices closes) {x = told} (c.expect_to_close.ensures.told.world ∙ c.generate_implied_end_thoroughly.ensures.made.world);
            ending = refl;
            quiet = λ h. c.expect_to_close.ensures.quiet (expected ∙ h) ∙ c.generate_implied_end_thoroughly.ensures.made.quiet;
            noted = λ h. c.expect_to_close.ensures.noted (expected ∙ h);
          });
      sound = c.close_template.ensures.sound;
    }
