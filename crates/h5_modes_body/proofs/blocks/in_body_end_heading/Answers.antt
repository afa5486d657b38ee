use Rattle.std.proofs.Common.{[], ◌∷◌, ap, length, refl, subst, sym, ◌∙◌}
use Rattle.h5_tables.specs.TagSets.{is_heading, is_html_named, is_implied}
use Rattle.h5_builder_spec.specs.stack.Scope.{cut_through, first_passes}
use Rattle.h5_tables.specs.TurnResult.{Done}
use Rattle.h5_tables.specs.TurnText.{TagTurn}
use Rattle.h5_token.specs.TokenText.{tag_text}
use Rattle.h5_builder_spec.specs.stack.Closing.{pop_until_heading}
use Rattle.h5_builder_spec.specs.modes.InBody.{in_body_end_heading}
use Rattle.h5_builder_spec.specs.stack.Expected.{is_expected}
use Rattle.h5_builder_spec.specs.Rows.{Follows, GenerateImpliedEnd, IsDone, PopUntilHeading, choose, ignored, row_if}
use Rattle.h5_builder_spec.specs.World.{World, names_of}
use Rattle.h5_builder_spec.proofs.changes.ClosingLaws.{heading_not_implied}
use Rattle.h5_builder_state.specs.Steps.{errors_of, world_of}
use Rattle.h5_modes_body.proofs.blocks.in_body_end_heading.Goals as goal

pub pop_until_heading-requires-clause-place : goal.pop_until_heading-requires-clause-place
pop_until_heading-requires-clause-place g c =
    c.in-Some.ensures.place
    ∙ ap length (sym (c.generate_implied_end_tags.ensures.older is_heading heading_not_implied))
    ∙ ap (λ (w : World). length (cut_through is_heading (names_of w) w.stack)) (sym c.expect_to_close.ensures.told.world)

pub returns-in-Some : goal.returns-in-Some
unfolding in_body_end_heading
returns-in-Some g c =
    let law = g.S.TreeSink in
    let tag = tag_text c.args.tag in
    let w = world_of law c.args.sink.now c.args.state.now in
    let v = world_of law c.expect_to_close.new.sink c.pop_until_heading.new.state in
    let expected = c.is_current_html-expected.ensures ∙ ap (first_passes (is_html_named tag.name)) c.generate_implied_end_tags.ensures.names in
    record {
      follows = subst (λ b. Follows law.choices law.node (choose b (row_if (is_expected is_implied (is_html_named tag.name) (names_of w)) (GenerateImpliedEnd ∷ PopUntilHeading ∷ []) IsDone) ignored) (TagTurn tag) w v (errors_of law c.args.sink.now) (errors_of law c.expect_to_close.new.sink) Done)
          c.in-Some.ensures.found
          (record {
            world = c.pop_until_heading.ensures.world ∙ ap pop_until_heading (c.expect_to_close.ensures.told.world ∙ c.generate_implied_end_tags.ensures.made.world);
            ending = refl;
            quiet = λ h. c.expect_to_close.ensures.quiet (expected ∙ h) ∙ c.generate_implied_end_tags.ensures.made.quiet;
            noted = λ h. c.expect_to_close.ensures.noted (expected ∙ h);
          });
      sound = c.pop_until_heading.ensures.sound;
    }
