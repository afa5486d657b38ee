use Rattle.std.proofs.Common.{[], ◌∷◌, codes, false, refl, subst, sym, ◌∙◌}
use Rattle.h5_tables.specs.TurnResult.{Done}
use Rattle.h5_tables.specs.TurnText.{TagTurn}
use Rattle.h5_token.specs.TokenText.{tag_text}
use Rattle.h5_builder_spec.specs.modes.InBody.{in_body_end_p}
use Rattle.h5_tables.specs.TagSets.{is_html_named}
use Rattle.h5_builder_spec.specs.stack.Expected.{is_expected}
use Rattle.h5_builder_spec.specs.stack.Scope.{is_implied_but}
use Rattle.h5_builder_spec.specs.World.{names_of}
use Rattle.h5_builder_spec.specs.Rows.{ClosePElement, Follows, InsertElement, IsDone, choose, errs, row_if}
use Rattle.h5_builder_state.specs.Steps.{errors_of, world_of}
use Rattle.h5_modes_body.proofs.blocks.in_body_end_p.Goals as goal

pub returns-then-has_p_in_button_scope : goal.returns-then-has_p_in_button_scope
unfolding in_body_end_p
returns-then-has_p_in_button_scope g c =
    let law = g.S.TreeSink in
    let w = world_of law c.args.sink.now c.args.state.now in
    let v = world_of law c.expect_to_close.new.sink c.close_p_element-expected.new.state in
    record {
      follows = subst (λ b. Follows law.choices law.node (choose b (row_if (is_expected (is_implied_but (codes "p")) (is_html_named (codes "p")) (names_of w)) (ClosePElement ∷ []) IsDone) (errs (InsertElement (codes "p") [] false ∷ ClosePElement ∷ []) IsDone)) (TagTurn (tag_text c.args.tag)) w v (errors_of law c.args.sink.now) (errors_of law c.expect_to_close.new.sink) Done)
          (sym c.if-has_p_in_button_scope.true ∙ c.has_p_in_button_scope.ensures)
          (record {
            world = c.expect_to_close.ensures.told.world ∙ c.close_p_element-expected.ensures.made.world;
            ending = refl;
            quiet = λ h. c.expect_to_close.ensures.quiet (c.close_p_element-expected.ensures.expected ∙ h) ∙ c.close_p_element-expected.ensures.made.quiet;
            noted = λ h. c.expect_to_close.ensures.noted (c.close_p_element-expected.ensures.expected ∙ h);
          });
      sound = c.expect_to_close.ensures.told.sound c.close_p_element-expected.ensures.made.sound;
    }
