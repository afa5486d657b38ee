use Rattle.std.proofs.Common.{ap, refl, ◌∙◌}
use Rattle.h5_tables.specs.TagSets.{is_cell}
use Rattle.h5_builder_spec.specs.stack.Scope.{first_passes}
use Rattle.h5_builder_spec.specs.stack.Closing.{pop_until_cell}
use Rattle.h5_builder_spec.specs.formatting.Formatting.{clear_active_formatting_to_marker}
use Rattle.h5_builder_spec.specs.World.{World}
use Rattle.h5_modes_tables.proofs.in_cell.close_the_cell.Goals as goal

pub returns : goal.returns
returns g c =
    let expected = c.is_current_cell-expected.ensures ∙ ap (first_passes is_cell) c.generate_implied_end_tags.ensures.names in
    record {
      follows = record {
        world = c.set_again.ensures.kept.world ∙ c.clear_active_formatting_to_marker.ensures.world
            ∙ ap (λ (x : World). clear_active_formatting_to_marker x) (c.pop_until_cell.ensures.world ∙ ap pop_until_cell (c.expect_to_close.ensures.told.world ∙ c.generate_implied_end_tags.ensures.made.world));
        ending = (refl, c.set_again.ensures.token);
        quiet = λ h. c.expect_to_close.ensures.quiet (expected ∙ h) ∙ c.generate_implied_end_tags.ensures.made.quiet;
        noted = λ h. c.expect_to_close.ensures.noted (expected ∙ h);
      };
      sound = c.set_again.ensures.kept.sound;
    }
