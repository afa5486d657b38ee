use Rattle.std.proofs.Common.{ap, length, sym, ◌∙◌}
use Rattle.h5_tables.specs.TagSets.{is_html_named}
use Rattle.h5_builder_spec.specs.stack.Scope.{cut_through}
use Rattle.h5_builder_spec.specs.World.{World, names_of}
use Rattle.h5_modes_body.proofs.EndLaws.{button_not_implied}
use Rattle.h5_modes_body.proofs.button.in_body_start_button.Goals as goal

pub pop_until_named-requires-clause-place : goal.pop_until_named-requires-clause-place
pop_until_named-requires-clause-place g c =
    let local = c.from_known-button.result in
    c.in-Some.ensures.place
    ∙ ap (λ (w : World). length (cut_through (is_html_named local) (names_of w) w.stack)) (sym c.report_error.ensures.told.world)
    ∙ ap length (sym (c.generate_implied_end_tags.ensures.older (is_html_named local) (button_not_implied local c.from_known-button.ensures)))
