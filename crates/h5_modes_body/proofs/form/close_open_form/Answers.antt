use Rattle.std.proofs.Common.{ap, length, sym, ◌∙◌}
use Rattle.h5_tables.specs.TagSets.{is_html_named}
use Rattle.h5_builder_spec.specs.stack.Scope.{cut_through}
use Rattle.h5_builder_spec.specs.World.{World, names_of}
use Rattle.h5_modes_body.proofs.EndLaws.{form_not_implied}
use Rattle.h5_modes_body.proofs.form.close_open_form.Goals as goal

pub pop_until_named-requires-clause-place : goal.pop_until_named-requires-clause-place
pop_until_named-requires-clause-place g c =
    let local = c.from_known-form.result in
    c.in-Some.ensures.place
    ∙ ap length (sym (c.generate_implied_end_tags.ensures.older (is_html_named local) (form_not_implied local c.from_known-form.ensures)))
    ∙ ap (λ (w : World). length (cut_through (is_html_named local) (names_of w) w.stack)) (sym c.expect_to_close.ensures.told.world)
