use Rattle.std.proofs.Common.{ap, length, sym, ◌∙◌}
use Rattle.h5_tables.specs.TagSets.{is_html_named}
use Rattle.h5_builder_spec.specs.stack.Scope.{cut_through, first_passes}
use Rattle.h5_builder_spec.specs.World.{World, names_of}
use Rattle.h5_modes_body.proofs.marked.close_marked.Goals as goal
use Rattle.h5_builder_spec.proofs.modes.InBody.{marked_not_implied}

pub pop_until_named-requires-clause-place : goal.pop_until_named-requires-clause-place
pop_until_named-requires-clause-place g c =
    let local = c.args.local.now in
    c.requires.place
    ∙ ap length (sym (c.generate_implied_end_tags.ensures.older (is_html_named local) (marked_not_implied local c.requires.name)))
    ∙ ap (λ (w : World). length (cut_through (is_html_named local) (names_of w) w.stack)) (sym c.expect_to_close.ensures.told.world)

pub returns-clause-noted : goal.returns-clause-noted
returns-clause-noted g c = λ h.
    c.expect_to_close.ensures.noted (c.is_current_html-expected.ensures ∙ ap (first_passes (is_html_named c.args.local.now)) c.generate_implied_end_tags.ensures.names ∙ h)

pub returns-clause-quiet : goal.returns-clause-quiet
returns-clause-quiet g c = λ h.
    c.expect_to_close.ensures.quiet (c.is_current_html-expected.ensures ∙ ap (first_passes (is_html_named c.args.local.now)) c.generate_implied_end_tags.ensures.names ∙ h)
    ∙ c.generate_implied_end_tags.ensures.made.quiet
