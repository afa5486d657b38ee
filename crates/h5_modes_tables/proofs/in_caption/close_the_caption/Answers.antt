use Rattle.std.proofs.Common.{ap, codes, length, sym, ◌∙◌}
use Rattle.h5_tables.specs.TagSets.{is_html_named}
use Rattle.h5_builder_spec.specs.stack.Scope.{cut_through, first_passes}
use Rattle.h5_builder_spec.specs.World.{World, names_of}
use Rattle.h5_builder_state.specs.Steps.{world_of}
use Rattle.h5_modes_tables.proofs.ClosingLaws.{caption_not_implied}
use Rattle.h5_modes_tables.proofs.in_caption.close_the_caption.Goals as goal

pub pop_until_named-requires-clause-place : goal.pop_until_named-requires-clause-place
pop_until_named-requires-clause-place g c =
    let v = world_of g.S.TreeSink c.expect_to_close.new.sink c.generate_implied_end_tags.new.state in
    c.requires.place
    ∙ ap length (sym (c.generate_implied_end_tags.ensures.older (is_html_named (codes "caption")) caption_not_implied))
    ∙ ap (λ (w : World). length (cut_through (is_html_named (codes "caption")) (names_of w) w.stack)) (sym c.expect_to_close.ensures.told.world)
    ∙ ap (λ local. length (cut_through (is_html_named local) (names_of v) v.stack)) (sym c.from_known-caption.ensures)

pub returns-clause-noted : goal.returns-clause-noted
returns-clause-noted g c = λ h.
    let v = world_of g.S.TreeSink c.generate_implied_end_tags.new.sink c.generate_implied_end_tags.new.state in
    c.expect_to_close.ensures.noted
    (c.is_current_html-expected.ensures
    ∙ ap (λ local. first_passes (is_html_named local) (names_of v)) c.from_known-caption.ensures
    ∙ ap (first_passes (is_html_named (codes "caption"))) c.generate_implied_end_tags.ensures.names ∙ h)

pub returns-clause-quiet : goal.returns-clause-quiet
returns-clause-quiet g c = λ h.
    let v = world_of g.S.TreeSink c.generate_implied_end_tags.new.sink c.generate_implied_end_tags.new.state in
    c.expect_to_close.ensures.quiet
    (c.is_current_html-expected.ensures
    ∙ ap (λ local. first_passes (is_html_named local) (names_of v)) c.from_known-caption.ensures
    ∙ ap (first_passes (is_html_named (codes "caption"))) c.generate_implied_end_tags.ensures.names ∙ h)
    ∙ c.generate_implied_end_tags.ensures.made.quiet
