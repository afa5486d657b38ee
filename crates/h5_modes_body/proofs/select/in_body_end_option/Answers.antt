use Rattle.std.proofs.Common.{ap, ◌∙◌}
use Rattle.h5_builder_spec.specs.Changes.{pop_until_named}
use Rattle.h5_builder_state.specs.View.{world}
use Rattle.h5_modes_body.proofs.EndLaws.{element_stays}
use Rattle.h5_modes_body.proofs.select.in_body_end_option.Goals as goal

pub copy_option-requires-clause-element : goal.copy_option-requires-clause-element
unfolding world
copy_option-requires-clause-element g c =
    let law = g.S.TreeSink in
    let local = c.args.tag.name in
    element_stays law.node c.oldest_option-option.result law.choices local (world law.sees law.node c.args.sink.now c.args.state.now) (world law.sees law.node c.expect_to_close.new.sink c.pop_until_named.new.state)
    (c.pop_until_named.ensures.world ∙ ap (pop_until_named local) (c.expect_to_close.ensures.told.world ∙ c.generate_implied_end_except.ensures.made.world))
    c.oldest_option-option.ensures.element
