use Rattle.std.proofs.Common.{ap, sym, ◌∙◌}
use denote.Enum.Bare.{same_false}
use denote.Enum.Declared.{tag_of}
use Rattle.h5_names.specs.contracts.known_name.KnownName.{the_type}
use Rattle.h5_names.specs.declared.known_name.KnownName.TheVariants.{Other}
use Rattle.h5_tables.specs.TagSets.{is_html_named}
use Rattle.h5_builder_spec.specs.stack.Scope.{first_passes}
use Rattle.h5_builder_state.specs.View.{world}
use Rattle.h5_builder_state.proofs.NumberLaws.{has_number, known_number}
use Rattle.h5_builder_state.proofs.WalkLaws.{names_more}
use Rattle.h5_builder_state.proofs.open_elems.is_named.Goals as goal

pub returns-then-eq : goal.returns-then-eq
returns-then-eq g c = c.is_html_local.ensures ∙ sym (ap (first_passes (is_html_named c.args.local.now)) c.name_at.ensures.names)

pub returns-else-eq : goal.returns-else-eq
unfolding world
returns-else-eq g c =
    let numbers = c.args.state.now.open_elems.numbers in
    let local = c.args.local.now in
    let known = c.known-known.result in
    let more = names_more g.S.TreeSink.sees g.S.TreeSink.node c.args.sink.now c.args.state.now c.args.place c.requires.place in
    let wanted = known_number numbers local known c.known-known.ensures (same_false the_type known Other (sym c.eq.ensures ∙ c.if-eq.false)) in
    has_number numbers local (tag_of the_type known) more.0 c.number_at.result wanted (c.number_at.ensures more.0 _ more.1) ∙ sym (ap (first_passes (is_html_named local)) more.1)
