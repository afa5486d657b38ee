use Rattle.std.proofs.Common.{◌≡◌, length, map, ap, subst, ◌∙◌}
use Rattle.h5_builder_spec.specs.formatting.FormattingList.{after_marker}
use Rattle.h5_builder_state.specs.View.{world}
use Rattle.h5_tree_builder.specs.ActiveFormatting.{falling, given_entry, given_place, still_given}
use Rattle.h5_tree_builder.specs.Held.{building}
use Rattle.h5_tree_builder.proofs.ActiveFormattingLaws.{given_entries, given_places}
use Rattle.h5_tree_builder.proofs.builder.TreeBuilder.active_formatting_end_to_marker.Goals as goal

pub returns-clause-entries : goal.returns-clause-entries
unfolding world
returns-clause-entries g c =
    let node = g.Sink.TreeSink.node in
    subst (λ h. map (given_entry node) (still_given c.as_slice.result.now) ≡ after_marker (building g.Sink.TreeSink.sees node h).view.world.formatting) c.self.view_is
    (ap (λ e. map (given_entry node) (still_given e)) c.as_slice.ensures ∙ given_entries node c.self.inside.state.active_formatting)

pub returns-clause-places : goal.returns-clause-places
unfolding world
returns-clause-places g c =
    let node = g.Sink.TreeSink.node in
    subst (λ h. let l = (building g.Sink.TreeSink.sees node h).view.world.formatting in map given_place (still_given c.as_slice.result.now) ≡ falling (length l) (after_marker l)) c.self.view_is
    (ap (λ e. map given_place (still_given e)) c.as_slice.ensures ∙ given_places node c.self.inside.state.active_formatting)
