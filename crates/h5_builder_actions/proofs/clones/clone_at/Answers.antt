use Rattle.std.proofs.Common.{ap, sym, subst, ◌∙◌, refl}
use Rattle.h5_token.specs.TokenText.{tag_text}
use Rattle.h5_builder_spec.specs.formatting.FormattingList.{ElementEntry}
use Rattle.h5_builder_spec.specs.formatting.AdoptionAgency.{tag_in}
use Rattle.h5_builder_state.specs.Steps.{world_of}
use Rattle.h5_builder_state.specs.View.{listed_node, world}
use Rattle.h5_builder_state.specs.Listed.{entry_of}
use Rattle.h5_builder_actions.specs.Hanging.{nest_of, with_clone_by}
use Rattle.h5_builder_actions.proofs.CloneLaws.{EntryIs, entry_is, entry_no_marker, entry_tag, newest_same, clone_told, tag_none}
use Rattle.h5_builder_actions.proofs.NodeLaws.{listed_nodes, open_nodes}
use Rattle.h5_builder_actions.proofs.clones.clone_at.Goals as goal

pub find_entry-requires-clause-listed : goal.find_entry-requires-clause-listed
unfolding world
find_entry-requires-clause-listed g c = listed_nodes (world_of g.S.TreeSink c.args.sink.now c.args.state.now) c.requires.sound.sound

pub find_entry-requires-clause-handle : goal.find_entry-requires-clause-handle
unfolding world
find_entry-requires-clause-handle g c = open_nodes (world_of g.S.TreeSink c.args.sink.now c.args.state.now) c.requires.sound.sound (g.S.TreeSink.node c.handle_at.result.now) c.handle_at.ensures.open

pub returns-in-Element-clause-done : goal.returns-in-Element-clause-done
unfolding world
returns-in-Element-clause-done g c =
    let w = world_of g.S.TreeSink c.args.sink.now c.args.state.now in
    let node = g.S.TreeSink.node in
    let tag = tag_text c.in-Element.tag in
    let here : EntryIs (node c.handle_at.result.now) (ElementEntry (node c.in-Element.field-0.handle) tag) w.formatting =
    subst (λ e. EntryIs (node c.handle_at.result.now) (entry_of (listed_node node) e) w.formatting) c.in-Element.is (entry_is node c.args.state.now (node c.handle_at.result.now) c.in-Some.at _ w refl c.in-Some.ensures.place c.entry_at.ensures.list c.entry_at.ensures.count) in
    clone_told c.add_clone.result g.S.TreeSink.choices w.formatting (node c.handle_at.result.now) tag _ _ _ _ c.add_clone.ensures.done
    (entry_tag (node c.handle_at.result.now) (node c.in-Element.field-0.handle) tag w.formatting here) c.handle_at.ensures.stack

pub returns-in-Marker-clause-done : goal.returns-in-Marker-clause-done
unfolding world
returns-in-Marker-clause-done g c = λ n older e.
    let w = world_of g.S.TreeSink c.args.sink.now c.args.state.now in
    let node = g.S.TreeSink.node in
    absurd (entry_no_marker (node c.handle_at.result.now) w.formatting
    (subst (λ e. EntryIs (node c.handle_at.result.now) (entry_of (listed_node node) e) w.formatting) c.in-Marker.is (entry_is node c.args.state.now (node c.handle_at.result.now) c.in-Some.at _ w refl c.in-Some.ensures.place c.entry_at.ensures.list c.entry_at.ensures.count)))

pub returns-in-None-clause-done : goal.returns-in-None-clause-done
unfolding world
returns-in-None-clause-done g c = λ n older e.
    let w = world_of g.S.TreeSink c.args.sink.now c.args.state.now in
    let node = g.S.TreeSink.node in
    ap (λ o. with_clone_by g.S.TreeSink.choices o (nest_of node (g.S.TreeSink.sees c.args.sink.now).forest c.args.clones.now))
    (sym (tag_none (node c.handle_at.result.now) w.formatting (sym c.in-None.ensures.found)) ∙ ap (tag_in w.formatting) (newest_same _ n _ _ older c.handle_at.ensures.stack e))
