use Rattle.std.proofs.Common.{ap, refl, sym, ◌∙◌}
use Rattle.std.proofs.lemmas.List.{length-map}
use Rattle.h5_builder_spec.specs.insertion.Place.{LastChild, foster_place, is_foster_parent}
use Rattle.h5_builder_spec.specs.World.{name_in, names_of, root}
use Rattle.h5_builder_state.specs.View.{world}
use Rattle.h5_builder_state.proofs.WalkLaws.{cut_inside, foster_under, no_foster}
use Rattle.h5_builder_actions.proofs.place.foster_place.Goals as goal

pub foster_place_at-requires-clause-at : goal.foster_place_at-requires-clause-at
unfolding names_of
foster_place_at-requires-clause-at g c =
    let w = world g.S.TreeSink.sees g.S.TreeSink.node c.args.sink.now c.args.state.now in
    rw c.in-Some.ensures.place (cut_inside is_foster_parent (names_of w) w.stack (sym (length-map w.stack (name_in w.forest))) (sym c.in-Some.ensures.found))

pub returns-in-Some : goal.returns-in-Some
unfolding world names_of
returns-in-Some g c =
    let w = world g.S.TreeSink.sees g.S.TreeSink.node c.args.sink.now c.args.state.now in
    c.foster_place_at.ensures
    ∙ ap (foster_place w.forest (root w)) (foster_under g.S.TreeSink.node c.args.state.now w.forest w.stack c.in-Some.at refl (sym c.in-Some.ensures.found) c.in-Some.ensures.place)

pub returns-in-None : goal.returns-in-None
unfolding names_of
returns-in-None g c =
    let w = world g.S.TreeSink.sees g.S.TreeSink.node c.args.sink.now c.args.state.now in
    ap LastChild c.root_node.ensures ∙ ap (foster_place w.forest (root w)) (sym (no_foster w.forest w.stack (sym c.in-None.ensures.found)))
