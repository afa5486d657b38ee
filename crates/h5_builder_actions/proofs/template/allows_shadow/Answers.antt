use Rattle.std.proofs.Common.{sym, subst, ap, ◌∙◌}
use Rattle.h5_interface.specs.Forest.{IsNode}
use Rattle.h5_builder_spec.specs.insertion.FormOwner.{stands_by}
use Rattle.h5_builder_spec.proofs.changes.PlaceLaws.{current_place_is_there}
use Rattle.h5_builder_state.specs.View.{world}
use Rattle.h5_builder_actions.proofs.ShadowPlaceLaws.{stands_by_node}
use Rattle.h5_builder_actions.proofs.template.allows_shadow.Goals as goal

pub allow_declarative_shadow_roots-requires : goal.allow_declarative_shadow_roots-requires
unfolding world
allow_declarative_shadow_roots-requires g c =
    let w = world g.S.TreeSink.sees g.S.TreeSink.node c.args.sink.now c.args.state.now in
    subst (IsNode w.forest) (sym (c.nodes_of.ensures.first ∙ ap stands_by c.current_place-place.ensures)) (stands_by_node w.forest _ (current_place_is_there w c.requires.sound))

pub returns : goal.returns
unfolding world
returns g c =
    let w = world g.S.TreeSink.sees g.S.TreeSink.node c.args.sink.now c.args.state.now in
    c.allow_declarative_shadow_roots.ensures ∙ ap (g.S.TreeSink.choices.allows_shadow w.forest) (c.nodes_of.ensures.first ∙ ap stands_by c.current_place-place.ensures)
