use Rattle.std.proofs.Common.{ap, arith, length, map, nat_lt, ◌++◌, ◌+◌, ◌∙◌, ◌∷◌, ◌≡◌}
use Rattle.std.proofs.lemmas.List.{length-map, map-append}
use Rattle.h5_tables.specs.TagSets.{is_default_scope}
use Rattle.h5_builder_spec.specs.formatting.Adoption.{newer_than, older_than}
use Rattle.h5_builder_spec.specs.World.{name_in, names_of}
use Rattle.h5_builder_spec.proofs.entries.PassLaws.{stack_split}
use Rattle.h5_builder_state.specs.Newest.{newest_where}
use Rattle.h5_builder_state.proofs.ItemLaws.{length-values}
use Rattle.h5_builder_state.specs.View.{elements_of, open_node, world}
use Rattle.h5_builder_state.proofs.AttributeLaws.{open_length}
use Rattle.h5_builder_state.proofs.NewestLaws.{newer_than_rest}
use Rattle.h5_builder_actions.proofs.OpenLaws.{any_named}
use Rattle.h5_builder_actions.proofs.find.scope_ends_above.Goals as goal

pub overflow_add-result : goal.overflow_add-result
unfolding world
overflow_add-result g c =
    omega (arith, c.requires.place, c.requires.sound.kept.few, open_length (open_node g.S.TreeSink.node) (elements_of c.args.state.now), length-values c.args.state.now.open_elems.elements)

pub returns : goal.returns
unfolding world names_of
returns g c = λ n k.
    let w = world g.S.TreeSink.sees g.S.TreeSink.node c.args.sink.now c.args.state.now in
    let name = name_in w.forest in
    let newer = newer_than n w.stack in
    let rest = n ∷ older_than n w.stack in
    let split : names_of w ≡ map name newer ++ map name rest = ap (map name) (stack_split n w.stack k.is_open) ∙ map-append name newer rest in
    let count : c.args.place + 1 ≡ length (map name rest) = omega (arith, k.here, length-map rest name) in
    ap (nat_lt (c.args.place + 1)) c.newest_scope_end.ensures
    ∙ ap (λ z. nat_lt (c.args.place + 1) (newest_where is_default_scope z)) split
    ∙ ap (λ z. nat_lt z (newest_where is_default_scope (map name newer ++ map name rest))) count
    ∙ newer_than_rest is_default_scope (map name newer) (map name rest)
    ∙ any_named is_default_scope name newer
