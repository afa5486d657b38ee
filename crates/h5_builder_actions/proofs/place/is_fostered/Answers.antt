use Rattle.std.proofs.Common.{ap, sym, ◌&&◌, ◌∙◌}
use Rattle.h5_tables.specs.TagSets.{is_table_outer}
use Rattle.h5_builder_spec.specs.World.{name_in}
use Rattle.h5_builder_state.specs.View.{world}
use Rattle.h5_builder_state.proofs.StackLaws.{named}
use Rattle.h5_builder_actions.proofs.place.is_fostered.Goals as goal

pub elem_name-requires : goal.elem_name-requires
unfolding world
elem_name-requires g c = c.requires.sound.sound.stands.elements (g.S.TreeSink.node c.args.target.now) c.requires.open

pub returns-then-state : goal.returns-then-state
unfolding world
returns-then-state g c =
    let f = (g.S.TreeSink.sees c.args.sink.now).forest in
    let n = g.S.TreeSink.node c.args.target.now in
    c.table_outer.ensures ∙ ap is_table_outer (sym (named f n c.elem_name.result.now c.elem_name.ensures)) ∙ ap (λ b. b && is_table_outer (name_in f n)) (sym c.if-state.true)

pub returns-else-state : goal.returns-else-state
unfolding world
returns-else-state g c =
    let f = (g.S.TreeSink.sees c.args.sink.now).forest in
    c.if-state.false ∙ ap (λ b. b && is_table_outer (name_in f (g.S.TreeSink.node c.args.target.now))) (sym c.if-state.false)
