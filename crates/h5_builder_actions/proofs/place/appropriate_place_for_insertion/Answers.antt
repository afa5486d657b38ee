use Rattle.std.proofs.Common.{ap, cond, sym, ◌∙◌}
use Rattle.h5_builder_spec.specs.insertion.Place.{LastChild, appropriate_place, foster_place, from_foster_parent, inside}
use Rattle.h5_builder_spec.specs.World.{root}
use Rattle.h5_builder_state.specs.View.{world}
use Rattle.h5_builder_actions.proofs.place.appropriate_place_for_insertion.Goals as goal

pub returns-then-is_fostered : goal.returns-then-is_fostered
unfolding appropriate_place
returns-then-is_fostered g c =
    let w = world g.S.TreeSink.sees g.S.TreeSink.node c.args.sink.now c.args.state.now in
    c.foster_place.ensures
    ∙ ap (λ b. cond b (foster_place w.forest (root w) (from_foster_parent w.forest w.stack)) (LastChild (inside w.forest (g.S.TreeSink.node c.args.target.now)))) (sym (sym c.is_fostered.ensures ∙ c.if-is_fostered.true))

pub returns-else-is_fostered : goal.returns-else-is_fostered
unfolding appropriate_place
returns-else-is_fostered g c =
    let w = world g.S.TreeSink.sees g.S.TreeSink.node c.args.sink.now c.args.state.now in
    ap LastChild c.inside.ensures
    ∙ ap (λ b. cond b (foster_place w.forest (root w) (from_foster_parent w.forest w.stack)) (LastChild (inside w.forest (g.S.TreeSink.node c.args.target.now)))) (sym (sym c.is_fostered.ensures ∙ c.if-is_fostered.false))
