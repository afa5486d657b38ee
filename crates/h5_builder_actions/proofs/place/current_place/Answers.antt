use Rattle.std.proofs.Common.{ap, arith, cond, map, sym, ◌&&◌, ◌+◌, ◌-◌, ◌∙◌, ◌≡◌, ◌∷◌}
use Rattle.std.proofs.lemmas.List.{nil_from_length}
use Rattle.h5_builder_spec.specs.World.{name_in, root}
use Rattle.h5_builder_spec.specs.insertion.Place.{LastChild, appropriate_place, foster_place, from_foster_parent, inside}
use Rattle.h5_builder_spec.specs.stack.Order.{first_or}
use Rattle.h5_builder_spec.specs.stack.Scope.{first_passes}
use Rattle.h5_builder_spec.proofs.changes.PlaceLaws.{first_place}
use Rattle.h5_tables.specs.TagSets.{html_namespace, is_html_named, is_table_outer}
use Rattle.h5_builder_state.specs.View.{names_under, stack_under, world}
use Rattle.h5_builder_actions.proofs.place.current_place.Goals as goal

pub returns-then-count-eq0 : goal.returns-then-count-eq0
unfolding world
returns-then-count-eq0 g c =
    let w = world g.S.TreeSink.sees g.S.TreeSink.node c.args.sink.now c.args.state.now in
    ap LastChild c.get_document.ensures.document
    ∙ sym (first_place w c.requires.sound.stands.is_forest (nil_from_length w.stack (omega (arith, c.open_count-count.ensures.count, c.if-count-eq0.true))))

pub last_child_place-requires-clause-template : goal.last_child_place-requires-clause-template
unfolding world names_under stack_under is_html_named html_namespace
last_child_place-requires-clause-template g c =
    let f = (g.S.TreeSink.sees c.args.sink.now).forest in
    let n = g.S.TreeSink.node c.handle_at-target.result.now in
    c.is_named-is_template.ensures ∙ ap (λ s. first_passes (is_html_named c.from_known-template.result) (map (name_in f) s)) c.handle_at-target.ensures.stack
    ∙ ap (λ t. is_html_named t (name_in f n)) c.from_known-template.ensures

pub returns : goal.returns
unfolding world appropriate_place
returns g c =
    let node = g.S.TreeSink.node in
    let state = c.args.state.now in
    let w = world g.S.TreeSink.sees node c.args.sink.now state in
    let n = node c.handle_at-target.result.now in
    let up : c.open_count-count.result ≡ c.open_count-count.result - 1 + 1 = omega (arith, c.if-count-eq0.false) in
    let top : w.stack ≡ n ∷ stack_under node state (c.open_count-count.result - 1) = sym c.open_count-count.ensures.stack ∙ ap (stack_under node state) up ∙ c.handle_at-target.ensures.stack in
    ap LastChild c.last_child_place.ensures
    ∙ sym (ap (λ b. cond (b && is_table_outer (name_in w.forest n)) (foster_place w.forest (root w) (from_foster_parent w.forest w.stack)) (LastChild (inside w.forest n))) c.if-state.false)
    ∙ sym (ap (λ s. appropriate_place w (first_or w.forest.document s)) top)
