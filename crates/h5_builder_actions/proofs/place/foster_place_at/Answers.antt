use Rattle.std.proofs.Common.{◌-◌, ◌<◌, ap, arith, cond, get_or, length, map, sym, ◌∙◌}
use Rattle.std.proofs.lemmas.List.{length-map, length-reverse}
use Rattle.h5_builder_spec.specs.insertion.Place.{LastChild, TableFosterParenting, foster_place, inside}
use Rattle.h5_builder_spec.specs.World.{root}
use Rattle.h5_builder_spec.specs.stack.Order.{first_or}
use Rattle.h5_builder_spec.proofs.changes.SoundLaws.{element_is_node}
use Rattle.h5_builder_state.specs.View.{elements_of, open_node, stack_under, world}
use Rattle.h5_builder_state.proofs.StackLaws.{below_first, element_at, seen_at, stack_step, template_test}
use Rattle.h5_builder_actions.proofs.place.foster_place_at.Goals as goal

pub elem_name-requires : goal.elem_name-requires
unfolding world
elem_name-requires g c =
    element_at (open_node g.S.TreeSink.node) (elements_of c.args.state.now) (g.S.TreeSink.sees c.args.sink.now).forest c.args.at c.get-element.result.now c.requires.sound.sound.stands.elements c.requires.at c.get-element.ensures

pub inside-requires-clause-open : goal.inside-requires-clause-open
unfolding world
inside-requires-clause-open g c =
    let items = (elements_of c.args.state.now) in
    seen_at (open_node g.S.TreeSink.node) items c.args.at c.get-element.result.now (omega (arith, c.requires.at, length-reverse (map (open_node g.S.TreeSink.node) items), length-map items (open_node g.S.TreeSink.node))) c.get-element.ensures

pub clone_handle-requires : goal.clone_handle-requires
unfolding world
clone_handle-requires g c =
    let f = (g.S.TreeSink.sees c.args.sink.now).forest in
    element_is_node f (g.S.TreeSink.node c.get-element.result.now.handle)
    (element_at (open_node g.S.TreeSink.node) (elements_of c.args.state.now) f c.args.at c.get-element.result.now c.requires.sound.sound.stands.elements c.requires.at c.get-element.ensures)

pub clone_handle-requires-else-is_html_known : goal.clone_handle-requires-else-is_html_known
unfolding world
clone_handle-requires-else-is_html_known g c =
    let f = (g.S.TreeSink.sees c.args.sink.now).forest in
    let below = c.get-below.result.now in
    element_is_node f (g.S.TreeSink.node below.handle)
    (element_at (open_node g.S.TreeSink.node) (elements_of c.args.state.now) f (c.args.at - 1) below c.requires.sound.sound.stands.elements (omega (arith, c.requires.at))
    (c.get-below.ensures ∙ ap (λ k. get_or (elements_of c.args.state.now) k below) c.saturating_sub.ensures))

pub returns-then-is_html_known : goal.returns-then-is_html_known
unfolding world stack_under
returns-then-is_html_known g c =
    let node = open_node g.S.TreeSink.node in
    let f = (g.S.TreeSink.sees c.args.sink.now).forest in
    let items = (elements_of c.args.state.now) in
    let html = root (world g.S.TreeSink.sees g.S.TreeSink.node c.args.sink.now c.args.state.now) in
    let n = node c.get-element.result.now in
    let inner : c.args.at < length items = omega (arith, c.requires.at, length-reverse (map node items), length-map items node) in
    let older = stack_under g.S.TreeSink.node c.args.state.now c.args.at in
    ap LastChild c.inside.ensures
    ∙ sym (ap (foster_place f html) (stack_step node items c.args.at c.get-element.result.now inner c.get-element.ensures)
    ∙ ap (λ b. cond b (LastChild (inside f n)) (TableFosterParenting n (first_or n older)))
    (template_test f n c.elem_name.result.now c.is_html_known.result c.elem_name.ensures c.is_html_known.ensures ∙ c.if-is_html_known.true))

pub returns-else-is_html_known : goal.returns-else-is_html_known
unfolding world stack_under
returns-else-is_html_known g c =
    let node = open_node g.S.TreeSink.node in
    let f = (g.S.TreeSink.sees c.args.sink.now).forest in
    let items = (elements_of c.args.state.now) in
    let html = root (world g.S.TreeSink.sees g.S.TreeSink.node c.args.sink.now c.args.state.now) in
    let n = node c.get-element.result.now in
    let inner : c.args.at < length items = omega (arith, c.requires.at, length-reverse (map node items), length-map items node) in
    let older = stack_under g.S.TreeSink.node c.args.state.now c.args.at in
    let below = c.get-below.result.now in
    ap (λ m. TableFosterParenting m (g.S.TreeSink.node c.clone_handle-else-is_html_known.result)) c.clone_handle.ensures
    ∙ ap (TableFosterParenting n) (c.clone_handle-else-is_html_known.ensures
    ∙ sym (below_first node items c.args.at c.get-element.result.now below inner c.get-element.ensures (c.get-below.ensures ∙ ap (λ k. get_or items k below) c.saturating_sub.ensures)))
    ∙ sym (ap (foster_place f html) (stack_step node items c.args.at c.get-element.result.now inner c.get-element.ensures)
    ∙ ap (λ b. cond b (LastChild (inside f n)) (TableFosterParenting n (first_or n older)))
    (template_test f n c.elem_name.result.now c.is_html_known.result c.elem_name.ensures c.is_html_known.ensures ∙ c.if-is_html_known.false))
