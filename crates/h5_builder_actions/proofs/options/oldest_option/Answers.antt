use Rattle.std.proofs.Common.{Some, ap, ◌++◌, arith, codes, drop, map, reverse, sym, ◌+◌, ◌-◌, ◌∙◌, ◌≡◌}
use Rattle.h5_tables.specs.TagSets.{is_html_named}
use Rattle.h5_builder_spec.specs.World.{names_of}
use Rattle.h5_builder_spec.proofs.changes.PopLaws.{names_length}
use Rattle.h5_builder_spec.proofs.changes.SoundLaws.{element_is_node}
use Rattle.h5_builder_state.specs.Newest.{oldest_where}
use Rattle.h5_builder_state.specs.View.{elements_of, open_node, stack_under, world}
use Rattle.h5_builder_state.specs.declared.open_element.AllOpen.{AllOpen}
use Rattle.h5_builder_state.proofs.NewestLaws.{oldest_le, oldest_none, oldest_some}
use Rattle.h5_builder_state.proofs.SeenLaws.{seen_cut}
use Rattle.h5_builder_actions.proofs.options.oldest_option.Goals as goal

pub returns-then-place-eq0-clause-oldest : goal.returns-then-place-eq0-clause-oldest
returns-then-place-eq0-clause-oldest g c =
    let w = world g.S.TreeSink.sees g.S.TreeSink.node c.args.sink.now c.args.state.now in
    sym (oldest_none (is_html_named (codes "option")) (names_of w) w.stack (sym (ap (λ (a : AllOpen). a.oldest_option) c.all_open-place.ensures.known) ∙ c.if-place-eq0.true))

pub open_at-requires-clause-place : goal.open_at-requires-clause-place
open_at-requires-clause-place g c =
    let w = world g.S.TreeSink.sees g.S.TreeSink.node c.args.sink.now c.args.state.now in
    let is = is_html_named (codes "option") in
    omega (arith, c.if-place-eq0.false, ap (λ (a : AllOpen). a.oldest_option) c.all_open-place.ensures.known, oldest_le is (names_of w), names_length w)

pub clone_handle-requires : goal.clone_handle-requires
clone_handle-requires g c =
    element_is_node (g.S.TreeSink.sees c.args.sink.now).forest (g.S.TreeSink.node c.open_at.result.now.handle) c.open_at.ensures.element

pub returns-clause-oldest : goal.returns-clause-oldest
unfolding world stack_under
returns-clause-oldest g c =
    let node = g.S.TreeSink.node in
    let w = world g.S.TreeSink.sees node c.args.sink.now c.args.state.now in
    let is = is_html_named (codes "option") in
    let place = c.all_open-place.result.oldest_option in
    let known : place ≡ oldest_where is (names_of w) = ap (λ (a : AllOpen). a.oldest_option) c.all_open-place.ensures.known in
    let cut = seen_cut (open_node node) (elements_of c.args.state.now) (place - 1 + 1) ∙ ap (λ z. reverse (map (open_node node) (drop (place - 1 + 1) (elements_of c.args.state.now))) ++ z) c.open_at.ensures.here in
    ap (λ n. Some n) c.clone_handle.ensures
    ∙ sym (oldest_some is (names_of w) w.stack _ (stack_under node c.args.state.now (place - 1)) _ (names_length w) cut (omega (arith, known, c.if-place-eq0.false, c.open_at.ensures.count)))
