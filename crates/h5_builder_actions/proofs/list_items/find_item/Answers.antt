use Rattle.std.proofs.Common.{ap, arith, length, sym, ◌++◌, ◌+◌, ◌-◌, ◌∙◌, ◌≡◌, ◌≤◌}
use Rattle.h5_builder_spec.specs.World.{names_of}
use Rattle.h5_builder_spec.specs.stack.Closing.{ends_item_search}
use Rattle.h5_builder_spec.proofs.changes.PopLaws.{names_length}
use Rattle.h5_builder_state.specs.Newest.{newest_where}
use Rattle.h5_builder_state.specs.View.{names_under, world}
use Rattle.h5_builder_state.specs.declared.open_element.AllOpen.{AllOpen}
use Rattle.h5_builder_state.proofs.NewestLaws.{newest_le}
use Rattle.h5_builder_state.proofs.WalkLaws.{names_cut, names_count}
use Rattle.h5_builder_actions.proofs.ItemLaws.{item_none, item_some}
use Rattle.h5_builder_actions.proofs.list_items.find_item.Goals as goal

pub returns-then-end-eq0 : goal.returns-then-end-eq0
returns-then-end-eq0 g c =
    let w = world g.S.TreeSink.sees g.S.TreeSink.node c.args.sink.now c.args.state.now in
    sym (item_none c.args.kind (names_of w) (sym (ap (λ (a : AllOpen). a.item_end) c.all_open-end.ensures.known) ∙ c.if-end-eq0.true))

pub name_at-requires-clause-place : goal.name_at-requires-clause-place
name_at-requires-clause-place g c =
    let w = world g.S.TreeSink.sees g.S.TreeSink.node c.args.sink.now c.args.state.now in
    omega (arith, c.if-end-eq0.false, ap (λ (a : AllOpen). a.item_end) c.all_open-end.ensures.known, newest_le ends_item_search (names_of w), names_length w)

pub returns : goal.returns
unfolding world
returns g c =
    let law = g.S.TreeSink in
    let w = world law.sees law.node c.args.sink.now c.args.state.now in
    let end = c.all_open-end.result.item_end in
    let known : end ≡ newest_where ends_item_search (names_of w) = ap (λ (a : AllOpen). a.item_end) c.all_open-end.ensures.known in
    let inside : end - 1 ≤ length w.stack = omega (arith, c.if-end-eq0.false, known, newest_le ends_item_search (names_of w), names_length w) in
    let cut = names_cut law.sees law.node c.args.sink.now c.args.state.now (end - 1 + 1) in
    let split = cut.1 ∙ ap (λ z. cut.0 ++ z) c.name_at.ensures.names in
    let older = names_under law.sees law.node c.args.sink.now c.args.state.now (end - 1) in
    c.item_of.ensures
    ∙ sym (item_some c.args.kind (names_of w) cut.0 older c.name_at.result.now split (omega (arith, known, c.if-end-eq0.false, names_count law.sees law.node c.args.sink.now c.args.state.now (end - 1) inside)))
