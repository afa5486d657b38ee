use Rattle.std.proofs.Common.{◌≡◌, ◌-◌, ◌+◌, ap, arith, sym, ◌∙◌}
use Rattle.h5_builder_spec.specs.stack.Order.{is_in}
use Rattle.h5_builder_spec.specs.World.{names_of}
use Rattle.h5_builder_spec.proofs.entries.PairLaws.{is_in_telling}
use Rattle.h5_builder_state.proofs.ItemLaws.{length-values}
use Rattle.h5_builder_state.specs.View.{elements_of, open_node, stack_under, world}
use Rattle.h5_builder_state.proofs.AttributeLaws.{open_length}
use Rattle.h5_builder_state.proofs.ChainLaws.{under, walk_begins, walk_finds, walk_goes_on}
use Rattle.h5_builder_state.proofs.StackLaws.{open_is_node}
use Rattle.h5_builder_state.proofs.find.find_numbered.Goals as goal

pub down-init : goal.down-init
unfolding world names_of
down-init g c =
    walk_begins g.S.TreeSink.node (g.S.TreeSink.sees c.args.sink.now).forest c.args.state.now.open_elems c.requires.sound.kept (g.S.TreeSink.node c.args.handle.now) c.args.number c.requires.number
    c.newest-next.result c.newest-next.ensures.newest

pub overflow_sub-place : goal.overflow_sub-place
overflow_sub-place g c = omega (arith, c.down-test.true)

pub handle_at-requires : goal.handle_at-requires
unfolding world
handle_at-requires g c =
    omega (arith, c.down-test.true, c.down.invariant.within, open_length (open_node g.S.TreeSink.node) (elements_of c.args.state.now), length-values c.args.state.now.open_elems.elements)

pub same_node-requires-clause-x : goal.same_node-requires-clause-x
unfolding world
same_node-requires-clause-x g c =
    open_is_node (world g.S.TreeSink.sees g.S.TreeSink.node c.args.sink.now c.args.state.now) (g.S.TreeSink.node c.handle_at.result.now) c.requires.sound.sound c.handle_at.ensures.open

pub returns-then-same_node-clause-found : goal.returns-then-same_node-clause-found
unfolding stack_under
returns-then-same_node-clause-found g c =
    let n = g.S.TreeSink.node c.args.handle.now in
    let found = walk_finds _ c.down.next (c.down.next - 1) _ c.down.invariant (omega (arith, c.down-test.true)) c.handle_at.ensures.stack c.handle_at.ensures.count (sym c.same_node.ensures ∙ c.if-same_node.true) in
    sym (is_in_telling n _ found.0)

pub returns-then-same_node-clause-place : goal.returns-then-same_node-clause-place
unfolding stack_under
returns-then-same_node-clause-place g c =
    let found = walk_finds _ c.down.next (c.down.next - 1) _ c.down.invariant (omega (arith, c.down-test.true)) c.handle_at.ensures.stack c.handle_at.ensures.count (sym c.same_node.ensures ∙ c.if-same_node.true) in
    record { is_open = found.0; here = found.1 }

pub returns-then-same_node-clause-inside : goal.returns-then-same_node-clause-inside
unfolding world
returns-then-same_node-clause-inside g c =
    omega (arith, c.down-test.true, c.down.invariant.within, open_length (open_node g.S.TreeSink.node) (elements_of c.args.state.now), length-values c.args.state.now.open_elems.elements)

pub older-next-requires : goal.older-next-requires
older-next-requires g c = omega (arith, c.down-test.true, c.down.invariant.within)

pub down-smaller : goal.down-smaller
down-smaller g c = omega (arith, c.down-test.true, c.older-next.ensures.within)

pub down-preserved : goal.down-preserved
unfolding world names_of stack_under
down-preserved g c =
    let node = g.S.TreeSink.node in
    let f = (g.S.TreeSink.sees c.args.sink.now).forest in
    let w = world g.S.TreeSink.sees node c.args.sink.now c.args.state.now in
    walk_goes_on node f c.args.state.now.open_elems c.requires.sound.kept (node c.args.handle.now) c.args.number c.requires.number w.stack c.down.next (c.down.next - 1) c.older-next.result
    (node c.handle_at.result.now) c.down.invariant (omega (arith, c.down-test.true)) c.older-next.ensures.older c.handle_at.ensures.stack (sym c.same_node.ensures ∙ c.if-same_node.false)

pub returns-clause-found : goal.returns-clause-found
returns-clause-found g c =
    let node = g.S.TreeSink.node in
    let none : c.down.next ≡ 0 = omega (arith, c.down-test.false) in
    sym (sym c.down.invariant.left ∙ ap (λ j. is_in (node c.args.handle.now) (under node c.args.state.now.open_elems j)) none)

pub is_lower-requires : goal.is_lower-requires
unfolding world
is_lower-requires g c =
    omega (arith, c.down-test.true, c.down.invariant.within, open_length (open_node g.S.TreeSink.node) (elements_of c.args.state.now), length-values c.args.state.now.open_elems.elements)

pub returns-then-is_lower-clause-found : goal.returns-then-is_lower-clause-found
unfolding stack_under
returns-then-is_lower-clause-found g c =
    let node = g.S.TreeSink.node in
    let n = node c.args.handle.now in
    let here : c.down.next ≡ c.down.next - 1 + 1 = omega (arith, c.down-test.true) in
    sym (sym c.down.invariant.left ∙ ap (λ j. is_in n (under node c.args.state.now.open_elems j)) here ∙ c.is_lower.ensures n c.requires.above c.if-is_lower.true)
