use Rattle.std.proofs.Common.{All, arith, drop, map, subst, vec_len, ◌+◌, ◌-◌, ◌≡◌}
use Rattle.h5_builder_state.proofs.ItemLaws.{length-values}
use Rattle.h5_builder_state.specs.Stamps.{MayStandBelow, stamps_of}
use Rattle.h5_builder_state.specs.View.{elements_of, open_node, world}
use Rattle.h5_builder_state.proofs.AttributeLaws.{open_length}
use Rattle.h5_builder_actions.proofs.stack.restack.Goals as goal

pub overflow_add-block : goal.overflow_add-block
unfolding world
overflow_add-block g c =
    omega (arith, c.requires.block, c.requires.sound.kept.few, open_length (open_node g.S.TreeSink.node) (elements_of c.args.state.now), length-values c.args.state.now.open_elems.elements)

pub replace-requires-clause-below : goal.replace-requires-clause-below
replace-requires-clause-below g c =
    let node = g.S.TreeSink.node in
    let same : c.args.block ≡ c.args.place + vec_len c.args.handles - 1 = omega (arith, c.requires.place, c.len.ensures, c.if-len-block.true) in
    subst (λ k. All (MayStandBelow node (drop k (stamps_of node c.args.state.now.open_elems)) (map node c.args.handles.items)) c.args.state.now.active_formatting) same c.requires.below
