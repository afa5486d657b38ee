use Rattle.std.proofs.Common.{arith}
use Rattle.h5_tree.proofs.LoopLaws.{from_end, from_step, next_small}
use Rattle.h5_tree.proofs.block_elements.elements_from.Goals as goal

pub loop-child-smaller : goal.loop-child-smaller
loop-child-smaller c = omega (arith, c.next-child.ensures.behind, c.loop-child.invariant.0, c.loop-child-test.true)

pub loop-child-preserved : goal.loop-child-preserved
loop-child-preserved c =
    let t = c.args.tree.now in (
      next_small t.view.block.now t.sound t.small c.loop-child.child c.next-child.result c.next-child.ensures.sibling,
      λ p child. from_step t.view.block.now t.sound t.small p c.loop-child.child c.next-child.result c.loop-child.found.items c.add_element.new.found.items _ c.next-child.ensures.sibling c.loop-child-test.true c.in_ok-add_element.ensures (c.loop-child.invariant.1 p child),
    )

pub returns : goal.returns
returns c = λ p child. from_end c.args.tree.now.view.block.now c.args.tree.now.sound c.args.tree.now.small p c.loop-child.child c.loop-child.found.items _ c.loop-child-test.false (c.loop-child.invariant.1 p child)
