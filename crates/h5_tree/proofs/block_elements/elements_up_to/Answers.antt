use Rattle.h5_tree.proofs.LoopLaws.{before_all, before_more}
use Rattle.h5_tree.proofs.block_elements.elements_up_to.Goals as goal

pub loop-sibling-preserved : goal.loop-sibling-preserved
loop-sibling-preserved c =
    let t = c.args.tree.now in
    λ after some begins. before_more t.view.block.now t.sound t.small c.args.id c.loop-sibling.sibling c.next-sibling.result c.loop-sibling.found.items c.add_element.new.found.items _ after some c.next-sibling.ensures.sibling c.loop-sibling-test.true c.in_ok-add_element.ensures (c.loop-sibling.invariant after some begins)

pub returns : goal.returns
returns c = λ after some begins. before_all c.args.tree.now.view.block.now c.args.tree.now.sound c.args.tree.now.small c.args.id c.loop-sibling.sibling c.loop-sibling.found.items _ c.loop-sibling-test.false (c.loop-sibling.invariant after some begins)
