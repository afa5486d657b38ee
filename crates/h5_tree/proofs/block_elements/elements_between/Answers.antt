use Rattle.h5_tree.proofs.LoopLaws.{between_all, between_more}
use Rattle.h5_tree.proofs.block_elements.elements_between.Goals as goal

pub loop-at-preserved : goal.loop-at-preserved
loop-at-preserved c =
    let t = c.args.tree.now in
    λ in_it. between_more t.view.block.now t.sound t.small c.args.to c.loop-at.at c.number_after-at.result c.loop-at.found.items c.add_element.new.found.items _ in_it c.loop-at-test.true c.number_after-at.ensures.number c.in_ok-add_element.ensures (c.loop-at.invariant in_it)

pub returns : goal.returns
returns c = λ in_it. between_all c.args.tree.now.view.block.now c.args.tree.now.sound c.args.tree.now.small c.args.to c.loop-at.at c.loop-at.found.items _ c.loop-at-test.false (c.loop-at.invariant in_it)
