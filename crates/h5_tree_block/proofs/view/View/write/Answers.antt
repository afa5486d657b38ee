use Rattle.std.proofs.Common.{arith, subst, sym}
use Rattle.h5_tree_block.proofs.HtmlLaws.{AreWritten, where_ok, written_all, written_more, written_none}
use Rattle.h5_tree_block.proofs.view.View.write.Goals as goal

pub loop-node-init : goal.loop-node-init
loop-node-init c =
    let block = c.args.self.now.block.now in
    let old = c.args.html.now in
    subst (λ begun. AreWritten block c.args.from c.args.to old c.args.from begun old) (sym c.new-begun.ensures.items) (written_none block c.args.from c.args.to old c.requires)

pub loop-node-preserved : goal.loop-node-preserved
loop-node-preserved c =
    written_more c.args.self.now.block.now c.args.from c.args.to c.args.html.now c.loop-node.node c.loop-node.begun.items c.close_before.new.begun.items c.push.new.self.items c.loop-node.html c.close_before.new.html c.begin.new.html
    c.loop-node-test.true c.in_ok-close_before.ensures.told c.in_ok-close_before.ensures.left c.in_ok-begin.ensures c.in_ok-push.ensures.items c.loop-node.invariant

pub returns : goal.returns
returns c =
    let done = c.loop-node-test.false in
    let within = c.loop-node.invariant.within in
    where_ok c.close_before-2.result
    (λ ends. written_all c.args.self.now.block.now c.args.from c.args.to c.args.html.now c.loop-node.node c.loop-node.begun.items c.loop-node.html c.close_before-2.new.html (omega (arith, done, within)) ends c.loop-node.invariant)
    c.close_before-2.ensures.told
