use Rattle.std.proofs.Common.{refl, rules, sym}
use Rattle.h5_tree_block.specs.Block as b
use Rattle.h5_tree_block.specs.SameTree.{is_same_at}
use Rattle.h5_tree_block.proofs.SoundLaws.{one_fails, one_more}
use Rattle.h5_tree_block.proofs.unpack.Unpacked.are_nodes_same.Goals as goal

pub loop-number-init : goal.loop-number-init
loop-number-init c = refl

pub returns-then-not-is_same_at : goal.returns-then-not-is_same_at
returns-then-not-is_same_at c =
    let block = c.args.view.now.block.now in
    sym (one_fails (is_same_at block c.args.self.now) (b.nodes_in block) c.loop-number.number (search rules) (sym c.if-not-is_same_at.ensures))

pub loop-number-preserved : goal.loop-number-preserved
loop-number-preserved c =
    let block = c.args.view.now.block.now in
    one_more (is_same_at block c.args.self.now) c.loop-number.number c.loop-number.invariant (sym c.if-not-is_same_at.ensures)
