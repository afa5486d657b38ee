use Rattle.std.proofs.Common.{refl, rules, sym}
use Rattle.h5_tree_block.specs.Block as b
use Rattle.h5_tree_block.specs.Sound.{is_node_sound}
use Rattle.h5_tree_block.proofs.SoundLaws.{one_fails, one_more}
use Rattle.h5_tree_block.proofs.view.View.are_nodes_sound.Goals as goal

pub loop-node-init : goal.loop-node-init
loop-node-init c = refl

pub returns-then-not-is_node_sound : goal.returns-then-not-is_node_sound
returns-then-not-is_node_sound c =
    let block = c.args.self.now.block.now in
    sym (one_fails (is_node_sound block) (b.nodes_in block) c.loop-node.node (search rules) (sym c.if-not-is_node_sound.ensures))

pub loop-node-preserved : goal.loop-node-preserved
loop-node-preserved c =
    let block = c.args.self.now.block.now in
    one_more (is_node_sound block) c.loop-node.node c.loop-node.invariant (sym c.if-not-is_node_sound.ensures)
