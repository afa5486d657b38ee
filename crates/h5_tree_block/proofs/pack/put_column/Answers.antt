use Rattle.std.proofs.Common.{◌∙◌, ◌++◌, ap, arith}
use Rattle.std.specs.Int.{w32, to_le_bytes}
use Rattle.h5_tree_block.specs.Packed.{word_of}
use Rattle.h5_tree_block.proofs.PackLaws.{put_step, words_more, words_whole}
use Rattle.h5_tree_block.proofs.pack.put_column.Goals as goal

pub loop-node-preserved : goal.loop-node-preserved
loop-node-preserved c =
    let put = c.in_ok-put.ensures.bytes ∙ ap (λ w. c.loop-node.block.items ++ to_le_bytes w32 w) c.word.ensures in (
      put_step (word_of c.args.which) c.args.nodes.now c.loop-node.node-index _ _ _ _ (omega (arith, c.loop-node-test.true)) put c.loop-node.invariant.0,
      words_more (word_of c.args.which) c.args.nodes.now c.loop-node.node-index _ (omega (arith, c.loop-node-test.true)) c.loop-node.invariant.1 (rw c.word.ensures at c.in_ok-put.ensures.word),
    )

pub returns-clause-words : goal.returns-clause-words
returns-clause-words c = words_whole (word_of c.args.which) c.args.nodes.now c.loop-node.node-index c.loop-node-test.false c.loop-node.auto.node-index-end c.loop-node.invariant.1
