use Rattle.std.proofs.Common.{◌∙◌, ◌++◌, ap, arith}
use Rattle.std.specs.Int.{w32, to_le_bytes}
use Rattle.h5_tree_block.specs.Packed.{ended_word}
use Rattle.h5_tree_block.proofs.PackLaws.{put_step, words_more, words_whole}
use Rattle.h5_tree_block.proofs.pack.put_ended.Goals as goal

pub loop-one-preserved : goal.loop-one-preserved
loop-one-preserved c =
    let put = c.in_ok-put.ensures.bytes ∙ ap (λ w. c.loop-one.block.items ++ to_le_bytes w32 w) c.get.ensures in (
      put_step (ended_word c.args.which) c.args.list.now c.loop-one.one-index _ _ _ _ (omega (arith, c.loop-one-test.true)) put c.loop-one.invariant.0,
      words_more (ended_word c.args.which) c.args.list.now c.loop-one.one-index _ (omega (arith, c.loop-one-test.true)) c.loop-one.invariant.1 (rw c.get.ensures at c.in_ok-put.ensures.word),
    )

pub returns-clause-words : goal.returns-clause-words
returns-clause-words c = words_whole (ended_word c.args.which) c.args.list.now c.loop-one.one-index c.loop-one-test.false c.loop-one.auto.one-index-end c.loop-one.invariant.1
