use Rattle.std.proofs.Common.{◌∙◌, ◌≤◌, length}
use Rattle.h5_markup.proofs.Words.{word_ends}
use Rattle.h5_markup.proofs.needle.compare.Goals as goal

pub returns-in-None : goal.returns-in-None
returns-in-None c =
    let short : length c.args.text.now ≤ c.loop-i.i = c.in-None.ensures.lookup.3 in
    c.loop-i.invariant.same ∙ word_ends c.args.needle.now c.args.text.now c.loop-i.i c.loop-i-test.true short c.loop-i.invariant.within
