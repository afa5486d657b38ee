use Rattle.std.proofs.Common.{◌≡◌, ◌<◌, ◌+◌, ap, sym, ◌∙◌, Some, length, take, drop, arith}
use Rattle.h5_markup.specs.Ending.{walk}
use Rattle.h5_markup.proofs.Endings.{walk_along, walk_turn}
use Rattle.h5_markup.proofs.ending.find_end.Goals as goal
use Rattle.h5_markup.proofs.ending.find_end.Goals.{After-unmoved-n}

-- after the bytes that were passed at once
passed : (c : After-unmoved-n) → walk c.args.place (take (c.loop-n.n + c.unmoved-n.result) c.args.bytes.now) ≡ Some c.loop-n.now
passed c =
    let here : walk c.loop-n.now (take c.unmoved-n.result (drop c.loop-n.n c.args.bytes.now)) ≡ Some c.loop-n.now = rw c.split_at.ensures.back at c.unmoved-n.ensures.walked in
    walk_along c.args.place c.loop-n.now c.loop-n.now c.args.bytes.now c.loop-n.n c.unmoved-n.result c.loop-n.invariant.walked here

pub returns-then-n-bytes-clause-walked : goal.returns-then-n-bytes-clause-walked
returns-then-n-bytes-clause-walked c = passed (goal.at.returns-then-n-bytes-clause-walked c).After-unmoved-n

pub loop-n-preserved : goal.loop-n-preserved
loop-n-preserved c =
    let n = c.loop-n.n + c.unmoved-n.result in
    let inside : n < length c.args.bytes.now = omega (arith, c.unmoved-n.ensures.within, c.split_at.ensures.back_len, c.if-n-bytes.false) in
    record {
      within = omega arith;
      walked = walk_turn c.args.place c.loop-n.now c.args.bytes.now n inside (passed (goal.at.loop-n-preserved c).After-unmoved-n) (sym c.ends.ensures ∙ c.if-ends.false) ∙ ap Some (sym c.next-now.ensures);
    }
