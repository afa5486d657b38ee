use Rattle.std.proofs.Common.{◌∙◌, ◌<◌, ◌≤◌, arith, length, sym}
use Rattle.h5_tables.proofs.DoctypeLaws.{begins_short}
use Rattle.h5_tables.proofs.doctypes.begins_with.Goals as goal

pub returns-in-None : goal.returns-in-None
returns-in-None c =
    let short : length c.args.text.now ≤ c.loop-i.i = omega (arith, c.in-None.ensures.lookup.3, c.as_bytes-bytes.ensures.len) in
    let more : c.loop-i.i < length c.args.prefix.now = omega (arith, c.loop-i-test.true, c.as_bytes-wanted-items.ensures.len) in
    sym (c.loop-i.invariant.same ∙ begins_short c.args.text.now c.args.prefix.now c.loop-i.i more short c.loop-i.invariant.within)
