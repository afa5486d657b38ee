use Rattle.std.proofs.Common.{subst, IsUtf8}
use Rattle.h5_serialize.proofs.Escapes.{wrote_more}
use Rattle.h5_serialize.proofs.FrontLaws.{front_left, stops}
use Rattle.h5_serialize.proofs.escape.write_escaped.Goals as goal

pub loop-after-preserved : goal.loop-after-preserved
loop-after-preserved g c =
    let made = rw c.in-Some.is at c.in_ok-after.ensures.text in
    record {
      utf8 = subst IsUtf8 c.as_bytes-bytes.ensures.value c.as_bytes-bytes.ensures.utf8;
      wrote = wrote_more _ _ _ _ _ _ made.0 c.loop-after.invariant.wrote made.1 made.2;
    }

pub returns-in_err-after-clause-text : goal.returns-in_err-after-clause-text
returns-in_err-after-clause-text g c = stops _ _ c.from_residual.ensures.1 (front_left _ _ _ _ _ c.loop-after.invariant.wrote c.in_err-after.ensures.front)
