use Rattle.std.proofs.Common.{◌≡◌, [], ap, arith, drop, length}
use Rattle.std.proofs.Math.ListN.{drop_of_length-le}
use Rattle.h5_encodings.specs.Decoding.{reading_of}
use Rattle.h5_encodings.specs.Steps.{errors_so_far}
use Rattle.h5_encodings.proofs.reading.push_steps.Goals as goal

-- nothing is left
pub returns-clause-errors : goal.returns-clause-errors
returns-clause-errors c =
    let left : drop c.loop-byte.byte-index c.args.bytes.now ≡ [] = drop_of_length-le c.args.bytes.now (omega (arith, c.loop-byte-test.false, c.loop-byte.auto.byte-index-end)) in
    let none = ap (errors_so_far (reading_of c.args.encoding) c.loop-byte.behind.kept) left in
    omega (arith, none, c.loop-byte.invariant.errors, c.loop-byte.invariant.fits)
