use Rattle.std.proofs.Common.{arith, length, ◌-◌}
use Rattle.h5_serialize.specs.Places.{is_candidate}
use Rattle.h5_serialize.proofs.Escapes.{rest_before, rest_length}
use Rattle.h5_serialize.proofs.escape.first_candidate.Goals as goal

pub returns-in-Some-clause-before : goal.returns-in-Some-clause-before
returns-in-Some-clause-before c = λ k low lt. rest_before (is_candidate c.args.attr_mode) c.args.bytes.now c.args.from c.in-Some.i k c.in-Some.ensures.0.before low lt

pub returns-in-None-clause-before : goal.returns-in-None-clause-before
returns-in-None-clause-before c = λ k low lt. rest_before (is_candidate c.args.attr_mode) c.args.bytes.now c.args.from (length c.args.bytes.now - c.args.from) k (λ n a b. c.in-None.ensures n a (omega (arith, b, rest_length c.args.bytes.now c.args.from))) low (omega arith)
