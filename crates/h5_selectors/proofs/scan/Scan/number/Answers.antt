use Rattle.std.proofs.Common.{◌-◌, ◌∙◌, [], ◌∷◌, arith}
use Rattle.h5_selectors.proofs.Pieces.{pieces_done, pieces_more, pieces_stop}
use Rattle.h5_selectors.specs.Tokens.{digit_at, reading}
use Rattle.h5_selectors.proofs.scan.Scan.number.Goals as goal

pub loop-step-preserved : goal.loop-step-preserved
loop-step-preserved c =
    let e = pieces_more (digit_at c.args.radix) c.args.most c.loop-step._step c.loop-step.self.rest.now (reading (c.in-Some.digit ∷ []) c.digit.new.self.rest.now) (omega (arith, c.loop-step-test.true)) c.in-Some.ensures.digit in
    record {
      number = rw c.appended.ensures (rw e at c.loop-step.invariant.number);
      rest = rw e at c.loop-step.invariant.rest;
    }

pub returns-clause-value : goal.returns-clause-value
returns-clause-value c =
    let e = pieces_done (digit_at c.args.radix) c.args.most c.loop-step._step c.loop-step.self.rest.now (omega (arith, c.loop-step-test.false)) in
    rw e at c.loop-step.invariant.number

pub returns-clause-rest : goal.returns-clause-rest
returns-clause-rest c =
    let e = pieces_done (digit_at c.args.radix) c.args.most c.loop-step._step c.loop-step.self.rest.now (omega (arith, c.loop-step-test.false)) in
    rw e at c.loop-step.invariant.rest

pub returns-in_default-clause-value : goal.returns-in_default-clause-value
returns-in_default-clause-value c =
    let e = pieces_stop (digit_at c.args.radix) (c.args.most - c.loop-step._step) c.loop-step.self.rest.now c.in_default.ensures.digit in
    rw e at c.loop-step.invariant.number

pub returns-in_default-clause-rest : goal.returns-in_default-clause-rest
returns-in_default-clause-rest c =
    let e = pieces_stop (digit_at c.args.radix) (c.args.most - c.loop-step._step) c.loop-step.self.rest.now c.in_default.ensures.digit in
    c.in_default.ensures.none ∙ (rw e at c.loop-step.invariant.rest)
