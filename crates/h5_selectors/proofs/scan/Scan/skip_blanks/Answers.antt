use Rattle.std.proofs.Common.{◌+◌, ◌-◌, ◌≡◌, ◌∙◌, true, ap, arith, length, option_to_list}
use Rattle.std.specs.Prelude.{◌||◌}
use Rattle.h5_selectors.proofs.Pieces.{found_only, pieces_done, pieces_more, pieces_stop, spaced_more}
use Rattle.h5_selectors.specs.Tokens.{begins, blank_at, blanks, pieces_within, reading}
use Rattle.h5_selectors.proofs.scan.Scan.skip_blanks.Goals as goal

pub loop-step-init : goal.loop-step-init
unfolding blanks
loop-step-init c =
    let text = c.args.self.now.rest.now in
    let e : length text - 0 ≡ length text = omega arith in
    record {
      found = ap (λ n. begins (λ _. true) (pieces_within blank_at n text).value) e;
      rest = ap (λ n. (pieces_within blank_at n text).rest) e;
    }

pub loop-step-preserved : goal.loop-step-preserved
loop-step-preserved c =
    let e = pieces_more blank_at (length c.args.self.now.rest.now) c.loop-step._step c.loop-step.self.rest.now (reading (option_to_list c.in-Some.blank) c.blank.new.self.rest.now) (omega (arith, c.loop-step-test.true)) c.in-Some.ensures.piece in
    let left = (pieces_within blank_at (length c.args.self.now.rest.now - (c.loop-step._step + 1)) c.blank.new.self.rest.now).value in
    record {
      found = ap (λ b. (c.loop-step.found || b) || begins (λ _. true) left) c.is_some-found.ensures ∙ spaced_more c.loop-step.found c.in-Some.blank left ∙ (rw e at c.loop-step.invariant.found);
      rest = rw e at c.loop-step.invariant.rest;
    }

pub returns-in_default-clause-found : goal.returns-in_default-clause-found
returns-in_default-clause-found c =
    let e = pieces_stop blank_at (length c.args.self.now.rest.now - c.loop-step._step) c.loop-step.self.rest.now c.in_default.ensures.piece in
    found_only c.loop-step.found ∙ (rw e at c.loop-step.invariant.found)

pub returns-in_default-clause-rest : goal.returns-in_default-clause-rest
returns-in_default-clause-rest c =
    let e = pieces_stop blank_at (length c.args.self.now.rest.now - c.loop-step._step) c.loop-step.self.rest.now c.in_default.ensures.piece in
    c.in_default.ensures.none ∙ (rw e at c.loop-step.invariant.rest)

pub returns-clause-found : goal.returns-clause-found
returns-clause-found c =
    let e = pieces_done blank_at (length c.args.self.now.rest.now) c.loop-step._step c.loop-step.self.rest.now (omega (arith, c.loop-step-test.false)) in
    found_only c.loop-step.found ∙ (rw e at c.loop-step.invariant.found)

pub returns-clause-rest : goal.returns-clause-rest
returns-clause-rest c =
    let e = pieces_done blank_at (length c.args.self.now.rest.now) c.loop-step._step c.loop-step.self.rest.now (omega (arith, c.loop-step-test.false)) in
    rw e at c.loop-step.invariant.rest
