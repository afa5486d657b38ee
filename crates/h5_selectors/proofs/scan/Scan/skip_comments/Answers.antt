use Rattle.std.proofs.Common.{◌-◌, ◌∙◌, [], arith, length}
use Rattle.h5_selectors.proofs.Pieces.{pieces_done, pieces_more, pieces_stop}
use Rattle.h5_selectors.specs.Tokens.{comment_at, reading}
use Rattle.h5_selectors.proofs.scan.Scan.skip_comments.Goals as goal

pub loop-step-preserved : goal.loop-step-preserved
loop-step-preserved c =
    let e = pieces_more comment_at (length c.args.self.now.rest.now) c.loop-step._step c.loop-step.self.rest.now (reading [] c.skip_comment.new.self.rest.now) (omega (arith, c.loop-step-test.true)) c.if-not-skip_comment.ensures.found in
    rw e at c.loop-step.invariant

pub returns : goal.returns
returns c =
    let e = pieces_done comment_at (length c.args.self.now.rest.now) c.loop-step._step c.loop-step.self.rest.now (omega (arith, c.loop-step-test.false)) in
    rw e at c.loop-step.invariant

pub returns-then-not-skip_comment : goal.returns-then-not-skip_comment
returns-then-not-skip_comment c =
    let e = pieces_stop comment_at (length c.args.self.now.rest.now - c.loop-step._step) c.loop-step.self.rest.now c.if-not-skip_comment.ensures.found in
    c.if-not-skip_comment.ensures.none ∙ (rw e at c.loop-step.invariant)
