use Rattle.std.proofs.Common.{◌≡◌, ◌-◌}
use Rattle.h5_selectors.specs.Tokens.{behind_comments, comment_at, pieces_within}
use Rattle.h5_selectors.proofs.scan.Scan.skip_comments.Given as goal

abbrev pub invariant-loop-step : goal.invariant-loop-step
invariant-loop-step l = (pieces_within comment_at (l._step-end - l._step) l.self.rest.now).rest ≡ behind_comments l.fn.self.rest.now
