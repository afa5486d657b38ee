use Rattle.std.proofs.Common.{◌≡◌, drop}
use Rattle.h5_selectors.specs.Tokens.{behind_comment}
use Rattle.h5_selectors.proofs.scan.behind_comment.Given as goal

abbrev pub invariant-loop-at : goal.invariant-loop-at
invariant-loop-at l = behind_comment (drop l.at l.within) ≡ behind_comment l.within
