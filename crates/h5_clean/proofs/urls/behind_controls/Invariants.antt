use Rattle.std.proofs.Common.{◌≡◌, length}
use Rattle.h5_clean.specs.Urls.{behind_controls}
use Rattle.h5_clean.proofs.urls.behind_controls.Given as goal

abbrev pub invariant-loop-url : goal.invariant-loop-url
invariant-loop-url l = behind_controls l.url ≡ behind_controls l.initial.url

abbrev pub decreases-loop-url : goal.decreases-loop-url
decreases-loop-url l = length l.url
