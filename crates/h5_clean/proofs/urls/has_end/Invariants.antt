use Rattle.std.proofs.Common.{◌≡◌, length}
use Rattle.h5_clean.proofs.SchemeLaws.{has_end}
use Rattle.h5_clean.proofs.urls.has_end.Given as goal

abbrev pub invariant-loop-url : goal.invariant-loop-url
invariant-loop-url l = has_end l.url ≡ has_end l.initial.url

abbrev pub decreases-loop-url : goal.decreases-loop-url
decreases-loop-url l = length l.url
