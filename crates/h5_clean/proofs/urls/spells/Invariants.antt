use Rattle.std.proofs.Common.{◌≡◌, length}
use Rattle.h5_clean.proofs.SchemeLaws.{spells}
use Rattle.h5_clean.proofs.urls.spells.Given as goal

abbrev pub invariant-loop-url : goal.invariant-loop-url
invariant-loop-url l = spells l.name l.url ≡ spells l.initial.name l.initial.url

abbrev pub decreases-loop-url : goal.decreases-loop-url
decreases-loop-url l = length l.url
