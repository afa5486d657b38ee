use Rattle.std.proofs.Common.{◌≡◌, is_some, length}
use Rattle.h5_clean.specs.Urls.{scheme_of_visible}
use Rattle.h5_clean.proofs.urls.has_scheme.Given as goal

abbrev pub invariant-loop-url : goal.invariant-loop-url
invariant-loop-url l = is_some (scheme_of_visible l.url) ≡ is_some (scheme_of_visible l.initial.url)

abbrev pub decreases-loop-url : goal.decreases-loop-url
decreases-loop-url l = length l.url
