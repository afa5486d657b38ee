use Rattle.std.proofs.Common.{◌≡◌, ◌++◌, length}
use Rattle.h5_clean.specs.Policies.{link_prefixed}
use Rattle.h5_clean.proofs.attributes.link_prefixed.Given as goal

abbrev pub invariant-loop-rest : goal.invariant-loop-rest
invariant-loop-rest l = l.made.items ++ link_prefixed l.prefix l.rest ≡ link_prefixed l.prefix l.initial.rest

abbrev pub decreases-loop-rest : goal.decreases-loop-rest
decreases-loop-rest l = length l.rest
