use Rattle.std.proofs.Common.{◌≡◌, ◌++◌, length, true}
use Rattle.h5_clean.specs.Policies.{words_prefixed}
use Rattle.h5_clean.proofs.attributes.words_prefixed.Given as goal

abbrev pub invariant-loop-rest : goal.invariant-loop-rest
invariant-loop-rest l = l.made.items ++ words_prefixed l.prefix l.begins l.rest ≡ words_prefixed l.prefix true l.initial.rest

abbrev pub decreases-loop-rest : goal.decreases-loop-rest
decreases-loop-rest l = length l.rest
