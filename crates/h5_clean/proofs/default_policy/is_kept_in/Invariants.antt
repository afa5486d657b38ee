use Rattle.std.proofs.Common.{◌≡◌, drop}
use Rattle.h5_clean.specs.DefaultPolicy.{keeps_by}
use Rattle.h5_clean.specs.Lists.{keepings_of}
use Rattle.h5_clean.proofs.default_policy.is_kept_in.Given as goal

-- the remaining lists give the result of all
abbrev pub invariant-loop-name : goal.invariant-loop-name
invariant-loop-name l = keeps_by (keepings_of (drop l.name-index l.lists)) l.element l.attribute ≡ keeps_by (keepings_of l.lists) l.element l.attribute
