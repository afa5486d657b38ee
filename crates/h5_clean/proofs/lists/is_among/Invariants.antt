use Rattle.std.proofs.Common.{◌≡◌, drop}
use Rattle.h5_tables.specs.TagSets.{is_one_of}
use Rattle.h5_clean.specs.Lists.{texts_of}
use Rattle.h5_clean.proofs.lists.is_among.Given as goal

-- the remaining names give the result of all
abbrev pub invariant-loop-other : goal.invariant-loop-other
invariant-loop-other l = is_one_of (texts_of (drop l.other-index l.names)) l.name ≡ is_one_of (texts_of l.names) l.name
