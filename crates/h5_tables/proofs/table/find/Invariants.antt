use Rattle.std.proofs.Common.{◌≡◌, drop}
use Rattle.h5_tables.specs.AdjustedNames.{found_at}
use Rattle.h5_tables.specs.Tables.{by_text}
use Rattle.h5_tables.proofs.table.find.Given as goal

-- the remaining rows give the result of all
abbrev pub invariant-loop-key : goal.invariant-loop-key
invariant-loop-key g l = found_at (by_text (drop l.key-index l.table)) l.name ≡ found_at (by_text l.table) l.name
