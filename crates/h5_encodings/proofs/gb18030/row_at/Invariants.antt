use Rattle.std.proofs.Common.{◌≡◌, drop}
use Rattle.h5_encodings.specs.Gb18030.{row_at}
use Rattle.h5_encodings.proofs.gb18030.row_at.Given as goal

-- the remaining rows have the result of all rows
abbrev pub invariant-loop-row : goal.invariant-loop-row
invariant-loop-row l = row_at l.found (drop l.row-index l.rows) l.pointer ≡ row_at (0, 0) l.rows l.pointer
