use Rattle.std.proofs.Common.{◌≡◌, drop}
use Rattle.h5_encodings.specs.Labels.{labelled_in, rows_of}
use Rattle.h5_encodings.proofs.label.labelled_in.Given as goal

-- the remaining rows have the result of all rows
abbrev pub invariant-loop-label : goal.invariant-loop-label
invariant-loop-label l = labelled_in (rows_of (drop l.label-index l.table)) l.text ≡ labelled_in (rows_of l.table) l.text
