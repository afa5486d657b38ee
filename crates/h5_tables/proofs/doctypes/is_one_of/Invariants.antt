use Rattle.std.proofs.Common.{◌≡◌, drop}
use Rattle.std.specs.Str.{str_to_ascii_lowercase}
use Rattle.h5_tables.specs.Doctypes.{is_one_text}
use Rattle.h5_tables.specs.Tables.{texts}
use Rattle.h5_tables.proofs.doctypes.is_one_of.Given as goal

-- the remaining texts give the result of all
abbrev pub invariant-loop-id : goal.invariant-loop-id
invariant-loop-id l = is_one_text (texts l.known) (str_to_ascii_lowercase l.text) ≡ is_one_text (texts (drop l.id-index l.known)) (str_to_ascii_lowercase l.text)
