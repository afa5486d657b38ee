use Rattle.std.proofs.Common.{◌≡◌, drop}
use Rattle.std.specs.Str.{str_to_ascii_lowercase}
use Rattle.h5_tables.specs.Doctypes.{begins_with_one}
use Rattle.h5_tables.specs.Tables.{texts}
use Rattle.h5_tables.proofs.doctypes.begins_with_one.Given as goal

-- the remaining prefixes give the result of all
abbrev pub invariant-loop-prefix : goal.invariant-loop-prefix
invariant-loop-prefix l = begins_with_one (texts l.prefixes) (str_to_ascii_lowercase l.text) ≡ begins_with_one (texts (drop l.prefix-index l.prefixes)) (str_to_ascii_lowercase l.text)
