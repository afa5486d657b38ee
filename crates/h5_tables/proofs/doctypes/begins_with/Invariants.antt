use Rattle.std.proofs.Common.{◌≡◌, ◌≤◌, length, drop}
use Rattle.std.specs.Str.{str_to_ascii_lowercase}
use Rattle.h5_tables.specs.Doctypes.{begins_with}
use Rattle.h5_tables.proofs.doctypes.begins_with.Given as goal

-- the remaining bytes decide it
abbrev pub invariant-loop-i : goal.invariant-loop-i
invariant-loop-i l = record {
  within : l.i ≤ length l.text;
  same : begins_with (str_to_ascii_lowercase l.text) l.prefix ≡ begins_with (str_to_ascii_lowercase (drop l.i l.text)) (drop l.i l.prefix);
}
