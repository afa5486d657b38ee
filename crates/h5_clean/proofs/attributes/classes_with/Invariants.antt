use Rattle.std.proofs.Common.{◌≡◌, [], length, map, string_bytes}
use Rattle.h5_clean.specs.Policies.{parts_of, with_classes}
use Rattle.h5_clean.proofs.attributes.classes_with.Given as goal

abbrev pub invariant-loop-rest : goal.invariant-loop-rest
invariant-loop-rest l = with_classes (map string_bytes l.prefixes) l.made.items (parts_of l.class.items l.rest) ≡ with_classes (map string_bytes l.prefixes) [] (parts_of [] l.initial.rest)

abbrev pub decreases-loop-rest : goal.decreases-loop-rest
decreases-loop-rest l = length l.rest
