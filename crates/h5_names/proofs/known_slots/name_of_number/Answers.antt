use Rattle.std.proofs.Common.{◌≤◌, arith, rules, sym}
use Rattle.h5_names.specs.KnownNames.{known_names, nth_name}
use Rattle.h5_names.proofs.KnownNameLemmas.{past_the_names}
use Rattle.h5_names.proofs.known_slots.name_of_number.Goals as goal

pub returns-in-220-to-255 : goal.returns-in-220-to-255
returns-in-220-to-255 c = let le : 220 ≤ c.args.number = omega arith in sym (past_the_names c.args.number le)

pub returns-in-123 : goal.returns-in-123
unfolding nth_name known_names
returns-in-123 c = search rules
