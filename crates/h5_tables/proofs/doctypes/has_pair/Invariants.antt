use Rattle.std.proofs.Common.{◌≡◌, drop}
use Rattle.h5_tables.specs.Doctypes.{has_pair}
use Rattle.h5_tables.specs.Tables.{pair_texts, part_text}
use Rattle.h5_tables.proofs.doctypes.has_pair.Given as goal

-- the remaining pairs give the result of all
abbrev pub invariant-loop-public : goal.invariant-loop-public
invariant-loop-public l = has_pair (pair_texts l.pairs) (part_text l.public_id) (part_text l.system_id) ≡ has_pair (pair_texts (drop l.public-index l.pairs)) (part_text l.public_id) (part_text l.system_id)
