use Rattle.h5_names.proofs.KnownNameLemmas.{known_of_text}
use Rattle.h5_names.proofs.local_name.LocalName.from_known.Goals as goal

pub invariant_of-result : goal.invariant_of-result
invariant_of-result c = record { by_number = known_of_text c.args.known }
