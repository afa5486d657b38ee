use Rattle.h5_tables.proofs.NameLemmas.{flags_are_right}
use Rattle.h5_tables.proofs.name_sets.flags.Goals as goal

pub returns : goal.returns
returns c = λ set. flags_are_right set c.args.known
