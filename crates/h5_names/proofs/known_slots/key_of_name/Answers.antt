use Rattle.std.proofs.Common.{◌∙◌}
use Rattle.h5_names.proofs.ShortNameLemmas.{key_at_number}
use Rattle.h5_names.proofs.known_slots.key_of_name.Goals as goal

pub returns : goal.returns
returns c = c.nth_key.ensures ∙ key_at_number c.args.known
