use Rattle.std.proofs.Common.{◌∙◌}
use Rattle.h5_names.proofs.KnownTextLemmas.{text_at_number}
use Rattle.h5_names.proofs.known_name.KnownName.as_str.Goals as goal

pub returns : goal.returns
returns c = c.nth_text.ensures ∙ text_at_number c.args.self
