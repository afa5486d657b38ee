use Rattle.std.proofs.Common.{◌∙◌, ap}
use Rattle.h5_names.specs.KnownNames.{name_text}
use Rattle.h5_names.proofs.KnownCaseLemmas.{lower_text}
use Rattle.h5_names.proofs.known_name.KnownName.to_ascii_lowercase.Goals as goal

pub returns : goal.returns
returns c = ap name_text c.in_lower_case.ensures ∙ lower_text c.args.self
