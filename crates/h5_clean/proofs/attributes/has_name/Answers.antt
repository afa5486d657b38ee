use Rattle.std.proofs.Common.{sym, ◌∙◌}
use Rattle.h5_names.specs.AttributeText.{is_same_name}
use Rattle.h5_interface.proofs.ElementLemmas.{any_of_texts}
use Rattle.h5_clean.specs.Policies.{bare}
use Rattle.h5_clean.proofs.attributes.has_name.Goals as goal

pub returns : goal.returns
returns c = c.any_is_bare.ensures ∙ sym (any_of_texts (λ a. is_same_name a.name (bare c.args.local.now)) c.args.attrs.now)
