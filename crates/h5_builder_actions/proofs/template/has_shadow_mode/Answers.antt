use Rattle.std.proofs.Common.{sym, ◌∙◌}
use Rattle.h5_interface.proofs.ElementLemmas.{any_of_texts}
use Rattle.h5_builder_spec.specs.insertion.Templates.{is_shadow_mode}
use Rattle.h5_builder_actions.proofs.template.has_shadow_mode.Goals as goal

pub returns : goal.returns
returns c = c.any_is_shadow_mode.ensures ∙ sym (any_of_texts is_shadow_mode c.args.attrs.now)
