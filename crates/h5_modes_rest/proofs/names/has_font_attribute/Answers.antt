use Rattle.std.proofs.Common.{sym, ◌∙◌}
use Rattle.h5_interface.proofs.ElementLemmas.{any_of_texts}
use Rattle.h5_builder_spec.specs.modes.ForeignContent.{is_font_attribute}
use Rattle.h5_modes_rest.proofs.names.has_font_attribute.Goals as goal

pub returns : goal.returns
returns c = c.any_is_font_attribute.ensures ∙ sym (any_of_texts is_font_attribute c.args.attrs.now)
