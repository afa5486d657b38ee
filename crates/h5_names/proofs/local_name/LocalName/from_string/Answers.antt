use Rattle.std.proofs.Common.{◌∙◌, ap, refl, string_bytes}
use Rattle.h5_names.specs.KnownNames.{known_name_of}
use Rattle.h5_names.proofs.KnownNameLemmas.{text_of_name}
use Rattle.h5_names.proofs.local_name.LocalName.from_string.Goals as goal

pub returns-in_default : goal.returns-in_default
returns-in_default c = record {
  value =
      c.from_known.ensures
      ∙ text_of_name (string_bytes c.args.text) c.from_text.result
      (c.from_text.ensures ∙ ap known_name_of c.as_str.ensures.value) c.in_default.not-Other;
  free = λ h. refl;
}
