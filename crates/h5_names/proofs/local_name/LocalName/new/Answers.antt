use Rattle.std.proofs.Common.{◌∙◌, refl}
use Rattle.h5_names.proofs.KnownNameLemmas.{text_of_name}
use Rattle.h5_names.proofs.local_name.LocalName.new.Goals as goal

pub returns-in_default : goal.returns-in_default
returns-in_default c = record {
  value =
      c.from_known.ensures
      ∙ text_of_name c.args.text.now c.from_text.result c.from_text.ensures c.in_default.not-Other;
  free = λ h. refl;
}
