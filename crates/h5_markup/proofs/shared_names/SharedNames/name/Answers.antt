use Rattle.std.proofs.Common.{◌∙◌, ap, map, sym}
use Rattle.std.specs.Char.{to_ascii_lowercase}
use Rattle.h5_names.proofs.KnownNameLemmas.{text_of_name}
use Rattle.h5_markup.specs.Text.{name_of}
use Rattle.h5_markup.proofs.NameLaws.{name_stands}
use Rattle.h5_markup.proofs.shared_names.SharedNames.name.Goals as goal

pub returns-in_default : goal.returns-in_default
returns-in_default c =
    let stands = ap (map to_ascii_lowercase) (name_stands c.from_text.result) in
    let e = text_of_name c.args.text.now c.from_text.result c.from_text.ensures c.in_default.not-Other in
    c.from_known.ensures ∙ (c.to_ascii_lowercase.ensures ∙ (sym stands ∙ ap name_of e))
