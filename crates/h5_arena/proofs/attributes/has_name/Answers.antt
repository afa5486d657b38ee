use Rattle.std.proofs.Common.{◌∙◌, ap}
use Rattle.std.specs.Option.{option_copied}
use Rattle.h5_names.specs.AttributeText.{is_same_name}
use Rattle.h5_interface.proofs.ElementLemmas.{any_of_texts}
use Rattle.h5_arena.proofs.attributes.has_name.Goals as goal

pub returns-in-Some : goal.returns-in-Some
returns-in-Some c =
    c.contains.ensures ∙ c.requires c.in-Some.names.now (ap option_copied c.in-Some.is) c.args.name.now ∙ any_of_texts (λ a. is_same_name a.name c.args.name.now) c.args.attrs.now
