use Rattle.h5_builder_spec.specs.modes.InTemplate.{in_template_end}
use Rattle.h5_names.specs.declared.known_name.KnownName.TheVariants.{Template}
use Rattle.std.proofs.Common.{rules}
use Rattle.h5_names.specs.KnownNames.{name_text}
use Rattle.h5_token.specs.TokenText.{tag_text}
use Rattle.h5_builder_spec.specs.ByName.{NonePasses}
use Rattle.h5_modes_head.proofs.DefaultLaws.{default_of, only_apart}
use Rattle.h5_modes_rest.proofs.in_template.in_template_end_tag.Goals as goal

pub returns-in_default : goal.returns-in_default
unfolding in_template_end
returns-in_default g c =
    let known = c.known.result in
    let no = c.in_default in
    let none : NonePasses in_template_end (name_text known) = (only_apart known Template no.not-Template, tt) in
    rw (default_of in_template_end _ (tag_text c.args.tag) known c.known.ensures none) (search rules)
