use Rattle.std.proofs.Common.{rules}
use Rattle.h5_builder_spec.specs.modes.InHeadNoscript.{in_head_noscript_end}
use Rattle.h5_names.specs.declared.known_name.KnownName.TheVariants.{Br, Noscript}
use Rattle.h5_names.specs.KnownNames.{name_text}
use Rattle.h5_token.specs.TokenText.{tag_text}
use Rattle.h5_builder_spec.specs.ByName.{NonePasses}
use Rattle.h5_modes_head.proofs.DefaultLaws.{default_of, only_apart}
use Rattle.h5_modes_head.proofs.in_head_noscript.in_head_noscript_end_tag.Goals as goal

pub returns-in_default : goal.returns-in_default
unfolding in_head_noscript_end
returns-in_default g c =
    let known = c.known.result in
    let no = c.in_default in
    let none : NonePasses in_head_noscript_end (name_text known) = (only_apart known Noscript no.not-Noscript, (only_apart known Br no.not-Br, tt)) in
    rw (default_of in_head_noscript_end _ (tag_text c.args.tag) known c.known.ensures none) (search rules)
