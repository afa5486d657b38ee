use Rattle.std.proofs.Common.{rules, [], ◌∷◌}
use Rattle.h5_builder_spec.specs.modes.InHead.{in_head_links, in_head_raw, in_head_start}
use Rattle.h5_names.specs.declared.known_name.KnownName.TheVariants.{Base, Basefont, Bgsound, Head, Html, Link, Meta, Noframes, Noscript, Script, Style, Template, Title}
use Rattle.h5_names.specs.KnownNames.{name_text}
use Rattle.h5_token.specs.TokenText.{tag_text}
use Rattle.h5_builder_spec.specs.ByName.{NonePasses}
use Rattle.h5_modes_head.proofs.DefaultLaws.{any_apart, default_of, only_apart}
use Rattle.h5_modes_head.proofs.in_head_start_tags.in_head_start_by_name.Goals as goal

pub returns-in_default : goal.returns-in_default
unfolding in_head_start in_head_links in_head_raw
returns-in_default g c =
    let known = c.known.result in
    let no = c.in_default in
    let none : NonePasses in_head_start (name_text known) = (only_apart known Html no.not-Html, (any_apart known (Base ∷ Basefont ∷ Bgsound ∷ Link ∷ []) (no.not-Base, (no.not-Basefont, (no.not-Bgsound, (no.not-Link, tt)))), (only_apart known Meta no.not-Meta, (only_apart known Title no.not-Title, (any_apart known (Noframes ∷ Style ∷ []) (no.not-Noframes, (no.not-Style, tt)), (only_apart known Noscript no.not-Noscript, (only_apart known Script no.not-Script, (only_apart known Template no.not-Template, (only_apart known Head no.not-Head, tt))))))))) in
    rw (default_of in_head_start _ (tag_text c.args.tag) known c.known.ensures none) (search rules)
