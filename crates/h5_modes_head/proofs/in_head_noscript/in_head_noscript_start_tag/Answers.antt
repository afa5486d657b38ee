use Rattle.std.proofs.Common.{rules, [], ◌∷◌}
use Rattle.h5_builder_spec.specs.modes.InHeadNoscript.{in_head_noscript_ignored, in_head_noscript_start, noscript_content_names}
use Rattle.h5_names.specs.declared.known_name.KnownName.TheVariants.{Basefont, Bgsound, Head, Html, Link, Meta, Noframes, Noscript, Style}
use Rattle.h5_names.specs.KnownNames.{name_text}
use Rattle.h5_token.specs.TokenText.{tag_text}
use Rattle.h5_builder_spec.specs.ByName.{NonePasses}
use Rattle.h5_modes_head.proofs.DefaultLaws.{any_apart, default_of, only_apart}
use Rattle.h5_modes_head.proofs.in_head_noscript.in_head_noscript_start_tag.Goals as goal

pub returns-in_default : goal.returns-in_default
unfolding in_head_noscript_start noscript_content_names in_head_noscript_ignored
returns-in_default g c =
    let known = c.known.result in
    let no = c.in_default in
    let none : NonePasses in_head_noscript_start (name_text known) = (only_apart known Html no.not-Html, (any_apart known (Basefont ∷ Bgsound ∷ Link ∷ Meta ∷ Noframes ∷ Style ∷ []) (no.not-Basefont, (no.not-Bgsound, (no.not-Link, (no.not-Meta, (no.not-Noframes, (no.not-Style, tt)))))), (any_apart known (Head ∷ Noscript ∷ []) (no.not-Head, (no.not-Noscript, tt)), tt))) in
    rw (default_of in_head_noscript_start _ (tag_text c.args.tag) known c.known.ensures none) (search rules)
