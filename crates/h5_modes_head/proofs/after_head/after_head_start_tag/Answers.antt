use Rattle.std.proofs.Common.{◌≡◌, true, refl, rules, [], ◌∷◌}
use Rattle.h5_names.specs.KnownNames.{known_name_of, known_names, name_text}
use Rattle.h5_tables.specs.TagSets.{is_one_of}
use Rattle.h5_builder_spec.specs.modes.Shared.{head_start_names}
use Rattle.h5_builder_spec.proofs.rows.KnownRuleLaws.{one_of_known}
use Rattle.h5_builder_spec.specs.modes.AfterHead.{after_head_start}
use Rattle.h5_names.specs.declared.known_name.KnownName.TheVariants.{Base, Basefont, Bgsound, Body, Frameset, Head, Html, Link, Meta, Noframes, Script, Style, Template, Title}
use Rattle.h5_token.specs.TokenText.{tag_text}
use Rattle.h5_builder_spec.specs.ByName.{NonePasses}
use Rattle.h5_modes_head.proofs.ArmLaws.{among_of}
use Rattle.h5_modes_head.proofs.DefaultLaws.{any_apart, default_of, only_apart}
use Rattle.h5_modes_head.proofs.after_head.after_head_start_tag.Goals as goal

pub with_head-requires-clause-name : goal.with_head-requires-clause-name
unfolding head_start_names known_name_of known_names
with_head-requires-clause-name g c =
    let named : is_one_of head_start_names (name_text c.known.result) ≡ true = among_of head_start_names c.known.result Base (Basefont ∷ Bgsound ∷ Link ∷ Meta ∷ Noframes ∷ Script ∷ Style ∷ Template ∷ Title ∷ []) c.in-Base.is (refl, (refl, (refl, (refl, (refl, (refl, (refl, (refl, (refl, (refl, tt)))))))))) in
    one_of_known head_start_names c.args.tag.name c.known.result refl c.known.ensures named

pub returns-in_default : goal.returns-in_default
unfolding after_head_start head_start_names
returns-in_default g c =
    let known = c.known.result in
    let no = c.in_default in
    let none : NonePasses after_head_start (name_text known) = (only_apart known Html no.not-Html, (only_apart known Body no.not-Body, (only_apart known Frameset no.not-Frameset, (any_apart known (Base ∷ Basefont ∷ Bgsound ∷ Link ∷ Meta ∷ Noframes ∷ Script ∷ Style ∷ Template ∷ Title ∷ []) (no.not-Base, (no.not-Basefont, (no.not-Bgsound, (no.not-Link, (no.not-Meta, (no.not-Noframes, (no.not-Script, (no.not-Style, (no.not-Template, (no.not-Title, tt)))))))))), (only_apart known Head no.not-Head, tt))))) in
    rw (default_of after_head_start _ (tag_text c.args.tag) known c.known.ensures none) (search rules)
