use Rattle.std.proofs.Common.{◌≡◌, true, refl, rules, [], ◌∷◌}
use Rattle.h5_names.specs.KnownNames.{known_name_of, known_names, name_text}
use Rattle.h5_names.specs.declared.known_name.KnownName.TheVariants.{A, Button, Form, Nobr, Plaintext, Table, Applet, Area, B, Big, Br, Code, Dd, Dt, Em, Embed, Font, I, Img, Keygen, Li, Listing, Marquee, Object, Pre, S, Small, Strike, Strong, Tt, U, Wbr}
use Rattle.h5_tables.specs.TagSets.{formatting_names, is_one_of}
use Rattle.h5_builder_spec.specs.ByName.{named, NonePasses}
use Rattle.h5_builder_spec.specs.modes.InBody.{description_names, in_body_marked, in_body_preformatted, in_body_start_inline, in_body_void, list_item_names}
use Rattle.h5_builder_spec.proofs.rows.KnownRuleLaws.{one_of_known}
use Rattle.h5_token.specs.TokenText.{tag_text}
use Rattle.h5_modes_head.proofs.DefaultLaws.{any_apart, default_of, only_apart}
use Rattle.h5_modes_head.proofs.ArmLaws.{among_of, arm_of}
use Rattle.h5_modes_body.proofs.in_body.in_body_start_inline.Goals as goal

pub in_body_start_a-requires-clause-name : goal.in_body_start_a-requires-clause-name
unfolding formatting_names known_name_of known_names
in_body_start_a-requires-clause-name g c =
    let named : is_one_of formatting_names (name_text c.known.result) ≡ true = among_of formatting_names c.known.result A ([]) c.in-A.is (refl, tt) in
    one_of_known formatting_names c.args.tag.name c.known.result refl c.known.ensures named

pub in_body_start_nobr-requires-clause-name : goal.in_body_start_nobr-requires-clause-name
unfolding formatting_names known_name_of known_names
in_body_start_nobr-requires-clause-name g c =
    let named : is_one_of formatting_names (name_text c.known.result) ≡ true = among_of formatting_names c.known.result Nobr ([]) c.in-Nobr.is (refl, tt) in
    one_of_known formatting_names c.args.tag.name c.known.result refl c.known.ensures named

pub in_body_start_formatting-requires-clause-name : goal.in_body_start_formatting-requires-clause-name
unfolding formatting_names known_name_of known_names
in_body_start_formatting-requires-clause-name g c =
    let named : is_one_of formatting_names (name_text c.known.result) ≡ true = among_of formatting_names c.known.result B (Big ∷ Code ∷ Em ∷ Font ∷ I ∷ S ∷ Small ∷ Strike ∷ Strong ∷ Tt ∷ U ∷ []) c.in-B.is (refl, (refl, (refl, (refl, (refl, (refl, (refl, (refl, (refl, (refl, (refl, (refl, tt)))))))))))) in
    one_of_known formatting_names c.args.tag.name c.known.result refl c.known.ensures named

pub returns-in_default : goal.returns-in_default
unfolding in_body_start_inline in_body_preformatted list_item_names description_names formatting_names in_body_marked in_body_void
returns-in_default g c =
    let known = c.known.result in
    let no = c.in_default in
    let none : NonePasses in_body_start_inline (name_text known) = (any_apart known (Pre ∷ Listing ∷ []) (no.not-Pre, (no.not-Listing, tt)), (only_apart known Form no.not-Form, (any_apart known (Li ∷ []) (no.not-Li, tt), (any_apart known (Dd ∷ Dt ∷ []) (no.not-Dd, (no.not-Dt, tt)), (only_apart known Plaintext no.not-Plaintext, (only_apart known Button no.not-Button, (only_apart known A no.not-A, (only_apart known Nobr no.not-Nobr, (any_apart known (A ∷ B ∷ Big ∷ Code ∷ Em ∷ Font ∷ I ∷ Nobr ∷ S ∷ Small ∷ Strike ∷ Strong ∷ Tt ∷ U ∷ []) (no.not-A, (no.not-B, (no.not-Big, (no.not-Code, (no.not-Em, (no.not-Font, (no.not-I, (no.not-Nobr, (no.not-S, (no.not-Small, (no.not-Strike, (no.not-Strong, (no.not-Tt, (no.not-U, tt)))))))))))))), (any_apart known (Applet ∷ Marquee ∷ Object ∷ []) (no.not-Applet, (no.not-Marquee, (no.not-Object, tt))), (only_apart known Table no.not-Table, (any_apart known (Area ∷ Br ∷ Embed ∷ Img ∷ Keygen ∷ Wbr ∷ []) (no.not-Area, (no.not-Br, (no.not-Embed, (no.not-Img, (no.not-Keygen, (no.not-Wbr, tt)))))), tt)))))))))))) in
    rw (default_of in_body_start_inline _ (tag_text c.args.tag) known c.known.ensures none) (search rules)

pub returns-in-B : goal.returns-in-B
unfolding in_body_start_inline in_body_preformatted list_item_names description_names formatting_names in_body_marked in_body_void
returns-in-B g c = rw (arm_of in_body_start_inline _ (tag_text c.args.tag) c.known.result c.known.ensures B B (Big ∷ Code ∷ Em ∷ Font ∷ I ∷ S ∷ Small ∷ Strike ∷ Strong ∷ Tt ∷ U ∷ []) c.in-B.is ((λ other. refl), ((λ other. refl), ((λ other. refl), ((λ other. refl), ((λ other. refl), ((λ other. refl), ((λ other. refl), ((λ other. refl), ((λ other. refl), ((λ other. refl), ((λ other. refl), ((λ other. refl), tt))))))))))))) (search rules)

pub returns-in-Applet : goal.returns-in-Applet
unfolding in_body_start_inline in_body_preformatted list_item_names description_names formatting_names in_body_marked in_body_void
returns-in-Applet g c = rw (arm_of in_body_start_inline _ (tag_text c.args.tag) c.known.result c.known.ensures Applet Applet (Marquee ∷ Object ∷ []) c.in-Applet.is ((λ other. refl), ((λ other. refl), ((λ other. refl), tt)))) (search rules)

pub returns-in-Area : goal.returns-in-Area
unfolding in_body_start_inline in_body_preformatted list_item_names description_names formatting_names in_body_marked in_body_void
returns-in-Area g c = rw (arm_of in_body_start_inline _ (tag_text c.args.tag) c.known.result c.known.ensures Area Area (Br ∷ Embed ∷ Img ∷ Keygen ∷ Wbr ∷ []) c.in-Area.is ((λ other. refl), ((λ other. refl), ((λ other. refl), ((λ other. refl), ((λ other. refl), ((λ other. refl), tt))))))) (search rules)
