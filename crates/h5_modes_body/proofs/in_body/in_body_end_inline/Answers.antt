use Rattle.std.proofs.Common.{◌≡◌, true, refl, rules, [], ◌∷◌}
use Rattle.h5_names.specs.KnownNames.{known_name_of, known_names, name_text}
use Rattle.h5_tables.specs.TagSets.{formatting_names, heading_names, is_one_of}
use Rattle.h5_builder_spec.specs.modes.InBody.{in_body_marked, description_names, in_body_end_inline, list_item_names}
use Rattle.h5_builder_spec.proofs.rows.KnownRuleLaws.{one_of_known}
use Rattle.h5_names.specs.declared.known_name.KnownName.TheVariants.{A, Applet, B, Big, Br, Code, Dd, Dt, Em, Font, H1, H2, H3, H4, H5, H6, I, Li, Marquee, Nobr, Object, P, S, Small, Strike, Strong, Template, Tt, U}
use Rattle.h5_token.specs.TokenText.{tag_text}
use Rattle.h5_builder_spec.specs.ByName.{NonePasses}
use Rattle.h5_modes_head.proofs.DefaultLaws.{any_apart, default_of, only_apart}
use Rattle.h5_modes_head.proofs.ArmLaws.{among_of, arm_of}
use Rattle.h5_modes_body.proofs.in_body.in_body_end_inline.Goals as goal

pub in_body_end_heading-requires-clause-name : goal.in_body_end_heading-requires-clause-name
unfolding heading_names known_name_of known_names
in_body_end_heading-requires-clause-name g c =
    let named : is_one_of heading_names (name_text c.known.result) ≡ true = among_of heading_names c.known.result H1 (H2 ∷ H3 ∷ H4 ∷ H5 ∷ H6 ∷ []) c.in-H1.is (refl, (refl, (refl, (refl, (refl, (refl, tt)))))) in
    one_of_known heading_names c.args.tag.name c.known.result refl c.known.ensures named

pub in_body_end_formatting-requires-clause-name : goal.in_body_end_formatting-requires-clause-name
unfolding formatting_names known_name_of known_names
in_body_end_formatting-requires-clause-name g c =
    let named : is_one_of formatting_names (name_text c.known.result) ≡ true = among_of formatting_names c.known.result A (B ∷ Big ∷ Code ∷ Em ∷ Font ∷ I ∷ Nobr ∷ S ∷ Small ∷ Strike ∷ Strong ∷ Tt ∷ U ∷ []) c.in-A.is (refl, (refl, (refl, (refl, (refl, (refl, (refl, (refl, (refl, (refl, (refl, (refl, (refl, (refl, tt)))))))))))))) in
    one_of_known formatting_names c.args.tag.name c.known.result refl c.known.ensures named

pub in_body_end_marked-requires-clause-name : goal.in_body_end_marked-requires-clause-name
unfolding in_body_marked known_name_of known_names
in_body_end_marked-requires-clause-name g c =
    let named : is_one_of in_body_marked (name_text c.known.result) ≡ true = among_of in_body_marked c.known.result Applet (Marquee ∷ Object ∷ []) c.in-Applet.is (refl, (refl, (refl, tt))) in
    one_of_known in_body_marked c.args.tag.name c.known.result refl c.known.ensures named

pub returns-in_default : goal.returns-in_default
unfolding in_body_end_inline list_item_names description_names heading_names formatting_names in_body_marked
returns-in_default g c =
    let known = c.known.result in
    let no = c.in_default in
    let none : NonePasses in_body_end_inline (name_text known) = (only_apart known P no.not-P, (any_apart known (Li ∷ []) (no.not-Li, tt), (any_apart known (Dd ∷ Dt ∷ []) (no.not-Dd, (no.not-Dt, tt)), (any_apart known (H1 ∷ H2 ∷ H3 ∷ H4 ∷ H5 ∷ H6 ∷ []) (no.not-H1, (no.not-H2, (no.not-H3, (no.not-H4, (no.not-H5, (no.not-H6, tt)))))), (any_apart known (A ∷ B ∷ Big ∷ Code ∷ Em ∷ Font ∷ I ∷ Nobr ∷ S ∷ Small ∷ Strike ∷ Strong ∷ Tt ∷ U ∷ []) (no.not-A, (no.not-B, (no.not-Big, (no.not-Code, (no.not-Em, (no.not-Font, (no.not-I, (no.not-Nobr, (no.not-S, (no.not-Small, (no.not-Strike, (no.not-Strong, (no.not-Tt, (no.not-U, tt)))))))))))))), (any_apart known (Applet ∷ Marquee ∷ Object ∷ []) (no.not-Applet, (no.not-Marquee, (no.not-Object, tt))), (only_apart known Br no.not-Br, (only_apart known Template no.not-Template, tt)))))))) in
    rw (default_of in_body_end_inline _ (tag_text c.args.tag) known c.known.ensures none) (search rules)

pub returns-in-H1 : goal.returns-in-H1
unfolding in_body_end_inline list_item_names description_names heading_names formatting_names in_body_marked
returns-in-H1 g c = rw (arm_of in_body_end_inline _ (tag_text c.args.tag) c.known.result c.known.ensures H1 H1 (H2 ∷ H3 ∷ H4 ∷ H5 ∷ H6 ∷ []) c.in-H1.is ((λ other. refl), ((λ other. refl), ((λ other. refl), ((λ other. refl), ((λ other. refl), ((λ other. refl), tt))))))) (search rules)

pub returns-in-A : goal.returns-in-A
unfolding in_body_end_inline list_item_names description_names heading_names formatting_names in_body_marked
returns-in-A g c = rw (arm_of in_body_end_inline _ (tag_text c.args.tag) c.known.result c.known.ensures A A (B ∷ Big ∷ Code ∷ Em ∷ Font ∷ I ∷ Nobr ∷ S ∷ Small ∷ Strike ∷ Strong ∷ Tt ∷ U ∷ []) c.in-A.is ((λ other. refl), ((λ other. refl), ((λ other. refl), ((λ other. refl), ((λ other. refl), ((λ other. refl), ((λ other. refl), ((λ other. refl), ((λ other. refl), ((λ other. refl), ((λ other. refl), ((λ other. refl), ((λ other. refl), ((λ other. refl), tt))))))))))))))) (search rules)

pub returns-in-Applet : goal.returns-in-Applet
unfolding in_body_end_inline list_item_names description_names heading_names formatting_names in_body_marked
returns-in-Applet g c = rw (arm_of in_body_end_inline _ (tag_text c.args.tag) c.known.result c.known.ensures Applet Applet (Marquee ∷ Object ∷ []) c.in-Applet.is ((λ other. refl), ((λ other. refl), ((λ other. refl), tt)))) (search rules)
