use Rattle.h5_builder_spec.specs.modes.InTableBody.{in_table_body_end, in_table_body_ignored_ends}
use Rattle.h5_builder_spec.specs.modes.Tables.{table_section_names}
use Rattle.h5_names.specs.declared.known_name.KnownName.TheVariants.{Body, Caption, Col, Colgroup, Html, Table, Tbody, Td, Tfoot, Th, Thead, Tr}
use Rattle.std.proofs.Common.{[], rules, ◌∷◌, refl}
use Rattle.h5_names.specs.KnownNames.{name_text}
use Rattle.h5_token.specs.TokenText.{tag_text}
use Rattle.h5_builder_spec.specs.ByName.{NonePasses}
use Rattle.h5_modes_head.proofs.DefaultLaws.{any_apart, default_of, only_apart}
use Rattle.h5_modes_head.proofs.ArmLaws.{arm_of}
use Rattle.h5_modes_tables.proofs.in_table_body.in_table_body_end_tag.Goals as goal

pub returns-in_default : goal.returns-in_default
unfolding in_table_body_end table_section_names in_table_body_ignored_ends
returns-in_default g c =
    let known = c.known.result in
    let no = c.in_default in
    let none : NonePasses in_table_body_end (name_text known) = (any_apart known (Tbody ∷ Tfoot ∷ Thead ∷ []) (no.not-Tbody, (no.not-Tfoot, (no.not-Thead, tt))), (only_apart known Table no.not-Table, (any_apart known (Body ∷ Caption ∷ Col ∷ Colgroup ∷ Html ∷ Td ∷ Th ∷ Tr ∷ []) (no.not-Body, (no.not-Caption, (no.not-Col, (no.not-Colgroup, (no.not-Html, (no.not-Td, (no.not-Th, (no.not-Tr, tt)))))))), tt))) in
    rw (default_of in_table_body_end _ (tag_text c.args.tag) known c.known.ensures none) (search rules)

pub returns-in-Tbody : goal.returns-in-Tbody
unfolding in_table_body_end table_section_names in_table_body_ignored_ends
returns-in-Tbody g c = rw (arm_of in_table_body_end _ (tag_text c.args.tag) c.known.result c.known.ensures Tbody Tbody (Tfoot ∷ Thead ∷ []) c.in-Tbody.is ((λ other. refl), ((λ other. refl), ((λ other. refl), tt)))) (search rules)

pub returns-in-Body : goal.returns-in-Body
unfolding in_table_body_end table_section_names in_table_body_ignored_ends
returns-in-Body g c = rw (arm_of in_table_body_end _ (tag_text c.args.tag) c.known.result c.known.ensures Body Body (Caption ∷ Col ∷ Colgroup ∷ Html ∷ Td ∷ Th ∷ Tr ∷ []) c.in-Body.is ((λ other. refl), ((λ other. refl), ((λ other. refl), ((λ other. refl), ((λ other. refl), ((λ other. refl), ((λ other. refl), ((λ other. refl), tt))))))))) (search rules)
