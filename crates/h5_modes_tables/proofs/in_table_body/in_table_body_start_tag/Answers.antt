use Rattle.h5_builder_spec.specs.modes.InTableBody.{in_table_body_start, section_closing_names}
use Rattle.h5_tables.specs.TagSets.{cell_names}
use Rattle.h5_names.specs.declared.known_name.KnownName.TheVariants.{Caption, Col, Colgroup, Tbody, Td, Tfoot, Th, Thead, Tr}
use Rattle.std.proofs.Common.{[], rules, ◌∷◌, refl}
use Rattle.h5_names.specs.KnownNames.{name_text}
use Rattle.h5_token.specs.TokenText.{tag_text}
use Rattle.h5_builder_spec.specs.ByName.{NonePasses}
use Rattle.h5_modes_head.proofs.DefaultLaws.{any_apart, default_of, only_apart}
use Rattle.h5_modes_head.proofs.ArmLaws.{arm_of}
use Rattle.h5_modes_tables.proofs.in_table_body.in_table_body_start_tag.Goals as goal

pub returns-in_default : goal.returns-in_default
unfolding in_table_body_start cell_names section_closing_names
returns-in_default g c =
    let known = c.known.result in
    let no = c.in_default in
    let none : NonePasses in_table_body_start (name_text known) = (only_apart known Tr no.not-Tr, (any_apart known (Td ∷ Th ∷ []) (no.not-Td, (no.not-Th, tt)), (any_apart known (Caption ∷ Col ∷ Colgroup ∷ Tbody ∷ Tfoot ∷ Thead ∷ []) (no.not-Caption, (no.not-Col, (no.not-Colgroup, (no.not-Tbody, (no.not-Tfoot, (no.not-Thead, tt)))))), tt))) in
    rw (default_of in_table_body_start _ (tag_text c.args.tag) known c.known.ensures none) (search rules)

pub returns-in-Caption : goal.returns-in-Caption
unfolding in_table_body_start cell_names section_closing_names
returns-in-Caption g c = rw (arm_of in_table_body_start _ (tag_text c.args.tag) c.known.result c.known.ensures Caption Caption (Col ∷ Colgroup ∷ Tbody ∷ Tfoot ∷ Thead ∷ []) c.in-Caption.is ((λ other. refl), ((λ other. refl), ((λ other. refl), ((λ other. refl), ((λ other. refl), ((λ other. refl), tt))))))) (search rules)
