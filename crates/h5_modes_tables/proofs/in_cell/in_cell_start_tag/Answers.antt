use Rattle.h5_builder_spec.specs.modes.InCell.{in_cell_start}
use Rattle.h5_builder_spec.specs.modes.Shared.{table_structure_names}
use Rattle.h5_names.specs.declared.known_name.KnownName.TheVariants.{Caption, Col, Colgroup, Tbody, Td, Tfoot, Th, Thead, Tr}
use Rattle.std.proofs.Common.{[], rules, ◌∷◌, refl}
use Rattle.h5_names.specs.KnownNames.{name_text}
use Rattle.h5_token.specs.TokenText.{tag_text}
use Rattle.h5_builder_spec.specs.ByName.{NonePasses}
use Rattle.h5_modes_head.proofs.DefaultLaws.{any_apart, default_of}
use Rattle.h5_modes_head.proofs.ArmLaws.{arm_of}
use Rattle.h5_modes_tables.proofs.in_cell.in_cell_start_tag.Goals as goal

pub returns-in_default : goal.returns-in_default
unfolding in_cell_start table_structure_names
returns-in_default g c =
    let known = c.known.result in
    let no = c.in_default in
    let none : NonePasses in_cell_start (name_text known) = (any_apart known (Caption ∷ Col ∷ Colgroup ∷ Tbody ∷ Td ∷ Tfoot ∷ Th ∷ Thead ∷ Tr ∷ []) (no.not-Caption, (no.not-Col, (no.not-Colgroup, (no.not-Tbody, (no.not-Td, (no.not-Tfoot, (no.not-Th, (no.not-Thead, (no.not-Tr, tt))))))))), tt) in
    rw (default_of in_cell_start _ (tag_text c.args.tag) known c.known.ensures none) (search rules)

pub returns-in-Caption : goal.returns-in-Caption
unfolding in_cell_start table_structure_names
returns-in-Caption g c = rw (arm_of in_cell_start _ (tag_text c.args.tag) c.known.result c.known.ensures Caption Caption (Col ∷ Colgroup ∷ Tbody ∷ Td ∷ Tfoot ∷ Th ∷ Thead ∷ Tr ∷ []) c.in-Caption.is ((λ other. refl), ((λ other. refl), ((λ other. refl), ((λ other. refl), ((λ other. refl), ((λ other. refl), ((λ other. refl), ((λ other. refl), ((λ other. refl), tt)))))))))) (search rules)
