use Rattle.h5_builder_spec.proofs.modes.ReadyLaws.{ready_open}
use Rattle.h5_builder_state.specs.Steps.{world_of}
use Rattle.h5_builder_spec.specs.modes.InTable.{in_table_start, row_part_names, table_text_names}
use Rattle.h5_builder_spec.specs.modes.Tables.{table_section_names}
use Rattle.h5_names.specs.declared.known_name.KnownName.TheVariants.{Caption, Col, Colgroup, Form, Input, Script, Style, Table, Tbody, Td, Template, Tfoot, Th, Thead, Tr}
use Rattle.std.proofs.Common.{[], rules, ◌∷◌, refl}
use Rattle.h5_names.specs.KnownNames.{name_text}
use Rattle.h5_token.specs.TokenText.{tag_text}
use Rattle.h5_builder_spec.specs.ByName.{NonePasses}
use Rattle.h5_modes_head.proofs.DefaultLaws.{any_apart, default_of, only_apart}
use Rattle.h5_modes_head.proofs.ArmLaws.{arm_of}
use Rattle.h5_modes_tables.proofs.in_table.in_table_start_tag.Goals as goal

pub in_head_start_tag-requires : goal.in_head_start_tag-requires
in_head_start_tag-requires g c = record {
  sound = c.requires.sound;
  some = ready_open (world_of g.S.TreeSink c.args.sink.now c.args.state.now) c.requires.ready;
}

pub returns-in_default : goal.returns-in_default
unfolding in_table_start table_section_names row_part_names table_text_names
returns-in_default g c =
    let known = c.known.result in
    let no = c.in_default in
    let none : NonePasses in_table_start (name_text known) = (only_apart known Caption no.not-Caption, (only_apart known Colgroup no.not-Colgroup, (only_apart known Col no.not-Col, (any_apart known (Tbody ∷ Tfoot ∷ Thead ∷ []) (no.not-Tbody, (no.not-Tfoot, (no.not-Thead, tt))), (any_apart known (Td ∷ Th ∷ Tr ∷ []) (no.not-Td, (no.not-Th, (no.not-Tr, tt))), (only_apart known Table no.not-Table, (any_apart known (Style ∷ Script ∷ Template ∷ []) (no.not-Style, (no.not-Script, (no.not-Template, tt))), (only_apart known Input no.not-Input, (only_apart known Form no.not-Form, tt))))))))) in
    rw (default_of in_table_start _ (tag_text c.args.tag) known c.known.ensures none) (search rules)

pub returns-in-Tbody : goal.returns-in-Tbody
unfolding in_table_start table_section_names row_part_names table_text_names
returns-in-Tbody g c = rw (arm_of in_table_start _ (tag_text c.args.tag) c.known.result c.known.ensures Tbody Tbody (Tfoot ∷ Thead ∷ []) c.in-Tbody.is ((λ other. refl), ((λ other. refl), ((λ other. refl), tt)))) (search rules)

pub returns-in-Td : goal.returns-in-Td
unfolding in_table_start table_section_names row_part_names table_text_names
returns-in-Td g c = rw (arm_of in_table_start _ (tag_text c.args.tag) c.known.result c.known.ensures Td Td (Th ∷ Tr ∷ []) c.in-Td.is ((λ other. refl), ((λ other. refl), ((λ other. refl), tt)))) (search rules)

pub returns-in-Style : goal.returns-in-Style
unfolding in_table_start table_section_names row_part_names table_text_names
returns-in-Style g c = rw (arm_of in_table_start _ (tag_text c.args.tag) c.known.result c.known.ensures Style Style (Script ∷ Template ∷ []) c.in-Style.is ((λ other. refl), ((λ other. refl), ((λ other. refl), tt)))) (search rules)
