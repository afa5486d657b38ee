use Rattle.h5_builder_spec.specs.modes.InTable.{in_table_end, in_table_ignored_ends}
use Rattle.h5_names.specs.declared.known_name.KnownName.TheVariants.{Body, Caption, Col, Colgroup, Html, Table, Tbody, Td, Template, Tfoot, Th, Thead, Tr}
use Rattle.std.proofs.Common.{[], rules, ◌∷◌, refl}
use Rattle.h5_names.specs.KnownNames.{name_text}
use Rattle.h5_token.specs.TokenText.{tag_text}
use Rattle.h5_builder_spec.specs.ByName.{NonePasses}
use Rattle.h5_modes_head.proofs.DefaultLaws.{any_apart, default_of, only_apart}
use Rattle.h5_modes_head.proofs.ArmLaws.{arm_of}
use Rattle.h5_modes_tables.proofs.in_table.in_table_end_tag.Goals as goal

pub returns-in_default : goal.returns-in_default
unfolding in_table_end in_table_ignored_ends
returns-in_default g c =
    let known = c.known.result in
    let no = c.in_default in
    let none : NonePasses in_table_end (name_text known) = (only_apart known Table no.not-Table, (any_apart known (Body ∷ Caption ∷ Col ∷ Colgroup ∷ Html ∷ Tbody ∷ Td ∷ Tfoot ∷ Th ∷ Thead ∷ Tr ∷ []) (no.not-Body, (no.not-Caption, (no.not-Col, (no.not-Colgroup, (no.not-Html, (no.not-Tbody, (no.not-Td, (no.not-Tfoot, (no.not-Th, (no.not-Thead, (no.not-Tr, tt))))))))))), (only_apart known Template no.not-Template, tt))) in
    rw (default_of in_table_end _ (tag_text c.args.tag) known c.known.ensures none) (search rules)

pub returns-in-Body : goal.returns-in-Body
unfolding in_table_end in_table_ignored_ends
returns-in-Body g c = rw (arm_of in_table_end _ (tag_text c.args.tag) c.known.result c.known.ensures Body Body (Caption ∷ Col ∷ Colgroup ∷ Html ∷ Tbody ∷ Td ∷ Tfoot ∷ Th ∷ Thead ∷ Tr ∷ []) c.in-Body.is ((λ other. refl), ((λ other. refl), ((λ other. refl), ((λ other. refl), ((λ other. refl), ((λ other. refl), ((λ other. refl), ((λ other. refl), ((λ other. refl), ((λ other. refl), ((λ other. refl), tt)))))))))))) (search rules)
