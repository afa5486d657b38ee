use Rattle.std.proofs.Common.{◌≡◌, true, refl, rules, [], ◌∷◌}
use Rattle.h5_names.specs.KnownNames.{known_name_of, known_names, name_text}
use Rattle.h5_tables.specs.TagSets.{cell_names, is_one_of}
use Rattle.h5_builder_spec.proofs.rows.KnownRuleLaws.{one_of_known}
use Rattle.h5_builder_spec.specs.modes.InCell.{in_cell_closing_ends, in_cell_end, in_cell_ignored_ends}
use Rattle.h5_names.specs.declared.known_name.KnownName.TheVariants.{Body, Caption, Col, Colgroup, Html, Table, Tbody, Td, Tfoot, Th, Thead, Tr}
use Rattle.h5_token.specs.TokenText.{tag_text}
use Rattle.h5_builder_spec.specs.ByName.{NonePasses}
use Rattle.h5_modes_head.proofs.DefaultLaws.{any_apart, default_of}
use Rattle.h5_modes_head.proofs.ArmLaws.{among_of, arm_of}
use Rattle.h5_modes_tables.proofs.in_cell.in_cell_end_tag.Goals as goal

pub in_cell_end_cell-requires-clause-name : goal.in_cell_end_cell-requires-clause-name
unfolding cell_names known_name_of known_names
in_cell_end_cell-requires-clause-name g c =
    let named : is_one_of cell_names (name_text c.known.result) ≡ true = among_of cell_names c.known.result Td (Th ∷ []) c.in-Td.is (refl, (refl, tt)) in
    one_of_known cell_names c.args.tag.name c.known.result refl c.known.ensures named

pub returns-in_default : goal.returns-in_default
unfolding in_cell_end cell_names in_cell_closing_ends in_cell_ignored_ends
returns-in_default g c =
    let known = c.known.result in
    let no = c.in_default in
    let none : NonePasses in_cell_end (name_text known) = (any_apart known (Td ∷ Th ∷ []) (no.not-Td, (no.not-Th, tt)), (any_apart known (Table ∷ Tbody ∷ Tfoot ∷ Thead ∷ Tr ∷ []) (no.not-Table, (no.not-Tbody, (no.not-Tfoot, (no.not-Thead, (no.not-Tr, tt))))), (any_apart known (Body ∷ Caption ∷ Col ∷ Colgroup ∷ Html ∷ []) (no.not-Body, (no.not-Caption, (no.not-Col, (no.not-Colgroup, (no.not-Html, tt))))), tt))) in
    rw (default_of in_cell_end _ (tag_text c.args.tag) known c.known.ensures none) (search rules)

pub returns-in-Table : goal.returns-in-Table
unfolding in_cell_end cell_names in_cell_closing_ends in_cell_ignored_ends
returns-in-Table g c = rw (arm_of in_cell_end _ (tag_text c.args.tag) c.known.result c.known.ensures Table Table (Tbody ∷ Tfoot ∷ Thead ∷ Tr ∷ []) c.in-Table.is ((λ other. refl), ((λ other. refl), ((λ other. refl), ((λ other. refl), ((λ other. refl), tt)))))) (search rules)

pub returns-in-Body : goal.returns-in-Body
unfolding in_cell_end cell_names in_cell_closing_ends in_cell_ignored_ends
returns-in-Body g c = rw (arm_of in_cell_end _ (tag_text c.args.tag) c.known.result c.known.ensures Body Body (Caption ∷ Col ∷ Colgroup ∷ Html ∷ []) c.in-Body.is ((λ other. refl), ((λ other. refl), ((λ other. refl), ((λ other. refl), ((λ other. refl), tt)))))) (search rules)
