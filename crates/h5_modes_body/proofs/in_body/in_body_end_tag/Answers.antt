use Rattle.std.proofs.Common.{◌≡◌, true, refl, rules, [], ◌∷◌}
use Rattle.h5_names.specs.KnownNames.{known_name_of, known_names, name_text}
use Rattle.h5_tables.specs.TagSets.{block_end_names, is_one_of}
use Rattle.h5_builder_spec.proofs.rows.KnownRuleLaws.{one_of_known}
use Rattle.h5_builder_spec.specs.modes.InBody.{in_body_end_blocks}
use Rattle.h5_names.specs.declared.known_name.KnownName.TheVariants.{Address, Article, Aside, Blockquote, Body, Button, Center, Details, Dialog, Dir, Div, Dl, Fieldset, Figcaption, Figure, Footer, Form, Header, Hgroup, Html, Listing, Main, Menu, Nav, Ol, Pre, Search, Section, Select, Summary, Ul, Option as OptionName}
use Rattle.h5_token.specs.TokenText.{tag_text}
use Rattle.h5_builder_spec.specs.ByName.{NonePasses}
use Rattle.h5_modes_head.proofs.DefaultLaws.{any_apart, default_of, only_apart}
use Rattle.h5_modes_head.proofs.ArmLaws.{among_of, arm_of}
use Rattle.h5_modes_body.proofs.in_body.in_body_end_tag.Goals as goal

pub in_body_end_block-requires-clause-name : goal.in_body_end_block-requires-clause-name
unfolding block_end_names known_name_of known_names
in_body_end_block-requires-clause-name g c =
    let named : is_one_of block_end_names (name_text c.known.result) ≡ true = among_of block_end_names c.known.result Address (Article ∷ Aside ∷ Blockquote ∷ Center ∷ Details ∷ Dialog ∷ Dir ∷ Div ∷ Dl ∷ Fieldset ∷ Figcaption ∷ Figure ∷ Footer ∷ Header ∷ Hgroup ∷ Main ∷ Menu ∷ Nav ∷ Ol ∷ Search ∷ Section ∷ Summary ∷ Ul ∷ []) c.in-Address.is (refl, (refl, (refl, (refl, (refl, (refl, (refl, (refl, (refl, (refl, (refl, (refl, (refl, (refl, (refl, (refl, (refl, (refl, (refl, (refl, (refl, (refl, (refl, (refl, tt)))))))))))))))))))))))) in
    one_of_known block_end_names c.args.tag.name c.known.result refl c.known.ensures named

pub in_body_end_block-requires-in-Button-clause-name : goal.in_body_end_block-requires-in-Button-clause-name
unfolding block_end_names known_name_of known_names
in_body_end_block-requires-in-Button-clause-name g c =
    let named : is_one_of block_end_names (name_text c.known.result) ≡ true = among_of block_end_names c.known.result Button (Listing ∷ Pre ∷ Select ∷ []) c.in-Button.is (refl, (refl, (refl, (refl, tt)))) in
    one_of_known block_end_names c.args.tag.name c.known.result refl c.known.ensures named

pub returns-in_default : goal.returns-in_default
unfolding in_body_end_blocks block_end_names
returns-in_default g c =
    let known = c.known.result in
    let no = c.in_default in
    let none : NonePasses in_body_end_blocks (name_text known) = (only_apart known Html no.not-Html, (only_apart known Body no.not-Body, (any_apart known (Address ∷ Article ∷ Aside ∷ Blockquote ∷ Button ∷ Center ∷ Details ∷ Dialog ∷ Dir ∷ Div ∷ Dl ∷ Fieldset ∷ Figcaption ∷ Figure ∷ Footer ∷ Header ∷ Hgroup ∷ Listing ∷ Main ∷ Menu ∷ Nav ∷ Ol ∷ Pre ∷ Search ∷ Section ∷ Select ∷ Summary ∷ Ul ∷ []) (no.not-Address, (no.not-Article, (no.not-Aside, (no.not-Blockquote, (no.not-Button, (no.not-Center, (no.not-Details, (no.not-Dialog, (no.not-Dir, (no.not-Div, (no.not-Dl, (no.not-Fieldset, (no.not-Figcaption, (no.not-Figure, (no.not-Footer, (no.not-Header, (no.not-Hgroup, (no.not-Listing, (no.not-Main, (no.not-Menu, (no.not-Nav, (no.not-Ol, (no.not-Pre, (no.not-Search, (no.not-Section, (no.not-Select, (no.not-Summary, (no.not-Ul, tt)))))))))))))))))))))))))))), (only_apart known Form no.not-Form, (only_apart known OptionName no.not-Option, tt))))) in
    rw (default_of in_body_end_blocks _ (tag_text c.args.tag) known c.known.ensures none) (search rules)

pub returns-in-Address : goal.returns-in-Address
unfolding in_body_end_blocks block_end_names
returns-in-Address g c = rw (arm_of in_body_end_blocks _ (tag_text c.args.tag) c.known.result c.known.ensures Address Address (Article ∷ Aside ∷ Blockquote ∷ Center ∷ Details ∷ Dialog ∷ Dir ∷ Div ∷ Dl ∷ Fieldset ∷ Figcaption ∷ Figure ∷ Footer ∷ Header ∷ Hgroup ∷ Main ∷ Menu ∷ Nav ∷ Ol ∷ Search ∷ Section ∷ Summary ∷ Ul ∷ []) c.in-Address.is ((λ other. refl), ((λ other. refl), ((λ other. refl), ((λ other. refl), ((λ other. refl), ((λ other. refl), ((λ other. refl), ((λ other. refl), ((λ other. refl), ((λ other. refl), ((λ other. refl), ((λ other. refl), ((λ other. refl), ((λ other. refl), ((λ other. refl), ((λ other. refl), ((λ other. refl), ((λ other. refl), ((λ other. refl), ((λ other. refl), ((λ other. refl), ((λ other. refl), ((λ other. refl), ((λ other. refl), tt))))))))))))))))))))))))) (search rules)

pub returns-in-Button : goal.returns-in-Button
unfolding in_body_end_blocks block_end_names
returns-in-Button g c = rw (arm_of in_body_end_blocks _ (tag_text c.args.tag) c.known.result c.known.ensures Button Button (Listing ∷ Pre ∷ Select ∷ []) c.in-Button.is ((λ other. refl), ((λ other. refl), ((λ other. refl), ((λ other. refl), tt))))) (search rules)
