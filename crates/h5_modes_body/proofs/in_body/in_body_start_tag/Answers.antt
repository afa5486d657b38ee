use Rattle.h5_builder_spec.proofs.modes.ReadyLaws.{ready_open}
use Rattle.h5_builder_state.specs.Steps.{world_of}
use Rattle.h5_builder_spec.specs.modes.InBody.{in_body_start_blocks}
use Rattle.h5_builder_spec.specs.modes.Shared.{head_start_names}
use Rattle.h5_tables.specs.TagSets.{block_start_names, heading_names}
use Rattle.h5_names.specs.declared.known_name.KnownName.TheVariants.{Address, Article, Aside, Base, Basefont, Bgsound, Blockquote, Body, Center, Details, Dialog, Dir, Div, Dl, Fieldset, Figcaption, Figure, Footer, Frameset, H1, H2, H3, H4, H5, H6, Header, Hgroup, Html, Link, Main, Menu, Meta, Nav, Noframes, Ol, P, Script, Search, Section, Style, Summary, Template, Title, Ul}
use Rattle.std.proofs.Common.{[], rules, ◌∷◌, refl}
use Rattle.h5_names.specs.KnownNames.{name_text}
use Rattle.h5_token.specs.TokenText.{tag_text}
use Rattle.h5_builder_spec.specs.ByName.{NonePasses}
use Rattle.h5_modes_head.proofs.DefaultLaws.{any_apart, default_of, only_apart}
use Rattle.h5_modes_head.proofs.ArmLaws.{arm_of}
use Rattle.h5_modes_body.proofs.in_body.in_body_start_tag.Goals as goal

pub in_body_start_html-requires : goal.in_body_start_html-requires
in_body_start_html-requires g c = record {
  sound = c.requires.sound;
  some = ready_open (world_of g.S.TreeSink c.args.sink.now c.args.state.now) c.requires.ready;
}

pub in_head_start_tag-requires : goal.in_head_start_tag-requires
in_head_start_tag-requires g c = record {
  sound = c.requires.sound;
  some = ready_open (world_of g.S.TreeSink c.args.sink.now c.args.state.now) c.requires.ready;
}

pub returns-in_default : goal.returns-in_default
unfolding in_body_start_blocks head_start_names block_start_names heading_names
returns-in_default g c =
    let known = c.known.result in
    let no = c.in_default in
    let none : NonePasses in_body_start_blocks (name_text known) = (only_apart known Html no.not-Html, (any_apart known (Base ∷ Basefont ∷ Bgsound ∷ Link ∷ Meta ∷ Noframes ∷ Script ∷ Style ∷ Template ∷ Title ∷ []) (no.not-Base, (no.not-Basefont, (no.not-Bgsound, (no.not-Link, (no.not-Meta, (no.not-Noframes, (no.not-Script, (no.not-Style, (no.not-Template, (no.not-Title, tt)))))))))), (only_apart known Body no.not-Body, (only_apart known Frameset no.not-Frameset, (any_apart known (Address ∷ Article ∷ Aside ∷ Blockquote ∷ Center ∷ Details ∷ Dialog ∷ Dir ∷ Div ∷ Dl ∷ Fieldset ∷ Figcaption ∷ Figure ∷ Footer ∷ Header ∷ Hgroup ∷ Main ∷ Menu ∷ Nav ∷ Ol ∷ P ∷ Search ∷ Section ∷ Summary ∷ Ul ∷ []) (no.not-Address, (no.not-Article, (no.not-Aside, (no.not-Blockquote, (no.not-Center, (no.not-Details, (no.not-Dialog, (no.not-Dir, (no.not-Div, (no.not-Dl, (no.not-Fieldset, (no.not-Figcaption, (no.not-Figure, (no.not-Footer, (no.not-Header, (no.not-Hgroup, (no.not-Main, (no.not-Menu, (no.not-Nav, (no.not-Ol, (no.not-P, (no.not-Search, (no.not-Section, (no.not-Summary, (no.not-Ul, tt))))))))))))))))))))))))), (any_apart known (H1 ∷ H2 ∷ H3 ∷ H4 ∷ H5 ∷ H6 ∷ []) (no.not-H1, (no.not-H2, (no.not-H3, (no.not-H4, (no.not-H5, (no.not-H6, tt)))))), tt)))))) in
    rw (default_of in_body_start_blocks _ (tag_text c.args.tag) known c.known.ensures none) (search rules)

pub returns-in-Base : goal.returns-in-Base
unfolding in_body_start_blocks head_start_names block_start_names heading_names
returns-in-Base g c = rw (arm_of in_body_start_blocks _ (tag_text c.args.tag) c.known.result c.known.ensures Base Base (Basefont ∷ Bgsound ∷ Link ∷ Meta ∷ Noframes ∷ Script ∷ Style ∷ Template ∷ Title ∷ []) c.in-Base.is ((λ other. refl), ((λ other. refl), ((λ other. refl), ((λ other. refl), ((λ other. refl), ((λ other. refl), ((λ other. refl), ((λ other. refl), ((λ other. refl), ((λ other. refl), tt))))))))))) (search rules)

pub returns-in-Address : goal.returns-in-Address
unfolding in_body_start_blocks head_start_names block_start_names heading_names
returns-in-Address g c = rw (arm_of in_body_start_blocks _ (tag_text c.args.tag) c.known.result c.known.ensures Address Address (Article ∷ Aside ∷ Blockquote ∷ Center ∷ Details ∷ Dialog ∷ Dir ∷ Div ∷ Dl ∷ Fieldset ∷ Figcaption ∷ Figure ∷ Footer ∷ Header ∷ Hgroup ∷ Main ∷ Menu ∷ Nav ∷ Ol ∷ P ∷ Search ∷ Section ∷ Summary ∷ Ul ∷ []) c.in-Address.is ((λ other. refl), ((λ other. refl), ((λ other. refl), ((λ other. refl), ((λ other. refl), ((λ other. refl), ((λ other. refl), ((λ other. refl), ((λ other. refl), ((λ other. refl), ((λ other. refl), ((λ other. refl), ((λ other. refl), ((λ other. refl), ((λ other. refl), ((λ other. refl), ((λ other. refl), ((λ other. refl), ((λ other. refl), ((λ other. refl), ((λ other. refl), ((λ other. refl), ((λ other. refl), ((λ other. refl), ((λ other. refl), tt)))))))))))))))))))))))))) (search rules)

pub returns-in-H1 : goal.returns-in-H1
unfolding in_body_start_blocks head_start_names block_start_names heading_names
returns-in-H1 g c = rw (arm_of in_body_start_blocks _ (tag_text c.args.tag) c.known.result c.known.ensures H1 H1 (H2 ∷ H3 ∷ H4 ∷ H5 ∷ H6 ∷ []) c.in-H1.is ((λ other. refl), ((λ other. refl), ((λ other. refl), ((λ other. refl), ((λ other. refl), ((λ other. refl), tt))))))) (search rules)
