use Rattle.h5_builder_spec.proofs.modes.ReadyLaws.{ready_open}
use Rattle.h5_builder_state.specs.Steps.{world_of}
use Rattle.h5_builder_spec.specs.modes.InTemplate.{in_template_part_names, in_template_start}
use Rattle.h5_builder_spec.specs.modes.Shared.{head_start_names}
use Rattle.h5_tables.specs.TagSets.{cell_names}
use Rattle.h5_names.specs.declared.known_name.KnownName.TheVariants.{Base, Basefont, Bgsound, Caption, Col, Colgroup, Link, Meta, Noframes, Script, Style, Tbody, Td, Template, Tfoot, Th, Thead, Title, Tr}
use Rattle.std.proofs.Common.{[], rules, ◌∷◌, refl}
use Rattle.h5_names.specs.KnownNames.{name_text}
use Rattle.h5_token.specs.TokenText.{tag_text}
use Rattle.h5_builder_spec.specs.ByName.{NonePasses}
use Rattle.h5_modes_head.proofs.DefaultLaws.{any_apart, default_of, only_apart}
use Rattle.h5_modes_head.proofs.ArmLaws.{arm_of}
use Rattle.h5_modes_rest.proofs.in_template.in_template_start_tag.Goals as goal

pub in_head_start_tag-requires : goal.in_head_start_tag-requires
in_head_start_tag-requires g c = record {
  sound = c.requires.sound;
  some = ready_open (world_of g.S.TreeSink c.args.sink.now c.args.state.now) c.requires.ready;
}

pub returns-in_default : goal.returns-in_default
unfolding in_template_start head_start_names in_template_part_names cell_names
returns-in_default g c =
    let known = c.known.result in
    let no = c.in_default in
    let none : NonePasses in_template_start (name_text known) = (any_apart known (Base ∷ Basefont ∷ Bgsound ∷ Link ∷ Meta ∷ Noframes ∷ Script ∷ Style ∷ Template ∷ Title ∷ []) (no.not-Base, (no.not-Basefont, (no.not-Bgsound, (no.not-Link, (no.not-Meta, (no.not-Noframes, (no.not-Script, (no.not-Style, (no.not-Template, (no.not-Title, tt)))))))))), (any_apart known (Caption ∷ Colgroup ∷ Tbody ∷ Tfoot ∷ Thead ∷ []) (no.not-Caption, (no.not-Colgroup, (no.not-Tbody, (no.not-Tfoot, (no.not-Thead, tt))))), (only_apart known Col no.not-Col, (only_apart known Tr no.not-Tr, (any_apart known (Td ∷ Th ∷ []) (no.not-Td, (no.not-Th, tt)), tt))))) in
    rw (default_of in_template_start _ (tag_text c.args.tag) known c.known.ensures none) (search rules)

pub returns-in-Base : goal.returns-in-Base
unfolding in_template_start head_start_names in_template_part_names cell_names
returns-in-Base g c = rw (arm_of in_template_start _ (tag_text c.args.tag) c.known.result c.known.ensures Base Base (Basefont ∷ Bgsound ∷ Link ∷ Meta ∷ Noframes ∷ Script ∷ Style ∷ Template ∷ Title ∷ []) c.in-Base.is ((λ other. refl), ((λ other. refl), ((λ other. refl), ((λ other. refl), ((λ other. refl), ((λ other. refl), ((λ other. refl), ((λ other. refl), ((λ other. refl), ((λ other. refl), tt))))))))))) (search rules)

pub returns-in-Caption : goal.returns-in-Caption
unfolding in_template_start head_start_names in_template_part_names cell_names
returns-in-Caption g c = rw (arm_of in_template_start _ (tag_text c.args.tag) c.known.result c.known.ensures Caption Caption (Colgroup ∷ Tbody ∷ Tfoot ∷ Thead ∷ []) c.in-Caption.is ((λ other. refl), ((λ other. refl), ((λ other. refl), ((λ other. refl), ((λ other. refl), tt)))))) (search rules)
