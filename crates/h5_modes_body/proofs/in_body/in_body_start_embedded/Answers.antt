use Rattle.h5_builder_spec.specs.modes.InBody.{in_body_ignored_starts, in_body_parts, in_body_ruby_bases, in_body_ruby_texts, in_body_start_embedded, outside_names}
use Rattle.h5_builder_spec.specs.modes.Shared.{table_structure_names}
use Rattle.h5_names.specs.declared.known_name.KnownName.TheVariants.{Caption, Col, Colgroup, Frame, Head, Hr, Iframe, Image, Input, Math, Noembed, Noscript, Optgroup, Param, Rb, Rp, Rt, Rtc, Select, Source, Svg, Tbody, Td, Textarea, Tfoot, Th, Thead, Tr, Track, Xmp, Option as OptionName}
use Rattle.std.proofs.Common.{[], rules, ◌∷◌, refl}
use Rattle.h5_names.specs.KnownNames.{name_text}
use Rattle.h5_token.specs.TokenText.{tag_text}
use Rattle.h5_builder_spec.specs.ByName.{NonePasses}
use Rattle.h5_modes_head.proofs.DefaultLaws.{any_apart, default_of, only_apart}
use Rattle.h5_modes_head.proofs.ArmLaws.{arm_of}
use Rattle.h5_modes_body.proofs.in_body.in_body_start_embedded.Goals as goal

pub returns-in_default : goal.returns-in_default
unfolding in_body_start_embedded in_body_parts in_body_ruby_bases in_body_ruby_texts table_structure_names outside_names in_body_ignored_starts
returns-in_default g c =
    let known = c.known.result in
    let no = c.in_default in
    let none : NonePasses in_body_start_embedded (name_text known) = (only_apart known Image no.not-Image, (only_apart known Input no.not-Input, (any_apart known (Param ∷ Source ∷ Track ∷ []) (no.not-Param, (no.not-Source, (no.not-Track, tt))), (only_apart known Hr no.not-Hr, (only_apart known Textarea no.not-Textarea, (only_apart known Xmp no.not-Xmp, (only_apart known Iframe no.not-Iframe, (only_apart known Noembed no.not-Noembed, (only_apart known Noscript no.not-Noscript, (only_apart known Select no.not-Select, (only_apart known OptionName no.not-Option, (only_apart known Optgroup no.not-Optgroup, (any_apart known (Rb ∷ Rtc ∷ []) (no.not-Rb, (no.not-Rtc, tt)), (any_apart known (Rp ∷ Rt ∷ []) (no.not-Rp, (no.not-Rt, tt)), (only_apart known Math no.not-Math, (only_apart known Svg no.not-Svg, (any_apart known (Caption ∷ Col ∷ Colgroup ∷ Tbody ∷ Td ∷ Tfoot ∷ Th ∷ Thead ∷ Tr ∷ Frame ∷ Head ∷ []) (no.not-Caption, (no.not-Col, (no.not-Colgroup, (no.not-Tbody, (no.not-Td, (no.not-Tfoot, (no.not-Th, (no.not-Thead, (no.not-Tr, (no.not-Frame, (no.not-Head, tt))))))))))), tt))))))))))))))))) in
    rw (default_of in_body_start_embedded _ (tag_text c.args.tag) known c.known.ensures none) (search rules)

pub returns-in-Param : goal.returns-in-Param
unfolding in_body_start_embedded in_body_parts in_body_ruby_bases in_body_ruby_texts table_structure_names outside_names in_body_ignored_starts
returns-in-Param g c = rw (arm_of in_body_start_embedded _ (tag_text c.args.tag) c.known.result c.known.ensures Param Param (Source ∷ Track ∷ []) c.in-Param.is ((λ other. refl), ((λ other. refl), ((λ other. refl), tt)))) (search rules)

pub returns-in-Caption : goal.returns-in-Caption
unfolding in_body_start_embedded in_body_parts in_body_ruby_bases in_body_ruby_texts table_structure_names outside_names in_body_ignored_starts
returns-in-Caption g c = rw (arm_of in_body_start_embedded _ (tag_text c.args.tag) c.known.result c.known.ensures Caption Caption (Col ∷ Colgroup ∷ Tbody ∷ Td ∷ Tfoot ∷ Th ∷ Thead ∷ Tr ∷ Frame ∷ Head ∷ []) c.in-Caption.is ((λ other. refl), ((λ other. refl), ((λ other. refl), ((λ other. refl), ((λ other. refl), ((λ other. refl), ((λ other. refl), ((λ other. refl), ((λ other. refl), ((λ other. refl), ((λ other. refl), tt)))))))))))) (search rules)
