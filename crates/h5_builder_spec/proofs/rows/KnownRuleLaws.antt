-- The rule for a tag is also found by the known name that the tag has. So code uses one `match` over known names.
use Rattle.std.proofs.Common.{◌≡◌, ℕ, Bool, true, false, ◌&&◌, ◌++◌, List, [], ◌∷◌, if◌then◌else◌, refl, sym, ap, ◌∙◌}
use Rattle.std.proofs.lemmas.Bool.{and_parts}
use Rattle.std.proofs.lemmas.Slice.Eq.{bytes_eq-Decides}
use Rattle.h5_names.specs.AttributeText.{is_same_text}
use Rattle.h5_names.specs.KnownNames.{known_name_of, known_names, name_text}
use Rattle.h5_names.specs.declared.known_name.KnownName.{KnownName}
use Rattle.h5_names.proofs.KnownNameLemmas.{any_by_name, are_known, is_known, known_not_other, known_of_text, same_tests, text_of_known}
use Rattle.h5_token.specs.TokenText.{TagText}
use Rattle.h5_tables.specs.TagSets.{block_end_names, block_start_names, cell_names, formatting_names, heading_names, is_one_of}
use Rattle.h5_builder_spec.specs.ByName.{AnyOf, Names, NonePasses, Only, Rules, by_known, by_name, is_among, rule_of}
use Rattle.h5_builder_spec.specs.modes.AfterAfterBody.{after_after_body_start}
use Rattle.h5_builder_spec.specs.modes.AfterBody.{after_body_end, after_body_start}
use Rattle.h5_builder_spec.specs.modes.AfterFrameset.{after_frameset_end, after_frameset_start}
use Rattle.h5_builder_spec.specs.modes.AfterHead.{after_head_end, after_head_start}
use Rattle.h5_builder_spec.specs.modes.BeforeHead.{before_head_end, before_head_start}
use Rattle.h5_builder_spec.specs.modes.BeforeHtml.{before_html_end, before_html_start}
use Rattle.h5_builder_spec.specs.ByName.{outer_names}
use Rattle.h5_builder_spec.specs.modes.InBody.{description_names, in_body_end, in_body_end_blocks, in_body_end_inline, in_body_ignored_starts, in_body_marked, in_body_parts, in_body_preformatted, in_body_ruby_bases, in_body_ruby_texts, in_body_start, in_body_start_blocks, in_body_start_embedded, in_body_start_inline, in_body_void, list_item_names, outside_names}
use Rattle.h5_builder_spec.specs.modes.InCaption.{in_caption_end, in_caption_ignored_ends, in_caption_start}
use Rattle.h5_builder_spec.specs.modes.InCell.{in_cell_closing_ends, in_cell_end, in_cell_ignored_ends, in_cell_start}
use Rattle.h5_builder_spec.specs.modes.InColumnGroup.{in_column_group_end, in_column_group_start}
use Rattle.h5_builder_spec.specs.modes.InFrameset.{in_frameset_end, in_frameset_start}
use Rattle.h5_builder_spec.specs.modes.InHead.{in_head_end, in_head_links, in_head_raw, in_head_start}
use Rattle.h5_builder_spec.specs.modes.InHeadNoscript.{in_head_noscript_end, in_head_noscript_ignored, in_head_noscript_start, noscript_content_names}
use Rattle.h5_builder_spec.specs.modes.InRow.{in_row_end, in_row_ignored_ends, in_row_start, row_closing_names}
use Rattle.h5_builder_spec.specs.modes.InTable.{in_table_end, in_table_ignored_ends, in_table_start, row_part_names, table_text_names}
use Rattle.h5_builder_spec.specs.modes.InTableBody.{in_table_body_end, in_table_body_ignored_ends, in_table_body_start, section_closing_names}
use Rattle.h5_builder_spec.specs.modes.InTemplate.{in_template_end, in_template_part_names, in_template_start}
use Rattle.h5_builder_spec.specs.modes.Shared.{head_start_names, table_structure_names}
use Rattle.h5_builder_spec.specs.modes.Tables.{table_section_names}
use Rattle.h5_builder_spec.specs.Rows.{Row}
use Rattle.h5_builder_spec.specs.World.{World}

-- one known name
only_by_known : (known : KnownName) (name : List ℕ) → is_known known ≡ true → is_same_text (name_text (known_name_of name)) (name_text known) ≡ is_same_text name (name_text known)
only_by_known known name h =
    same_tests _ _
    (λ p.
    let e : name_text (known_name_of name) ≡ name_text known = (bytes_eq-Decides (name_text (known_name_of name)) (name_text known)).0 p in
    let k : known_name_of name ≡ known = sym (known_of_text (known_name_of name)) ∙ (ap known_name_of e ∙ known_of_text known) in
    (bytes_eq-Decides name (name_text known)).1 (sym (text_of_known name (known_not_other (known_name_of name) (ap is_known k ∙ h))) ∙ e))
    (λ p.
    let e : name ≡ name_text known = (bytes_eq-Decides name (name_text known)).0 p in
    let k : known_name_of name ≡ known = ap known_name_of e ∙ known_of_text known in
    (bytes_eq-Decides (name_text (known_name_of name)) (name_text known)).1 (ap name_text k))

-- whether HTML knows each name that a rule is for
abbrev pub knows : Names → Bool
knows (Only known) = is_known known
knows (AnyOf names) = are_known names

abbrev pub knows_all : Rules → Bool
knows_all [] = true
knows_all (x ∷ xs) = knows x.0 && knows_all xs

pub among_by_known : (names : Names) (name : List ℕ) → knows names ≡ true → is_among names (name_text (known_name_of name)) ≡ is_among names name
among_by_known (Only known) name h = only_by_known known name h
among_by_known (AnyOf names) name h = any_by_name names name h

chosen : (b : Bool) (rule rest : TagText → World → Row) (r : Row) (tag : TagText) (w : World) → rest tag w ≡ r → (if b then rule else rest) tag w ≡ (if b then rule tag w else r)
chosen true rule rest r tag w e = refl
chosen false rule rest r tag w e = e

-- where HTML knows each name of the rules, both ways find one rule
pub known_is_name : (rules : Rules) (other : TagText → World → Row) (tag : TagText) (w : World) → knows_all rules ≡ true → by_known rules other tag w ≡ by_name rules other tag w
known_is_name [] other tag w h = refl
known_is_name (x ∷ xs) other tag w h =
    let p = and_parts (knows x.0) (knows_all xs) h in
    chosen (is_among x.0 (name_text (known_name_of tag.name))) x.1 (rule_of xs other (name_text (known_name_of tag.name))) (by_name xs other tag w) tag w (known_is_name xs other tag w p.1)
    ∙ ap (λ b. if b then x.1 tag w else by_name xs other tag w) (among_by_known x.0 tag.name p.0)

-- a name is among these where its known name's text is
pub one_of_known : (names : List (List ℕ)) (name : List ℕ) (known : KnownName) → are_known names ≡ true → known ≡ known_name_of name → is_one_of names (name_text known) ≡ true → is_one_of names name ≡ true
one_of_known names name known h e o = sym (any_by_name names name h) ∙ (ap (λ k. is_one_of names (name_text k)) (sym e) ∙ o)

-- if none of the rules is for a tag, it goes by what comes after them
none_passes : (rules : Rules) (rest : TagText → World → Row) (name : List ℕ) → NonePasses rules name → rule_of rules rest name ≡ rest
none_passes [] rest name n = refl
none_passes (x ∷ xs) rest name n = ap (λ b. if b then x.1 else rule_of xs rest name) n.0 ∙ none_passes xs rest name n.1

pub goes_on : (rules : Rules) (rest : TagText → World → Row) (name : List ℕ) (known : KnownName) → known ≡ known_name_of name → NonePasses rules (name_text known) → rule_of rules rest (name_text (known_name_of name)) ≡ rest
goes_on rules rest name known e n = ap (λ k. rule_of rules rest (name_text k)) (sym e) ∙ none_passes rules rest (name_text known) n

-- rules, and then others where those have none
after : (b : Bool) (r s t : Row) → s ≡ t → (if b then r else s) ≡ (if b then r else t)
after true r s t e = refl
after false r s t e = e

pub others_agree : (rules more : Rules) (rest other : TagText → World → Row) (tag : TagText) (w : World) → rest tag w ≡ by_name more other tag w → by_name rules rest tag w ≡ by_name (rules ++ more) other tag w
others_agree [] more rest other tag w e = e
others_agree (x ∷ xs) more rest other tag w e =
    after (is_among x.0 tag.name) (x.1 tag w) (by_name xs rest tag w) (by_name (xs ++ more) other tag w) (others_agree xs more rest other tag w e)

-- the rules of each mode
pub after_after_body_start_known : (other : TagText → World → Row) (tag : TagText) (w : World) → by_known after_after_body_start other tag w ≡ by_name after_after_body_start other tag w
unfolding after_after_body_start known_name_of known_names
after_after_body_start_known other tag w = known_is_name after_after_body_start other tag w refl

pub after_body_start_known : (other : TagText → World → Row) (tag : TagText) (w : World) → by_known after_body_start other tag w ≡ by_name after_body_start other tag w
unfolding after_body_start known_name_of known_names
after_body_start_known other tag w = known_is_name after_body_start other tag w refl

pub after_body_end_known : (other : TagText → World → Row) (tag : TagText) (w : World) → by_known after_body_end other tag w ≡ by_name after_body_end other tag w
unfolding after_body_end known_name_of known_names
after_body_end_known other tag w = known_is_name after_body_end other tag w refl

pub after_frameset_start_known : (other : TagText → World → Row) (tag : TagText) (w : World) → by_known after_frameset_start other tag w ≡ by_name after_frameset_start other tag w
unfolding after_frameset_start known_name_of known_names
after_frameset_start_known other tag w = known_is_name after_frameset_start other tag w refl

pub after_frameset_end_known : (other : TagText → World → Row) (tag : TagText) (w : World) → by_known after_frameset_end other tag w ≡ by_name after_frameset_end other tag w
unfolding after_frameset_end known_name_of known_names
after_frameset_end_known other tag w = known_is_name after_frameset_end other tag w refl

pub after_head_start_known : (other : TagText → World → Row) (tag : TagText) (w : World) → by_known after_head_start other tag w ≡ by_name after_head_start other tag w
unfolding after_head_start head_start_names known_name_of known_names
after_head_start_known other tag w = known_is_name after_head_start other tag w refl

pub after_head_end_known : (other : TagText → World → Row) (tag : TagText) (w : World) → by_known after_head_end other tag w ≡ by_name after_head_end other tag w
unfolding after_head_end outer_names known_name_of known_names
after_head_end_known other tag w = known_is_name after_head_end other tag w refl

pub before_head_start_known : (other : TagText → World → Row) (tag : TagText) (w : World) → by_known before_head_start other tag w ≡ by_name before_head_start other tag w
unfolding before_head_start known_name_of known_names
before_head_start_known other tag w = known_is_name before_head_start other tag w refl

pub before_head_end_known : (other : TagText → World → Row) (tag : TagText) (w : World) → by_known before_head_end other tag w ≡ by_name before_head_end other tag w
unfolding before_head_end outer_names known_name_of known_names
before_head_end_known other tag w = known_is_name before_head_end other tag w refl

pub before_html_start_known : (other : TagText → World → Row) (tag : TagText) (w : World) → by_known before_html_start other tag w ≡ by_name before_html_start other tag w
unfolding before_html_start known_name_of known_names
before_html_start_known other tag w = known_is_name before_html_start other tag w refl

pub before_html_end_known : (other : TagText → World → Row) (tag : TagText) (w : World) → by_known before_html_end other tag w ≡ by_name before_html_end other tag w
unfolding before_html_end outer_names known_name_of known_names
before_html_end_known other tag w = known_is_name before_html_end other tag w refl

pub in_body_start_blocks_known : (other : TagText → World → Row) (tag : TagText) (w : World) → by_known in_body_start_blocks other tag w ≡ by_name in_body_start_blocks other tag w
unfolding in_body_start_blocks head_start_names block_start_names heading_names known_name_of known_names
in_body_start_blocks_known other tag w = known_is_name in_body_start_blocks other tag w refl

pub in_body_start_inline_known : (other : TagText → World → Row) (tag : TagText) (w : World) → by_known in_body_start_inline other tag w ≡ by_name in_body_start_inline other tag w
unfolding in_body_start_inline in_body_preformatted list_item_names description_names formatting_names in_body_marked in_body_void known_name_of known_names
in_body_start_inline_known other tag w = known_is_name in_body_start_inline other tag w refl

pub in_body_start_embedded_known : (other : TagText → World → Row) (tag : TagText) (w : World) → by_known in_body_start_embedded other tag w ≡ by_name in_body_start_embedded other tag w
unfolding in_body_start_embedded in_body_parts in_body_ruby_bases in_body_ruby_texts in_body_ignored_starts table_structure_names outside_names known_name_of known_names
in_body_start_embedded_known other tag w = known_is_name in_body_start_embedded other tag w refl

pub in_body_end_blocks_known : (other : TagText → World → Row) (tag : TagText) (w : World) → by_known in_body_end_blocks other tag w ≡ by_name in_body_end_blocks other tag w
unfolding in_body_end_blocks block_end_names known_name_of known_names
in_body_end_blocks_known other tag w = known_is_name in_body_end_blocks other tag w refl

pub in_body_end_inline_known : (other : TagText → World → Row) (tag : TagText) (w : World) → by_known in_body_end_inline other tag w ≡ by_name in_body_end_inline other tag w
unfolding in_body_end_inline list_item_names description_names heading_names formatting_names in_body_marked known_name_of known_names
in_body_end_inline_known other tag w = known_is_name in_body_end_inline other tag w refl

pub in_caption_start_known : (other : TagText → World → Row) (tag : TagText) (w : World) → by_known in_caption_start other tag w ≡ by_name in_caption_start other tag w
unfolding in_caption_start table_structure_names known_name_of known_names
in_caption_start_known other tag w = known_is_name in_caption_start other tag w refl

pub in_caption_end_known : (other : TagText → World → Row) (tag : TagText) (w : World) → by_known in_caption_end other tag w ≡ by_name in_caption_end other tag w
unfolding in_caption_end in_caption_ignored_ends known_name_of known_names
in_caption_end_known other tag w = known_is_name in_caption_end other tag w refl

pub in_cell_start_known : (other : TagText → World → Row) (tag : TagText) (w : World) → by_known in_cell_start other tag w ≡ by_name in_cell_start other tag w
unfolding in_cell_start table_structure_names known_name_of known_names
in_cell_start_known other tag w = known_is_name in_cell_start other tag w refl

pub in_cell_end_known : (other : TagText → World → Row) (tag : TagText) (w : World) → by_known in_cell_end other tag w ≡ by_name in_cell_end other tag w
unfolding in_cell_end cell_names in_cell_closing_ends in_cell_ignored_ends known_name_of known_names
in_cell_end_known other tag w = known_is_name in_cell_end other tag w refl

pub in_column_group_start_known : (other : TagText → World → Row) (tag : TagText) (w : World) → by_known in_column_group_start other tag w ≡ by_name in_column_group_start other tag w
unfolding in_column_group_start known_name_of known_names
in_column_group_start_known other tag w = known_is_name in_column_group_start other tag w refl

pub in_column_group_end_known : (other : TagText → World → Row) (tag : TagText) (w : World) → by_known in_column_group_end other tag w ≡ by_name in_column_group_end other tag w
unfolding in_column_group_end known_name_of known_names
in_column_group_end_known other tag w = known_is_name in_column_group_end other tag w refl

pub in_frameset_start_known : (other : TagText → World → Row) (tag : TagText) (w : World) → by_known in_frameset_start other tag w ≡ by_name in_frameset_start other tag w
unfolding in_frameset_start known_name_of known_names
in_frameset_start_known other tag w = known_is_name in_frameset_start other tag w refl

pub in_frameset_end_known : (other : TagText → World → Row) (tag : TagText) (w : World) → by_known in_frameset_end other tag w ≡ by_name in_frameset_end other tag w
unfolding in_frameset_end known_name_of known_names
in_frameset_end_known other tag w = known_is_name in_frameset_end other tag w refl

pub in_head_start_known : (other : TagText → World → Row) (tag : TagText) (w : World) → by_known in_head_start other tag w ≡ by_name in_head_start other tag w
unfolding in_head_start in_head_links in_head_raw known_name_of known_names
in_head_start_known other tag w = known_is_name in_head_start other tag w refl

pub in_head_end_known : (other : TagText → World → Row) (tag : TagText) (w : World) → by_known in_head_end other tag w ≡ by_name in_head_end other tag w
unfolding in_head_end outer_names known_name_of known_names
in_head_end_known other tag w = known_is_name in_head_end other tag w refl

pub in_head_noscript_start_known : (other : TagText → World → Row) (tag : TagText) (w : World) → by_known in_head_noscript_start other tag w ≡ by_name in_head_noscript_start other tag w
unfolding in_head_noscript_start noscript_content_names in_head_noscript_ignored known_name_of known_names
in_head_noscript_start_known other tag w = known_is_name in_head_noscript_start other tag w refl

pub in_head_noscript_end_known : (other : TagText → World → Row) (tag : TagText) (w : World) → by_known in_head_noscript_end other tag w ≡ by_name in_head_noscript_end other tag w
unfolding in_head_noscript_end known_name_of known_names
in_head_noscript_end_known other tag w = known_is_name in_head_noscript_end other tag w refl

pub in_row_start_known : (other : TagText → World → Row) (tag : TagText) (w : World) → by_known in_row_start other tag w ≡ by_name in_row_start other tag w
unfolding in_row_start cell_names row_closing_names known_name_of known_names
in_row_start_known other tag w = known_is_name in_row_start other tag w refl

pub in_row_end_known : (other : TagText → World → Row) (tag : TagText) (w : World) → by_known in_row_end other tag w ≡ by_name in_row_end other tag w
unfolding in_row_end table_section_names in_row_ignored_ends known_name_of known_names
in_row_end_known other tag w = known_is_name in_row_end other tag w refl

pub in_table_start_known : (other : TagText → World → Row) (tag : TagText) (w : World) → by_known in_table_start other tag w ≡ by_name in_table_start other tag w
unfolding in_table_start table_section_names row_part_names table_text_names known_name_of known_names
in_table_start_known other tag w = known_is_name in_table_start other tag w refl

pub in_table_end_known : (other : TagText → World → Row) (tag : TagText) (w : World) → by_known in_table_end other tag w ≡ by_name in_table_end other tag w
unfolding in_table_end in_table_ignored_ends known_name_of known_names
in_table_end_known other tag w = known_is_name in_table_end other tag w refl

pub in_table_body_start_known : (other : TagText → World → Row) (tag : TagText) (w : World) → by_known in_table_body_start other tag w ≡ by_name in_table_body_start other tag w
unfolding in_table_body_start cell_names section_closing_names known_name_of known_names
in_table_body_start_known other tag w = known_is_name in_table_body_start other tag w refl

pub in_table_body_end_known : (other : TagText → World → Row) (tag : TagText) (w : World) → by_known in_table_body_end other tag w ≡ by_name in_table_body_end other tag w
unfolding in_table_body_end table_section_names in_table_body_ignored_ends known_name_of known_names
in_table_body_end_known other tag w = known_is_name in_table_body_end other tag w refl

pub in_template_start_known : (other : TagText → World → Row) (tag : TagText) (w : World) → by_known in_template_start other tag w ≡ by_name in_template_start other tag w
unfolding in_template_start head_start_names in_template_part_names cell_names known_name_of known_names
in_template_start_known other tag w = known_is_name in_template_start other tag w refl

pub in_template_end_known : (other : TagText → World → Row) (tag : TagText) (w : World) → by_known in_template_end other tag w ≡ by_name in_template_end other tag w
unfolding in_template_end known_name_of known_names
in_template_end_known other tag w = known_is_name in_template_end other tag w refl

-- the body's, one list after the other
pub in_body_start_known : (other : TagText → World → Row) (tag : TagText) (w : World) → by_known in_body_start_blocks (by_known in_body_start_inline (by_known in_body_start_embedded other)) tag w ≡ by_name in_body_start other tag w
unfolding in_body_start
in_body_start_known other tag w =
    let embedded : TagText → World → Row = by_known in_body_start_embedded other in
    let inline : TagText → World → Row = by_known in_body_start_inline embedded in
    in_body_start_blocks_known inline tag w
    ∙ others_agree in_body_start_blocks (in_body_start_inline ++ in_body_start_embedded) inline other tag w (
    in_body_start_inline_known embedded tag w
    ∙ others_agree in_body_start_inline in_body_start_embedded embedded other tag w (in_body_start_embedded_known other tag w)
    )

pub in_body_end_known : (other : TagText → World → Row) (tag : TagText) (w : World) → by_known in_body_end_blocks (by_known in_body_end_inline other) tag w ≡ by_name in_body_end other tag w
unfolding in_body_end
in_body_end_known other tag w =
    let inline : TagText → World → Row = by_known in_body_end_inline other in
    in_body_end_blocks_known inline tag w ∙ others_agree in_body_end_blocks in_body_end_inline inline other tag w (in_body_end_inline_known other tag w)
