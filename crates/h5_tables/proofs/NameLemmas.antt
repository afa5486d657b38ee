-- A known name's flags decide which sets have it; so they decide it for every text.
use Rattle.std.proofs.Common.{◌≡◌, ℕ, List, true, refl, slice_index}
use denote.Enum.Declared.{tag_of}
use Rattle.h5_names.specs.contracts.known_name.KnownName.{the_type}
use Rattle.h5_names.specs.declared.known_name.KnownName.{KnownName}
use Rattle.h5_names.specs.declared.known_name.KnownName.TheVariants.{A}
use Rattle.h5_names.specs.KnownNames.{known_name_of, known_names, name_text}
use Rattle.h5_names.proofs.KnownNameLemmas.{any_by_name, are_known}
use Rattle.h5_tables.specs.declared.name_sets.NameSet.{NameSet}
use Rattle.h5_tables.specs.declared.name_sets.NameSet.TheVariants.{Special, DefaultScope, ListItemScope, ButtonScope, TableScope, TableBodyContext, TableRowContext, CursoryImpliedEnd, ThoroughImpliedEnd, Heading, BodyEndOk, HeadContent, Formatting, TdTh, TableOuter, MathMlTextPoint, MathMlSpecial, SvgHtmlPoint, Void, RawText, BlockStart, BlockEnd}
use Rattle.h5_tables.specs.declared.name_sets.TheConstants.{FLAGS}
use Rattle.h5_tables.specs.TagSets.{is_one_of, special_names, scope_names, list_item_scope_names, button_scope_names, table_scope_names, table_body_context_names, table_row_context_names, implied_names, thorough_implied_names, heading_names, body_end_names, head_content_names, formatting_names, cell_names, table_outer_names, mathml_text_points, mathml_special_names, svg_html_points, void_names, raw_names, block_start_names, block_end_names}
use Rattle.h5_tables.specs.NameSets.{has_flag, names_of}

-- the table has the bit of a set exactly at the names that the set holds
pub flags_are_right : (set : NameSet) (known : KnownName) → has_flag (slice_index FLAGS (tag_of the_type known)) set ≡ is_one_of (names_of set) (name_text known)
unfolding special_names scope_names list_item_scope_names button_scope_names table_scope_names table_body_context_names table_row_context_names implied_names thorough_implied_names heading_names body_end_names head_content_names formatting_names cell_names table_outer_names mathml_text_points mathml_special_names svg_html_points void_names raw_names block_start_names block_end_names
flags_are_right Special A = refl
flags_are_right Special _ = refl
flags_are_right DefaultScope A = refl
flags_are_right DefaultScope _ = refl
flags_are_right ListItemScope A = refl
flags_are_right ListItemScope _ = refl
flags_are_right ButtonScope A = refl
flags_are_right ButtonScope _ = refl
flags_are_right TableScope A = refl
flags_are_right TableScope _ = refl
flags_are_right TableBodyContext A = refl
flags_are_right TableBodyContext _ = refl
flags_are_right TableRowContext A = refl
flags_are_right TableRowContext _ = refl
flags_are_right CursoryImpliedEnd A = refl
flags_are_right CursoryImpliedEnd _ = refl
flags_are_right ThoroughImpliedEnd A = refl
flags_are_right ThoroughImpliedEnd _ = refl
flags_are_right Heading A = refl
flags_are_right Heading _ = refl
flags_are_right BodyEndOk A = refl
flags_are_right BodyEndOk _ = refl
flags_are_right HeadContent A = refl
flags_are_right HeadContent _ = refl
flags_are_right Formatting A = refl
flags_are_right Formatting _ = refl
flags_are_right TdTh A = refl
flags_are_right TdTh _ = refl
flags_are_right TableOuter A = refl
flags_are_right TableOuter _ = refl
flags_are_right MathMlTextPoint A = refl
flags_are_right MathMlTextPoint _ = refl
flags_are_right MathMlSpecial A = refl
flags_are_right MathMlSpecial _ = refl
flags_are_right SvgHtmlPoint A = refl
flags_are_right SvgHtmlPoint _ = refl
flags_are_right Void A = refl
flags_are_right Void _ = refl
flags_are_right RawText A = refl
flags_are_right RawText _ = refl
flags_are_right BlockStart A = refl
flags_are_right BlockStart _ = refl
flags_are_right BlockEnd A = refl
flags_are_right BlockEnd _ = refl

-- HTML knows each name of a set
set_is_known : (set : NameSet) → are_known (names_of set) ≡ true
unfolding special_names scope_names list_item_scope_names button_scope_names table_scope_names table_body_context_names table_row_context_names implied_names thorough_implied_names heading_names body_end_names head_content_names formatting_names cell_names table_outer_names mathml_text_points mathml_special_names svg_html_points void_names raw_names block_start_names block_end_names known_name_of known_names
set_is_known Special = refl
set_is_known _ = refl

-- so a set has a text exactly if it has the text of the text's name
pub held_by_name : (set : NameSet) (text : List ℕ) → is_one_of (names_of set) (name_text (known_name_of text)) ≡ is_one_of (names_of set) text
held_by_name set text = any_by_name (names_of set) text (set_is_known set)
