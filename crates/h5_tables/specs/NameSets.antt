-- The sets of local names.
use Rattle.std.specs.Prelude.{ℕ, ◌==◌, ◌^◌, Bool, List, bit_and, not}
use Rattle.h5_tables.specs.declared.name_sets.NameSet.{NameSet}
use Rattle.h5_tables.specs.declared.name_sets.NameSet.TheVariants.{Special, DefaultScope, ListItemScope, ButtonScope, TableScope, TableBodyContext, TableRowContext, CursoryImpliedEnd, ThoroughImpliedEnd, Heading, BodyEndOk, HeadContent, Formatting, TdTh, TableOuter, MathMlTextPoint, MathMlSpecial, SvgHtmlPoint, Void, RawText, BlockStart, BlockEnd}
use Rattle.h5_tables.specs.TagSets.{special_names, scope_names, list_item_scope_names, button_scope_names, table_scope_names, table_body_context_names, table_row_context_names, implied_names, thorough_implied_names, heading_names, body_end_names, head_content_names, formatting_names, cell_names, table_outer_names, mathml_text_points, mathml_special_names, svg_html_points, void_names, raw_names, block_start_names, block_end_names}

-- the names of a set
abbrev pub names_of : NameSet → List (List ℕ)
names_of Special = special_names
names_of DefaultScope = scope_names
names_of ListItemScope = list_item_scope_names
names_of ButtonScope = button_scope_names
names_of TableScope = table_scope_names
names_of TableBodyContext = table_body_context_names
names_of TableRowContext = table_row_context_names
names_of CursoryImpliedEnd = implied_names
names_of ThoroughImpliedEnd = thorough_implied_names
names_of Heading = heading_names
names_of BodyEndOk = body_end_names
names_of HeadContent = head_content_names
names_of Formatting = formatting_names
names_of TdTh = cell_names
names_of TableOuter = table_outer_names
names_of MathMlTextPoint = mathml_text_points
names_of MathMlSpecial = mathml_special_names
names_of SvgHtmlPoint = svg_html_points
names_of Void = void_names
names_of RawText = raw_names
names_of BlockStart = block_start_names
names_of BlockEnd = block_end_names

-- the bit of a set in a name's flags
abbrev pub flag_of : NameSet → ℕ
flag_of Special = 2 ^ 0
flag_of DefaultScope = 2 ^ 1
flag_of ListItemScope = 2 ^ 2
flag_of ButtonScope = 2 ^ 3
flag_of TableScope = 2 ^ 4
flag_of TableBodyContext = 2 ^ 5
flag_of TableRowContext = 2 ^ 6
flag_of CursoryImpliedEnd = 2 ^ 7
flag_of ThoroughImpliedEnd = 2 ^ 8
flag_of Heading = 2 ^ 9
flag_of BodyEndOk = 2 ^ 10
flag_of HeadContent = 2 ^ 11
flag_of Formatting = 2 ^ 12
flag_of TdTh = 2 ^ 13
flag_of TableOuter = 2 ^ 14
flag_of MathMlTextPoint = 2 ^ 15
flag_of MathMlSpecial = 2 ^ 16
flag_of SvgHtmlPoint = 2 ^ 17
flag_of Void = 2 ^ 18
flag_of RawText = 2 ^ 19
flag_of BlockStart = 2 ^ 20
flag_of BlockEnd = 2 ^ 21

-- true if the bit of a set is on
abbrev pub has_flag : ℕ → NameSet → Bool
has_flag flags set = not (bit_and flags (flag_of set) == 0)
