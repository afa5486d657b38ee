-- The sets of elements.
use Rattle.std.specs.Prelude.{Bool}
use Rattle.h5_names.specs.declared.qualified.QualName.{QualName}
use Rattle.h5_tables.specs.declared.element_sets.ElementSet.{ElementSet}
use Rattle.h5_tables.specs.declared.element_sets.ElementSet.TheVariants.{DefaultScope, ListItemScope, TableScope, TableBodyContext, TableRowContext, CursoryImpliedEnd, ThoroughImpliedEnd, Heading, TdTh, TableOuter}
use Rattle.h5_tables.specs.TagSets.{is_cell, is_default_scope, is_heading, is_implied, is_list_item_scope, is_table_body_context, is_table_outer, is_table_row_context, is_table_scope, is_thorough_implied}

-- true if a set has the elements of a name
abbrev pub holds_element : ElementSet → QualName → Bool
holds_element DefaultScope = is_default_scope
holds_element ListItemScope = is_list_item_scope
holds_element TableScope = is_table_scope
holds_element TableBodyContext = is_table_body_context
holds_element TableRowContext = is_table_row_context
holds_element CursoryImpliedEnd = is_implied
holds_element ThoroughImpliedEnd = is_thorough_implied
holds_element Heading = is_heading
holds_element TdTh = is_cell
holds_element TableOuter = is_table_outer
