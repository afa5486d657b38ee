-- HTML standard, section 13.2.6.4.14, the "in row" insertion mode.
use Rattle.std.specs.Prelude.{List, [], ◌∷◌, ℕ, codes}
use Rattle.h5_token.specs.TokenText.{TagText}
use Rattle.h5_names.specs.declared.known_name.KnownName.TheVariants.{Table, Tr}
use Rattle.h5_tables.specs.TagSets.{cell_names, is_table_row_context}
use Rattle.h5_tables.specs.TurnText.{CommentTurn, EofTurn, NullTurn, TagTurn, TextTurn, TurnText}
use Rattle.h5_tables.specs.declared.modes.InsertionMode.TheVariants.{InCell, InTableBody}
use Rattle.h5_builder_spec.specs.ByName.{AnyOf, Only, Rules, by_kind, by_name, ignored_tag, of_tag}
use Rattle.h5_builder_spec.specs.modes.Shared.{inserts}
use Rattle.h5_builder_spec.specs.modes.InTable.{in_table}
use Rattle.h5_builder_spec.specs.Rows.{Again, Change, Ending, InsertMarker, IsDone, Pop, PopUntilCurrent, Row, SetMode, choose, ignored, row}
use Rattle.h5_builder_spec.specs.modes.Tables.{named_in_table_scope, table_section_names}
use Rattle.h5_builder_spec.specs.World.{World}

-- a start tag "th", "td"
abbrev pub in_row_start_cell : TagText → World → Row
in_row_start_cell tag w = row (PopUntilCurrent is_table_row_context ∷ inserts tag ∷ SetMode InCell ∷ InsertMarker ∷ []) IsDone

-- the row is closed, if one is in table scope
unfoldable pub close_the_row : List Change → Ending → World → Row
close_the_row changes ending w =
    choose (named_in_table_scope (codes "tr") w) (row (PopUntilCurrent is_table_row_context ∷ Pop ∷ changes) ending) ignored

-- an end tag "tr"
abbrev pub in_row_end_row : TagText → World → Row
in_row_end_row tag w = close_the_row (SetMode InTableBody ∷ []) IsDone w

-- a start tag "caption", "col", .., "tr", and an end tag "table"
unfoldable pub row_closing_names : List (List ℕ)
row_closing_names =
    codes "caption" ∷ codes "col" ∷ codes "colgroup" ∷ codes "tbody" ∷ codes "tfoot" ∷ codes "thead" ∷ codes "tr" ∷ []

abbrev pub in_row_close : TagText → World → Row
in_row_close tag w = close_the_row [] (Again InTableBody) w

-- an end tag "tbody", "tfoot", "thead"
unfoldable pub in_row_end_section : TagText → World → Row
in_row_end_section tag w = choose (named_in_table_scope tag.name w) (close_the_row [] (Again InTableBody) w) ignored

-- end tags that are ignored
unfoldable pub in_row_ignored_ends : List (List ℕ)
in_row_ignored_ends = codes "body" ∷ codes "caption" ∷ codes "col" ∷ codes "colgroup" ∷ codes "html" ∷ codes "td" ∷ codes "th" ∷ []

-- start tags, and end tags
unfoldable pub in_row_start : Rules
in_row_start = (AnyOf cell_names, in_row_start_cell) ∷ (AnyOf row_closing_names, in_row_close) ∷ []

unfoldable pub in_row_end : Rules
in_row_end =
    (Only Tr, in_row_end_row) ∷ (Only Table, in_row_close) ∷ (AnyOf table_section_names, in_row_end_section) ∷ (AnyOf in_row_ignored_ends, ignored_tag) ∷ []

unfoldable pub in_row_tag : TagText → World → Row
in_row_tag tag w = by_kind tag.kind (by_name in_row_start (of_tag in_table) tag w) (by_name in_row_end (of_tag in_table) tag w)

abbrev pub in_row : TurnText → World → Row
in_row (TagTurn tag) w = in_row_tag tag w
in_row (CommentTurn text) w = in_table (CommentTurn text) w
in_row (TextTurn status text) w = in_table (TextTurn status text) w
in_row NullTurn w = in_table NullTurn w
in_row EofTurn w = in_table EofTurn w
