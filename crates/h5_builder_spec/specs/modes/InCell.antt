-- HTML standard, section 13.2.6.4.15, the "in cell" insertion mode.
use Rattle.std.specs.Prelude.{List, [], ◌∷◌, ℕ, codes}
use Rattle.h5_token.specs.TokenText.{TagText}
use Rattle.h5_tables.specs.TagSets.{cell_names, is_cell, is_html_named, is_implied}
use Rattle.h5_tables.specs.TurnText.{CommentTurn, EofTurn, NullTurn, TagTurn, TextTurn, TurnText}
use Rattle.h5_tables.specs.declared.modes.InsertionMode.TheVariants.{InRow}
use Rattle.h5_builder_spec.specs.ByName.{AnyOf, Rules, by_kind, by_name, ignored_tag, of_tag}
use Rattle.h5_builder_spec.specs.modes.InBody.{in_body}
use Rattle.h5_builder_spec.specs.Rows.{Again, ClearActiveFormattingToMarker, GenerateImpliedEnd, IsDone, PopUntilCell, PopUntilNamed, Row, SetMode, choose, ignored, row_if}
use Rattle.h5_builder_spec.specs.modes.Shared.{table_structure_names}
use Rattle.h5_builder_spec.specs.modes.Tables.{in_table_scope, named_in_table_scope}
use Rattle.h5_builder_spec.specs.World.{World, names_of}
use Rattle.h5_builder_spec.specs.stack.Expected.{is_expected}

-- an end tag "td", "th"
unfoldable pub in_cell_end_cell : TagText → World → Row
in_cell_end_cell tag w =
    choose (named_in_table_scope tag.name w)
    (row_if (is_expected is_implied (is_html_named tag.name) (names_of w)) (GenerateImpliedEnd ∷ PopUntilNamed tag.name ∷ ClearActiveFormattingToMarker ∷ SetMode InRow ∷ []) IsDone)
    ignored

-- "close the cell", and the token is reprocessed in the mode "in row"
abbrev pub close_the_cell : World → Row
close_the_cell w =
    row_if (is_expected is_implied is_cell (names_of w)) (GenerateImpliedEnd ∷ PopUntilCell ∷ ClearActiveFormattingToMarker ∷ []) (Again InRow)

-- a start tag "caption", "col", .., "tr"
unfoldable pub in_cell_start_structure : TagText → World → Row
in_cell_start_structure tag w = choose (in_table_scope is_cell w) (close_the_cell w) ignored

-- an end tag "table", "tbody", "tfoot", "thead", "tr"
unfoldable pub in_cell_closing_ends : List (List ℕ)
in_cell_closing_ends = codes "table" ∷ codes "tbody" ∷ codes "tfoot" ∷ codes "thead" ∷ codes "tr" ∷ []

unfoldable pub in_cell_end_structure : TagText → World → Row
in_cell_end_structure tag w = choose (named_in_table_scope tag.name w) (close_the_cell w) ignored

-- end tags that are ignored
unfoldable pub in_cell_ignored_ends : List (List ℕ)
in_cell_ignored_ends = codes "body" ∷ codes "caption" ∷ codes "col" ∷ codes "colgroup" ∷ codes "html" ∷ []

-- start tags, and end tags
unfoldable pub in_cell_start : Rules
in_cell_start = (AnyOf table_structure_names, in_cell_start_structure) ∷ []

unfoldable pub in_cell_end : Rules
in_cell_end =
    (AnyOf cell_names, in_cell_end_cell) ∷ (AnyOf in_cell_closing_ends, in_cell_end_structure) ∷ (AnyOf in_cell_ignored_ends, ignored_tag) ∷ []

unfoldable pub in_cell_tag : TagText → World → Row
in_cell_tag tag w = by_kind tag.kind (by_name in_cell_start (of_tag in_body) tag w) (by_name in_cell_end (of_tag in_body) tag w)

abbrev pub in_cell : TurnText → World → Row
in_cell (TagTurn tag) w = in_cell_tag tag w
in_cell (CommentTurn text) w = in_body (CommentTurn text) w
in_cell (TextTurn status text) w = in_body (TextTurn status text) w
in_cell NullTurn w = in_body NullTurn w
in_cell EofTurn w = in_body EofTurn w
