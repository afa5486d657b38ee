-- HTML standard, section 13.2.6.4.13, the "in table body" insertion mode.
use Rattle.std.specs.Prelude.{Bool, false, ◌||◌, List, [], ◌∷◌, ℕ, codes}
use Rattle.h5_names.specs.declared.qualified.QualName.{QualName}
use Rattle.h5_token.specs.TokenText.{TagText}
use Rattle.h5_names.specs.declared.known_name.KnownName.TheVariants.{Table, Tr}
use Rattle.h5_tables.specs.TagSets.{cell_names, is_html_named, is_table_body_context}
use Rattle.h5_tables.specs.TurnText.{CommentTurn, EofTurn, NullTurn, TagTurn, TextTurn, TurnText}
use Rattle.h5_tables.specs.declared.modes.InsertionMode.TheVariants.{InRow, InTable}
use Rattle.h5_builder_spec.specs.ByName.{AnyOf, Only, Rules, by_kind, by_name, ignored_tag, of_tag}
use Rattle.h5_builder_spec.specs.modes.Shared.{inserts}
use Rattle.h5_builder_spec.specs.modes.InTable.{in_table}
use Rattle.h5_builder_spec.specs.Rows.{Again, InsertElement, IsDone, Pop, PopUntilCurrent, Row, SetMode, choose, errs, ignored, row}
use Rattle.h5_builder_spec.specs.modes.Tables.{in_table_scope, named_in_table_scope, table_section_names}
use Rattle.h5_builder_spec.specs.World.{World}

-- a start tag "tr"
abbrev pub in_table_body_start_row : TagText → World → Row
in_table_body_start_row tag w = row (PopUntilCurrent is_table_body_context ∷ inserts tag ∷ SetMode InRow ∷ []) IsDone

-- a start tag "th", "td"
abbrev pub in_table_body_start_cell : TagText → World → Row
in_table_body_start_cell tag w = errs (PopUntilCurrent is_table_body_context ∷ InsertElement (codes "tr") [] false ∷ []) (Again InRow)

-- an end tag "tbody", "tfoot", "thead"
unfoldable pub in_table_body_end_section : TagText → World → Row
in_table_body_end_section tag w =
    choose (named_in_table_scope tag.name w) (row (PopUntilCurrent is_table_body_context ∷ Pop ∷ SetMode InTable ∷ []) IsDone) ignored

-- start tags that close the row group
unfoldable pub section_closing_names : List (List ℕ)
section_closing_names = codes "caption" ∷ codes "col" ∷ codes "colgroup" ∷ codes "tbody" ∷ codes "tfoot" ∷ codes "thead" ∷ []

-- a row group
abbrev pub is_table_section : QualName → Bool
is_table_section name = is_html_named (codes "tbody") name || (is_html_named (codes "tfoot") name || is_html_named (codes "thead") name)

-- a start tag "caption", "col", .., "thead", and an end tag "table"
unfoldable pub in_table_body_close : TagText → World → Row
in_table_body_close tag w =
    choose (in_table_scope is_table_section w) (row (PopUntilCurrent is_table_body_context ∷ Pop ∷ []) (Again InTable)) ignored

-- end tags that are ignored
unfoldable pub in_table_body_ignored_ends : List (List ℕ)
in_table_body_ignored_ends =
    codes "body" ∷ codes "caption" ∷ codes "col" ∷ codes "colgroup" ∷ codes "html" ∷ codes "td" ∷ codes "th" ∷ codes "tr" ∷ []

-- start tags, and end tags
unfoldable pub in_table_body_start : Rules
in_table_body_start =
    (Only Tr, in_table_body_start_row) ∷ (AnyOf cell_names, in_table_body_start_cell) ∷ (AnyOf section_closing_names, in_table_body_close) ∷ []

unfoldable pub in_table_body_end : Rules
in_table_body_end =
    (AnyOf table_section_names, in_table_body_end_section) ∷ (Only Table, in_table_body_close) ∷ (AnyOf in_table_body_ignored_ends, ignored_tag) ∷ []

unfoldable pub in_table_body_tag : TagText → World → Row
in_table_body_tag tag w = by_kind tag.kind (by_name in_table_body_start (of_tag in_table) tag w) (by_name in_table_body_end (of_tag in_table) tag w)

abbrev pub in_table_body : TurnText → World → Row
in_table_body (TagTurn tag) w = in_table_body_tag tag w
in_table_body (CommentTurn text) w = in_table (CommentTurn text) w
in_table_body (TextTurn status text) w = in_table (TextTurn status text) w
in_table_body NullTurn w = in_table NullTurn w
in_table_body EofTurn w = in_table EofTurn w
