-- HTML standard, section 13.2.6.4.9, the "in table" insertion mode.
use Rattle.std.specs.Prelude.{Bool, false, ◌||◌, List, [], ◌∷◌, ℕ, codes, is_some}
use Rattle.h5_token.specs.TokenText.{TagText}
use Rattle.h5_names.specs.declared.known_name.KnownName.TheVariants.{Caption, Col, Colgroup, Form, Input, Table, Template}
use Rattle.h5_tables.specs.TagSets.{is_table_outer, is_table_scope}
use Rattle.h5_builder_spec.specs.stack.Scope.{first_passes, has_template}
use Rattle.h5_tables.specs.TurnText.{CommentTurn, EofTurn, NullTurn, TagTurn, TextTurn, TurnText}
use Rattle.h5_tables.specs.declared.modes.InsertionMode.TheVariants.{InCaption, InColumnGroup, InTableBody, InTableText}
use Rattle.h5_builder_spec.specs.ByName.{AnyOf, Only, Rules, by_kind, by_name, ignored_tag, of_tag}
use Rattle.h5_builder_spec.specs.modes.InBody.{in_body}
use Rattle.h5_builder_spec.specs.reset.Reset.{reset_mode}
use Rattle.h5_builder_spec.specs.Rows.{Again, AgainBy, AppendComment, InsertAndPopElement, InsertAndPopForm, InsertElement, InsertMarker, IsAcknowledged, IsDone, PopUntilCurrent, PopUntilNamed, ResetMode, Row, SaveMode, SetMode, choose, errs, ignored, row}
use Rattle.h5_builder_spec.specs.modes.Tables.{foster, named_in_table_scope, table_section_names}
use Rattle.h5_builder_spec.specs.World.{World, names_of}
use Rattle.h5_builder_spec.specs.modes.Shared.{inserts, is_type_hidden}
use Rattle.h5_builder_spec.specs.modes.InHead.{in_head_end_template, in_head_start_tag}

-- the current node is one in which text of a table is buffered
abbrev pub keeps_text : World → Bool
keeps_text w = first_passes is_table_outer (names_of w)

-- a text, or a null
unfoldable pub in_table_text_or_null : TurnText → World → Row
in_table_text_or_null t w = choose (keeps_text w) (row (SaveMode ∷ []) (Again InTableText)) (foster in_body t w)

-- a start tag "caption"
abbrev pub in_table_start_caption : TagText → World → Row
in_table_start_caption tag w = row (PopUntilCurrent is_table_scope ∷ InsertMarker ∷ inserts tag ∷ SetMode InCaption ∷ []) IsDone

-- a start tag "colgroup"
abbrev pub in_table_start_colgroup : TagText → World → Row
in_table_start_colgroup tag w = row (PopUntilCurrent is_table_scope ∷ inserts tag ∷ SetMode InColumnGroup ∷ []) IsDone

-- a start tag "col"
abbrev pub in_table_start_col : TagText → World → Row
in_table_start_col tag w = row (PopUntilCurrent is_table_scope ∷ InsertElement (codes "colgroup") [] false ∷ []) (Again InColumnGroup)

-- a start tag "tbody", "tfoot", "thead"
abbrev pub in_table_start_section : TagText → World → Row
in_table_start_section tag w = row (PopUntilCurrent is_table_scope ∷ inserts tag ∷ SetMode InTableBody ∷ []) IsDone

-- a start tag "td", "th", "tr"
unfoldable pub row_part_names : List (List ℕ)
row_part_names = codes "td" ∷ codes "th" ∷ codes "tr" ∷ []

abbrev pub in_table_start_row_part : TagText → World → Row
in_table_start_row_part tag w = row (PopUntilCurrent is_table_scope ∷ InsertElement (codes "tbody") [] false ∷ []) (Again InTableBody)

-- a start tag "table"
unfoldable pub in_table_start_table : TagText → World → Row
in_table_start_table tag w =
    choose (named_in_table_scope (codes "table") w) (errs (PopUntilNamed (codes "table") ∷ []) (AgainBy reset_mode)) ignored

-- a start tag "style", "script", "template"
unfoldable pub table_text_names : List (List ℕ)
table_text_names = codes "style" ∷ codes "script" ∷ codes "template" ∷ []

-- a start tag "input"
unfoldable pub in_table_start_input : TagText → World → Row
in_table_start_input tag w =
    choose (is_type_hidden tag.attrs) (errs (InsertAndPopElement tag.name tag.attrs tag.had_duplicate_attributes ∷ []) IsAcknowledged)
    (foster in_body (TagTurn tag) w)

-- a start tag "form"
unfoldable pub in_table_start_form : TagText → World → Row
in_table_start_form tag w =
    choose (has_template (names_of w) || is_some w.form) ignored (errs (InsertAndPopForm tag.attrs tag.had_duplicate_attributes ∷ []) IsDone)

-- an end tag "table"
unfoldable pub in_table_end_table : TagText → World → Row
in_table_end_table tag w = choose (named_in_table_scope (codes "table") w) (row (PopUntilNamed (codes "table") ∷ ResetMode ∷ []) IsDone) ignored

-- end tags that are ignored
unfoldable pub in_table_ignored_ends : List (List ℕ)
in_table_ignored_ends =
    codes "body" ∷ codes "caption" ∷ codes "col" ∷ codes "colgroup" ∷ codes "html" ∷ codes "tbody" ∷ codes "td" ∷
    codes "tfoot" ∷ codes "th" ∷ codes "thead" ∷ codes "tr" ∷ []

-- anything else
abbrev pub in_table_else : TurnText → World → Row
in_table_else t w = foster in_body t w

-- start tags, and end tags
unfoldable pub in_table_start : Rules
in_table_start =
    (Only Caption, in_table_start_caption) ∷
    (Only Colgroup, in_table_start_colgroup) ∷
    (Only Col, in_table_start_col) ∷
    (AnyOf table_section_names, in_table_start_section) ∷
    (AnyOf row_part_names, in_table_start_row_part) ∷
    (Only Table, in_table_start_table) ∷
    (AnyOf table_text_names, in_head_start_tag) ∷
    (Only Input, in_table_start_input) ∷
    (Only Form, in_table_start_form) ∷ []

unfoldable pub in_table_end : Rules
in_table_end = (Only Table, in_table_end_table) ∷ (AnyOf in_table_ignored_ends, ignored_tag) ∷ (Only Template, in_head_end_template) ∷ []

unfoldable pub in_table_tag : TagText → World → Row
in_table_tag tag w = by_kind tag.kind (by_name in_table_start (of_tag in_table_else) tag w) (by_name in_table_end (of_tag in_table_else) tag w)

abbrev pub in_table : TurnText → World → Row
in_table (TagTurn tag) w = in_table_tag tag w
in_table (CommentTurn text) w = row (AppendComment text ∷ []) IsDone
in_table (TextTurn status text) w = in_table_text_or_null (TextTurn status text) w
in_table NullTurn w = in_table_text_or_null NullTurn w
in_table EofTurn w = in_body EofTurn w
