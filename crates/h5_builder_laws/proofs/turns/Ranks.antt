-- How many turns a token can still take at most, by its kind, the mode and the roles of the open elements.
use Rattle.std.proofs.Common.{◌≡◌, ℕ, ◌+◌, ◌*◌, Bool, true, false, cond, List, [], ◌∷◌, Option, Some, None}
use Rattle.h5_tables.specs.declared.modes.InsertionMode.{InsertionMode}
use Rattle.h5_tables.specs.declared.modes.InsertionMode.TheVariants.{Initial, BeforeHtml, BeforeHead, InHead, InHeadNoscript, AfterHead, InBody, Text, InTable, InTableText, InCaption, InColumnGroup, InTableBody, InRow, InCell, InTemplate, AfterBody, InFrameset, AfterFrameset, AfterAfterBody, AfterAfterFrameset}
use Rattle.h5_builder_spec.specs.reset.Situation.{Situation}
use Rattle.h5_builder_spec.specs.reset.Roles.{ColgroupRole, HeadRole, HtmlRole, Role, TableRole, count_roles, has_role, is_template, later_roles}

-- the kinds of tokens that the rules of tables, of the body's end and of the file's end distinguish: the end of the
-- file; a run of text or a null; an end tag `html`; a start tag `table`; `td` or `th`; `tr`; `col`; `caption`,
-- `colgroup`, `tbody`, `tfoot` or `thead`; an end tag `table`, `tbody`, `tfoot`, `thead` or `tr`; any other
pub data TurnKind : Type 0 where
  EofTurns : TurnKind
  TextTurns : TurnKind
  EndHtmlTurns : TurnKind
  StartTableTurns : TurnKind
  CellTurns : TurnKind
  RowTurns : TurnKind
  ColTurns : TurnKind
  PartTurns : TurnKind
  EndPartTurns : TurnKind
  OtherTurns : TurnKind

-- how far a mode is from the body
abbrev pub chain : InsertionMode → ℕ
chain Initial = 5
chain BeforeHtml = 4
chain BeforeHead = 3
chain InHeadNoscript = 3
chain InHead = 2
chain AfterHead = 1
chain AfterBody = 1
chain AfterAfterBody = 1
chain _ = 0

abbrev pub is_frameset_mode : InsertionMode → Bool
is_frameset_mode InFrameset = true
is_frameset_mode AfterFrameset = true
is_frameset_mode AfterAfterFrameset = true
is_frameset_mode _ = false

-- an `html` or a `head`
abbrev pub is_early : Role → Bool
is_early HtmlRole = true
is_early HeadRole = true
is_early _ = false

-- how many of them lie below the newest template
abbrev pub early_below : List Role → ℕ
early_below [] = 0
early_below (n ∷ ns) = cond (is_template n) (count_roles is_early ns) (early_below ns)

-- what the end of the file takes in the body: each template is closed, and after it a mode before the body may come
abbrev pub eof_weight : List Role → ℕ
eof_weight ns = cond (has_role is_template ns) (count_roles is_template ns + 3 * early_below ns + 1) 1

abbrev pub eof_rank : InsertionMode → List Role → ℕ
eof_rank AfterBody ns = 1
eof_rank AfterAfterBody ns = 1
eof_rank m ns = cond (is_frameset_mode m) 1 (chain m + eof_weight ns)

-- a table or a column group
abbrev pub is_table_like : Role → Bool
is_table_like TableRole = true
is_table_like ColgroupRole = true
is_table_like _ = false

-- outside of tables
abbrev pub outside : InsertionMode → ℕ
outside m = cond (is_frameset_mode m) 1 (chain m + 1)

abbrev pub outside_end_html : InsertionMode → ℕ
outside_end_html AfterBody = 1
outside_end_html AfterAfterBody = 3
outside_end_html m = cond (is_frameset_mode m) 1 (chain m + 2)

-- a row of the table of ranks
abbrev pub by_mode : (cell row section table caption colgroup template : ℕ) → ℕ → InsertionMode → ℕ
by_mode cell row section table caption colgroup template other InCell = cell
by_mode cell row section table caption colgroup template other InRow = row
by_mode cell row section table caption colgroup template other InTableBody = section
by_mode cell row section table caption colgroup template other InTable = table
by_mode cell row section table caption colgroup template other InCaption = caption
by_mode cell row section table caption colgroup template other InColumnGroup = colgroup
by_mode cell row section table caption colgroup template other InTemplate = template
by_mode cell row section table caption colgroup template other m = other

-- but in the modes that are left for a text
abbrev pub rank_in : TurnKind → InsertionMode → List Role → ℕ
rank_in EofTurns m ns = eof_rank m ns
rank_in TextTurns m ns = by_mode 1 2 2 2 1 3 1 (outside m) m
rank_in EndHtmlTurns m ns = by_mode 1 1 1 1 1 2 2 (outside_end_html m) m
rank_in StartTableTurns m ns =
    let n : ℕ = count_roles is_table_like ns in
    by_mode 1 (n + 4) (n + 4) (n + 4) 1 (n + 4) 2 (outside m) m
rank_in CellTurns m ns = by_mode 2 1 2 3 4 4 2 (outside m) m
rank_in RowTurns m ns = by_mode 3 2 1 2 3 3 2 (outside m) m
rank_in ColTurns m ns = by_mode 5 4 3 2 3 1 2 (outside m) m
rank_in PartTurns m ns = by_mode 4 3 2 1 2 2 2 (outside m) m
rank_in EndPartTurns m ns = by_mode 4 3 2 1 2 2 1 (outside m) m
rank_in OtherTurns m ns = by_mode 1 1 1 1 1 2 2 (outside m) m

abbrev pub rank_saved : TurnKind → Option InsertionMode → List Role → ℕ
rank_saved c None ns = 1
rank_saved c (Some m) ns = 1 + rank_in c m ns

abbrev pub rank : TurnKind → Situation → InsertionMode → List Role → ℕ
rank EofTurns s Text ns = rank_saved EofTurns s.saved_mode (later_roles ns)
rank c s Text ns = 1
rank TextTurns s InTableText ns = 1
rank c s InTableText ns = rank_saved c s.saved_mode ns
rank c s m ns = rank_in c m ns

-- an end tag `html` and the end of the file aren't sent back by the mode after the body, nor the latter by the next
abbrev pub leaves_body_end : TurnKind → Bool
leaves_body_end EofTurns = false
leaves_body_end EndHtmlTurns = false
leaves_body_end _ = true

abbrev pub is_eof : TurnKind → Bool
is_eof EofTurns = true
is_eof _ = false

-- a token of this kind goes from one mode to another and takes a turn there: the modes in order before the body, out of
-- the modes after it, and from table mode to table mode
pub data Again : TurnKind → InsertionMode → InsertionMode → Type 0 where
  initial : (c : TurnKind) → Again c Initial BeforeHtml
  before_html : (c : TurnKind) → Again c BeforeHtml BeforeHead
  before_head : (c : TurnKind) → Again c BeforeHead InHead
  in_head_noscript : (c : TurnKind) → Again c InHeadNoscript InHead
  in_head : (c : TurnKind) → Again c InHead AfterHead
  after_head : (c : TurnKind) → Again c AfterHead InBody
  after_body : (c : TurnKind) → leaves_body_end c ≡ true → Again c AfterBody InBody
  after_after_body : (c : TurnKind) → is_eof c ≡ false → Again c AfterAfterBody InBody
  end_html : Again EndHtmlTurns InBody AfterBody
  cell_of_cell : Again CellTurns InCell InRow
  cell_of_caption : Again CellTurns InCaption InTable
  cell_of_colgroup : Again CellTurns InColumnGroup InTable
  cell_of_table : Again CellTurns InTable InTableBody
  cell_of_section : Again CellTurns InTableBody InRow
  cell_of_template : Again CellTurns InTemplate InRow
  row_of_cell : Again RowTurns InCell InRow
  row_of_row : Again RowTurns InRow InTableBody
  row_of_caption : Again RowTurns InCaption InTable
  row_of_colgroup : Again RowTurns InColumnGroup InTable
  row_of_table : Again RowTurns InTable InTableBody
  row_of_template : Again RowTurns InTemplate InTableBody
  col_of_cell : Again ColTurns InCell InRow
  col_of_row : Again ColTurns InRow InTableBody
  col_of_section : Again ColTurns InTableBody InTable
  col_of_caption : Again ColTurns InCaption InTable
  col_of_table : Again ColTurns InTable InColumnGroup
  col_of_template : Again ColTurns InTemplate InColumnGroup
  part_of_cell : Again PartTurns InCell InRow
  part_of_row : Again PartTurns InRow InTableBody
  part_of_section : Again PartTurns InTableBody InTable
  part_of_caption : Again PartTurns InCaption InTable
  part_of_colgroup : Again PartTurns InColumnGroup InTable
  part_of_template : Again PartTurns InTemplate InTable
  end_part_of_cell : Again EndPartTurns InCell InRow
  end_part_of_row : Again EndPartTurns InRow InTableBody
  end_part_of_section : Again EndPartTurns InTableBody InTable
  end_part_of_caption : Again EndPartTurns InCaption InTable
  end_part_of_colgroup : Again EndPartTurns InColumnGroup InTable
  other_of_colgroup : Again OtherTurns InColumnGroup InTable
  end_html_of_colgroup : Again EndHtmlTurns InColumnGroup InTable
  text_of_colgroup : Again TextTurns InColumnGroup InTable
  text_of_table : Again TextTurns InTable InTableText
  text_of_section : Again TextTurns InTableBody InTableText
  text_of_row : Again TextTurns InRow InTableText
  other_of_template : Again OtherTurns InTemplate InBody
  start_table_of_template : Again StartTableTurns InTemplate InBody
