-- HTML standard, section 13.2.6.4.12, the "in column group" insertion mode.
use Rattle.std.specs.Prelude.{List, [], ◌∷◌, codes}
use Rattle.h5_token.specs.TokenText.{TagText}
use Rattle.h5_names.specs.declared.known_name.KnownName.TheVariants.{Col, Colgroup, Html, Template}
use Rattle.h5_tables.specs.TurnText.{CommentTurn, EofTurn, NullTurn, TagTurn, TextTurn, TurnText}
use Rattle.h5_tables.specs.declared.modes.InsertionMode.TheVariants.{InTable}
use Rattle.h5_tables.specs.declared.modes.SplitStatus.TheVariants.{NotSplit, NotWhitespace, Whitespace}
use Rattle.h5_builder_spec.specs.ByName.{Only, Rules, by_kind, by_name, ignored_tag, of_tag}
use Rattle.h5_builder_spec.specs.modes.InBody.{in_body}
use Rattle.h5_builder_spec.specs.modes.InHead.{in_head_end_template, in_head_start_tag}
use Rattle.h5_builder_spec.specs.Rows.{Again, AppendComment, AppendText, Ending, InsertAndPopElement, IsAcknowledged, IsDone, Pop, Change, Row, SetMode, choose, ignored, row}
use Rattle.h5_builder_spec.specs.modes.Shared.{current_is, in_body_start_html}
use Rattle.h5_builder_spec.specs.World.{World}

-- the column group is closed, if it is the current node
unfoldable pub close_the_column_group : List Change → Ending → World → Row
close_the_column_group changes ending w = choose (current_is (codes "colgroup") w) (row (Pop ∷ changes) ending) ignored

-- a start tag "col"
abbrev pub in_column_group_start_col : TagText → World → Row
in_column_group_start_col tag w = row (InsertAndPopElement tag.name tag.attrs tag.had_duplicate_attributes ∷ []) IsAcknowledged

-- an end tag "colgroup"
abbrev pub in_column_group_end_colgroup : TagText → World → Row
in_column_group_end_colgroup tag w = close_the_column_group (SetMode InTable ∷ []) IsDone w

-- anything else
abbrev pub in_column_group_else : TurnText → World → Row
in_column_group_else t w = close_the_column_group [] (Again InTable) w

-- start tags, and end tags
unfoldable pub in_column_group_start : Rules
in_column_group_start = (Only Html, in_body_start_html) ∷ (Only Col, in_column_group_start_col) ∷ (Only Template, in_head_start_tag) ∷ []

unfoldable pub in_column_group_end : Rules
in_column_group_end = (Only Colgroup, in_column_group_end_colgroup) ∷ (Only Col, ignored_tag) ∷ (Only Template, in_head_end_template) ∷ []

unfoldable pub in_column_group_tag : TagText → World → Row
in_column_group_tag tag w =
    by_kind tag.kind (by_name in_column_group_start (of_tag in_column_group_else) tag w) (by_name in_column_group_end (of_tag in_column_group_else) tag w)

abbrev pub in_column_group : TurnText → World → Row
in_column_group (TagTurn tag) w = in_column_group_tag tag w
in_column_group (CommentTurn text) w = row (AppendComment text ∷ []) IsDone
in_column_group (TextTurn Whitespace text) w = row (AppendText text ∷ []) IsDone
in_column_group (TextTurn NotWhitespace text) w = in_column_group_else (TextTurn NotWhitespace text) w
in_column_group (TextTurn NotSplit text) w = in_column_group_else (TextTurn NotSplit text) w
in_column_group NullTurn w = in_column_group_else NullTurn w
in_column_group EofTurn w = in_body EofTurn w
