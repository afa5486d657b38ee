-- HTML standard, section 13.2.6.4.18, the "in frameset" insertion mode.
use Rattle.std.specs.Prelude.{Bool, true, false, not, ◌&&◌, List, [], ◌∷◌, codes, is_some}
use Rattle.h5_names.specs.declared.qualified.QualName.{QualName}
use Rattle.h5_token.specs.TokenText.{TagText}
use Rattle.h5_names.specs.declared.known_name.KnownName.TheVariants.{Frame, Frameset, Html, Noframes}
use Rattle.h5_tables.specs.TagSets.{is_html_named}
use Rattle.h5_tables.specs.TurnText.{CommentTurn, EofTurn, NullTurn, TagTurn, TextTurn, TurnText}
use Rattle.h5_tables.specs.declared.modes.InsertionMode.TheVariants.{AfterFrameset}
use Rattle.h5_tables.specs.declared.modes.SplitStatus.TheVariants.{NotSplit, NotWhitespace, Whitespace}
use Rattle.h5_builder_spec.specs.ByName.{Only, Rules, by_kind, by_name, ignored_tag}
use Rattle.h5_builder_spec.specs.modes.InHead.{in_head_start_tag}
use Rattle.h5_builder_spec.specs.Rows.{AppendComment, AppendText, InsertAndPopElement, IsAcknowledged, IsDone, Pop, Row, SetMode, choose, ignored, row, row_if}
use Rattle.h5_builder_spec.specs.modes.Shared.{in_body_start_html, inserts}
use Rattle.h5_builder_spec.specs.World.{World, names_of}

-- a start tag "frameset"
abbrev pub in_frameset_start_frameset : TagText → World → Row
in_frameset_start_frameset tag w = row (inserts tag ∷ []) IsDone

-- a start tag "frame"
abbrev pub in_frameset_start_frame : TagText → World → Row
in_frameset_start_frame tag w = row (InsertAndPopElement tag.name tag.attrs tag.had_duplicate_attributes ∷ []) IsAcknowledged

-- only the root is open
abbrev pub is_root_alone : List QualName → Bool
is_root_alone [] = false
is_root_alone (n ∷ []) = true
is_root_alone (n ∷ m ∷ ns) = false

-- the element next older than the current node is a `frameset`
abbrev pub is_in_frameset : List QualName → Bool
is_in_frameset [] = false
is_in_frameset (n ∷ []) = false
is_in_frameset (n ∷ m ∷ ns) = is_html_named (codes "frameset") m

-- an end tag "frameset"
unfoldable pub in_frameset_end_frameset : TagText → World → Row
in_frameset_end_frameset tag w =
    choose (is_root_alone (names_of w)) ignored
    (choose (not (is_some w.context) && not (is_in_frameset (names_of w))) (row (Pop ∷ SetMode AfterFrameset ∷ []) IsDone) (row (Pop ∷ []) IsDone))

-- start tags, and end tags
unfoldable pub in_frameset_start : Rules
in_frameset_start =
    (Only Html, in_body_start_html) ∷ (Only Frameset, in_frameset_start_frameset) ∷ (Only Frame, in_frameset_start_frame) ∷ (Only Noframes, in_head_start_tag) ∷ []

unfoldable pub in_frameset_end : Rules
in_frameset_end = (Only Frameset, in_frameset_end_frameset) ∷ []

unfoldable pub in_frameset_tag : TagText → World → Row
in_frameset_tag tag w = by_kind tag.kind (by_name in_frameset_start ignored_tag tag w) (by_name in_frameset_end ignored_tag tag w)

abbrev pub in_frameset : TurnText → World → Row
in_frameset (TagTurn tag) w = in_frameset_tag tag w
in_frameset (CommentTurn text) w = row (AppendComment text ∷ []) IsDone
in_frameset (TextTurn Whitespace text) w = row (AppendText text ∷ []) IsDone
in_frameset (TextTurn NotWhitespace text) w = ignored
in_frameset (TextTurn NotSplit text) w = ignored
in_frameset NullTurn w = ignored
in_frameset EofTurn w = row_if (is_root_alone (names_of w)) [] IsDone
