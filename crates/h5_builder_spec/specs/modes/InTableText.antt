-- HTML standard, section 13.2.6.4.10, the "in table text" insertion mode.
use Rattle.std.specs.Prelude.{List, [], ◌∷◌, ℕ, unwrap_or}
use Rattle.h5_tables.specs.TurnText.{CommentTurn, EofTurn, NullTurn, TagTurn, TextTurn, TurnText}
use Rattle.h5_tables.specs.declared.modes.InsertionMode.{InsertionMode}
use Rattle.h5_tables.specs.declared.modes.InsertionMode.TheVariants.{InTable}
use Rattle.h5_tables.specs.declared.modes.SplitStatus.TheVariants.{NotSplit}
use Rattle.h5_builder_spec.specs.Blanks.{all_blank}
use Rattle.h5_builder_spec.specs.modes.InBody.{in_body}
use Rattle.h5_builder_spec.specs.Rows.{AgainBy, AppendPendingText, AppendText, IsDone, Row, TakePendingText, choose, ignored, row}
use Rattle.h5_builder_spec.specs.modes.Tables.{foster}
use Rattle.h5_builder_spec.specs.World.{World}

-- the mode that was left
abbrev pub saved_mode : World → InsertionMode
saved_mode w = unwrap_or w.saved_mode InTable

-- the pending text: if it is all whitespace, it is inserted where it came; otherwise it is handled by the rules of "in
-- body", with foster parenting on
unfoldable pub pending_text : List ℕ → World → Row
pending_text [] w = row [] IsDone
pending_text (b ∷ t) w = choose (all_blank (b ∷ t)) (row (AppendText (b ∷ t) ∷ []) IsDone) (foster in_body (TextTurn NotSplit (b ∷ t)) w)

-- anything else: the pending text comes first, and then the token in the mode that was left
unfoldable pub in_table_text_else : TurnText → World → Row
in_table_text_else t w =
    let r = pending_text w.pending w in record r { changes = TakePendingText ∷ r.changes; ending = AgainBy saved_mode }

abbrev pub in_table_text : TurnText → World → Row
in_table_text (TextTurn status text) w = row (AppendPendingText text ∷ []) IsDone
in_table_text NullTurn w = ignored
in_table_text (TagTurn tag) w = in_table_text_else (TagTurn tag) w
in_table_text (CommentTurn text) w = in_table_text_else (CommentTurn text) w
in_table_text EofTurn w = in_table_text_else EofTurn w
