-- HTML standard, section 13.2.6.4.8, the "text" insertion mode. A start tag, a comment and a null are refused there
-- before any rule is applied.
use Rattle.std.specs.Prelude.{if◌then◌else◌, List, [], ◌∷◌, ◌++◌, codes}
use Rattle.h5_names.specs.AttributeText.{is_same_text}
use Rattle.h5_token.specs.Reply.{RunsScript}
use Rattle.h5_token.specs.TokenText.{TagText}
use Rattle.h5_tables.specs.TurnText.{CommentTurn, EofTurn, NullTurn, TagTurn, TextTurn, TurnText}
use Rattle.h5_builder_spec.specs.ByName.{by_kind}
use Rattle.h5_builder_spec.specs.modes.InTableText.{saved_mode}
use Rattle.h5_builder_spec.specs.Rows.{AgainBy, Answers, AppendText, Change, Ending, IsDone, MarkStarted, Pop, Row, SetMode, errs, ignored, row}
use Rattle.h5_builder_spec.specs.modes.Shared.{current_is}
use Rattle.h5_builder_spec.specs.World.{World, current}

-- an end tag; for a script, the reply names the element that was current
abbrev pub answers_script : TagText → World → Ending
answers_script tag w = if is_same_text tag.name (codes "script") then Answers (RunsScript (current w)) else IsDone

abbrev pub text_end : TagText → World → Row
text_end tag w = row (Pop ∷ SetMode (saved_mode w) ∷ []) (answers_script tag w)

-- the end of the file: a script that is open is marked as started
abbrev pub marks_script : World → List Change
marks_script w = if current_is (codes "script") w then MarkStarted ∷ [] else []

abbrev pub text_mode : TurnText → World → Row
text_mode (TagTurn tag) w = by_kind tag.kind ignored (text_end tag w)
text_mode (CommentTurn text) w = ignored
text_mode (TextTurn status text) w = row (AppendText text ∷ []) IsDone
text_mode NullTurn w = ignored
text_mode EofTurn w = errs (marks_script w ++ Pop ∷ []) (AgainBy saved_mode)
