-- HTML standard, section 13.2.6.4.1, the "initial" insertion mode.
use Rattle.std.specs.Prelude.{[], ◌∷◌}
use Rattle.h5_interface.specs.declared.marks.QuirksMode.TheVariants.{Quirks}
use Rattle.h5_tables.specs.TurnText.{CommentTurn, EofTurn, NullTurn, TagTurn, TextTurn, TurnText}
use Rattle.h5_tables.specs.declared.modes.InsertionMode.TheVariants.{BeforeHtml}
use Rattle.h5_tables.specs.declared.modes.SplitStatus.TheVariants.{NotSplit, NotWhitespace, Whitespace}
use Rattle.h5_builder_spec.specs.Rows.{Again, AppendCommentToDoc, IsDone, Row, SetQuirksMode, choose, errs, row}
use Rattle.h5_builder_spec.specs.World.{World}

-- anything else
unfoldable pub initial_else : TurnText → World → Row
initial_else t w = choose w.options.iframe_srcdoc (row [] (Again BeforeHtml)) (errs (SetQuirksMode Quirks ∷ []) (Again BeforeHtml))

abbrev pub initial : TurnText → World → Row
initial (TagTurn tag) w = initial_else (TagTurn tag) w
initial (CommentTurn text) w = row (AppendCommentToDoc text ∷ []) IsDone
initial (TextTurn Whitespace text) w = row [] IsDone
initial (TextTurn NotWhitespace text) w = initial_else (TextTurn NotWhitespace text) w
initial (TextTurn NotSplit text) w = initial_else (TextTurn NotSplit text) w
initial NullTurn w = initial_else NullTurn w
initial EofTurn w = initial_else EofTurn w
