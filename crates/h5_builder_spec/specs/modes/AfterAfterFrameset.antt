-- HTML standard, section 13.2.6.4.21, the "after after frameset" insertion mode.
use Rattle.std.specs.Prelude.{[], ◌∷◌}
use Rattle.h5_token.specs.TokenText.{TagText}
use Rattle.h5_tables.specs.TurnText.{CommentTurn, EofTurn, NullTurn, TagTurn, TextTurn, TurnText}
use Rattle.h5_tables.specs.declared.modes.SplitStatus.TheVariants.{NotSplit, NotWhitespace, Whitespace}
use Rattle.h5_builder_spec.specs.modes.AfterFrameset.{after_frameset_start}
use Rattle.h5_builder_spec.specs.ByName.{by_kind, by_name, ignored_tag}
use Rattle.h5_builder_spec.specs.Rows.{AppendCommentToDoc, IsDone, Row, ignored, row}
use Rattle.h5_builder_spec.specs.modes.Shared.{in_body_text}
use Rattle.h5_builder_spec.specs.World.{World}

unfoldable pub after_after_frameset_tag : TagText → World → Row
after_after_frameset_tag tag w = by_kind tag.kind (by_name after_frameset_start ignored_tag tag w) ignored

abbrev pub after_after_frameset : TurnText → World → Row
after_after_frameset (TagTurn tag) w = after_after_frameset_tag tag w
after_after_frameset (CommentTurn text) w = row (AppendCommentToDoc text ∷ []) IsDone
after_after_frameset (TextTurn Whitespace text) w = in_body_text text w
after_after_frameset (TextTurn NotWhitespace text) w = ignored
after_after_frameset (TextTurn NotSplit text) w = ignored
after_after_frameset NullTurn w = ignored
after_after_frameset EofTurn w = row [] IsDone
