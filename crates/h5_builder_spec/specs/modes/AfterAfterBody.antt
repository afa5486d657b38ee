-- HTML standard, section 13.2.6.4.20, the "after after body" insertion mode.
use Rattle.std.specs.Prelude.{[], ◌∷◌}
use Rattle.h5_token.specs.TokenText.{TagText}
use Rattle.h5_names.specs.declared.known_name.KnownName.TheVariants.{Html}
use Rattle.h5_tables.specs.TurnText.{CommentTurn, EofTurn, NullTurn, TagTurn, TextTurn, TurnText}
use Rattle.h5_tables.specs.declared.modes.SplitStatus.TheVariants.{NotSplit, NotWhitespace, Whitespace}
use Rattle.h5_builder_spec.specs.modes.AfterBody.{back_to_body}
use Rattle.h5_builder_spec.specs.ByName.{Only, Rules, by_kind, by_name, of_tag}
use Rattle.h5_builder_spec.specs.Rows.{AppendCommentToDoc, IsDone, Row, row}
use Rattle.h5_builder_spec.specs.modes.Shared.{in_body_start_html, in_body_text}
use Rattle.h5_builder_spec.specs.World.{World}

-- start tags, and end tags
unfoldable pub after_after_body_start : Rules
after_after_body_start = (Only Html, in_body_start_html) ∷ []

unfoldable pub after_after_body_tag : TagText → World → Row
after_after_body_tag tag w = by_kind tag.kind (by_name after_after_body_start (of_tag back_to_body) tag w) (back_to_body (TagTurn tag) w)

abbrev pub after_after_body : TurnText → World → Row
after_after_body (TagTurn tag) w = after_after_body_tag tag w
after_after_body (CommentTurn text) w = row (AppendCommentToDoc text ∷ []) IsDone
after_after_body (TextTurn Whitespace text) w = in_body_text text w
after_after_body (TextTurn NotWhitespace text) w = back_to_body (TextTurn NotWhitespace text) w
after_after_body (TextTurn NotSplit text) w = back_to_body (TextTurn NotSplit text) w
after_after_body NullTurn w = back_to_body NullTurn w
after_after_body EofTurn w = row [] IsDone
