-- HTML standard, section 13.2.6.4.17, the "after body" insertion mode.
use Rattle.std.specs.Prelude.{[], ◌∷◌, is_some}
use Rattle.h5_token.specs.TokenText.{TagText}
use Rattle.h5_names.specs.declared.known_name.KnownName.TheVariants.{Html}
use Rattle.h5_tables.specs.TurnText.{CommentTurn, EofTurn, NullTurn, TagTurn, TextTurn, TurnText}
use Rattle.h5_tables.specs.declared.modes.InsertionMode.TheVariants.{AfterAfterBody, InBody}
use Rattle.h5_tables.specs.declared.modes.SplitStatus.TheVariants.{NotSplit, NotWhitespace, Whitespace}
use Rattle.h5_builder_spec.specs.ByName.{Only, Rules, by_kind, by_name, of_tag}
use Rattle.h5_builder_spec.specs.Rows.{Again, AppendCommentToHtml, IsDone, Row, SetMode, choose, errs, ignored, row}
use Rattle.h5_builder_spec.specs.modes.Shared.{in_body_start_html, in_body_text}
use Rattle.h5_builder_spec.specs.World.{World}

-- an end tag "html"
abbrev pub after_body_end_html : TagText → World → Row
after_body_end_html tag w = choose (is_some w.context) ignored (row (SetMode AfterAfterBody ∷ []) IsDone)

-- anything else, here and in "after after body"
abbrev pub back_to_body : TurnText → World → Row
back_to_body t w = errs [] (Again InBody)

-- start tags, and end tags
unfoldable pub after_body_start : Rules
after_body_start = (Only Html, in_body_start_html) ∷ []

unfoldable pub after_body_end : Rules
after_body_end = (Only Html, after_body_end_html) ∷ []

unfoldable pub after_body_tag : TagText → World → Row
after_body_tag tag w = by_kind tag.kind (by_name after_body_start (of_tag back_to_body) tag w) (by_name after_body_end (of_tag back_to_body) tag w)

abbrev pub after_body : TurnText → World → Row
after_body (TagTurn tag) w = after_body_tag tag w
after_body (CommentTurn text) w = row (AppendCommentToHtml text ∷ []) IsDone
after_body (TextTurn Whitespace text) w = in_body_text text w
after_body (TextTurn NotWhitespace text) w = back_to_body (TextTurn NotWhitespace text) w
after_body (TextTurn NotSplit text) w = back_to_body (TextTurn NotSplit text) w
after_body NullTurn w = back_to_body NullTurn w
after_body EofTurn w = row [] IsDone
