-- HTML standard, section 13.2.6.4.19, the "after frameset" insertion mode.
use Rattle.std.specs.Prelude.{[], ◌∷◌}
use Rattle.h5_token.specs.TokenText.{TagText}
use Rattle.h5_names.specs.declared.known_name.KnownName.TheVariants.{Html, Noframes}
use Rattle.h5_tables.specs.TurnText.{CommentTurn, EofTurn, NullTurn, TagTurn, TextTurn, TurnText}
use Rattle.h5_tables.specs.declared.modes.InsertionMode.TheVariants.{AfterAfterFrameset}
use Rattle.h5_tables.specs.declared.modes.SplitStatus.TheVariants.{NotSplit, NotWhitespace, Whitespace}
use Rattle.h5_builder_spec.specs.ByName.{Only, Rules, by_kind, by_name, ignored_tag}
use Rattle.h5_builder_spec.specs.modes.InHead.{in_head_start_tag}
use Rattle.h5_builder_spec.specs.Rows.{AppendComment, AppendText, IsDone, Row, SetMode, ignored, row}
use Rattle.h5_builder_spec.specs.modes.Shared.{in_body_start_html}
use Rattle.h5_builder_spec.specs.World.{World}

-- an end tag "html"
abbrev pub after_frameset_end_html : TagText → World → Row
after_frameset_end_html tag w = row (SetMode AfterAfterFrameset ∷ []) IsDone

-- start tags, here and in "after after frameset", and end tags
unfoldable pub after_frameset_start : Rules
after_frameset_start = (Only Html, in_body_start_html) ∷ (Only Noframes, in_head_start_tag) ∷ []

unfoldable pub after_frameset_end : Rules
after_frameset_end = (Only Html, after_frameset_end_html) ∷ []

unfoldable pub after_frameset_tag : TagText → World → Row
after_frameset_tag tag w = by_kind tag.kind (by_name after_frameset_start ignored_tag tag w) (by_name after_frameset_end ignored_tag tag w)

abbrev pub after_frameset : TurnText → World → Row
after_frameset (TagTurn tag) w = after_frameset_tag tag w
after_frameset (CommentTurn text) w = row (AppendComment text ∷ []) IsDone
after_frameset (TextTurn Whitespace text) w = row (AppendText text ∷ []) IsDone
after_frameset (TextTurn NotWhitespace text) w = ignored
after_frameset (TextTurn NotSplit text) w = ignored
after_frameset NullTurn w = ignored
after_frameset EofTurn w = row [] IsDone
