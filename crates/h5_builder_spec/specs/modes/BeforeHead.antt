-- HTML standard, section 13.2.6.4.3, the "before head" insertion mode.
use Rattle.std.specs.Prelude.{false, [], ◌∷◌}
use Rattle.h5_token.specs.TokenText.{TagText}
use Rattle.h5_names.specs.declared.known_name.KnownName.TheVariants.{Head, Html}
use Rattle.h5_tables.specs.TurnText.{CommentTurn, EofTurn, NullTurn, TagTurn, TextTurn, TurnText}
use Rattle.h5_tables.specs.declared.modes.InsertionMode.TheVariants.{InHead}
use Rattle.h5_tables.specs.declared.modes.SplitStatus.TheVariants.{NotSplit, NotWhitespace, Whitespace}
use Rattle.h5_builder_spec.specs.ByName.{AnyOf, Only, Rules, by_kind, by_name, ignored_tag, of_tag, outer_names}
use Rattle.h5_builder_spec.specs.Rows.{Again, AppendComment, InsertHead, IsDone, Row, SetMode, row}
use Rattle.h5_builder_spec.specs.modes.Shared.{in_body_start_html}
use Rattle.h5_builder_spec.specs.World.{World}

-- a start tag "head"
abbrev pub before_head_start_head : TagText → World → Row
before_head_start_head tag w = row (InsertHead tag.attrs tag.had_duplicate_attributes ∷ SetMode InHead ∷ []) IsDone

-- anything else
abbrev pub before_head_else : TurnText → World → Row
before_head_else t w = row (InsertHead [] false ∷ []) (Again InHead)

-- start tags, and end tags
unfoldable pub before_head_start : Rules
before_head_start = (Only Html, in_body_start_html) ∷ (Only Head, before_head_start_head) ∷ []

unfoldable pub before_head_end : Rules
before_head_end = (AnyOf outer_names, of_tag before_head_else) ∷ []

unfoldable pub before_head_tag : TagText → World → Row
before_head_tag tag w = by_kind tag.kind (by_name before_head_start (of_tag before_head_else) tag w) (by_name before_head_end ignored_tag tag w)

abbrev pub before_head : TurnText → World → Row
before_head (TagTurn tag) w = before_head_tag tag w
before_head (CommentTurn text) w = row (AppendComment text ∷ []) IsDone
before_head (TextTurn Whitespace text) w = row [] IsDone
before_head (TextTurn NotWhitespace text) w = before_head_else (TextTurn NotWhitespace text) w
before_head (TextTurn NotSplit text) w = before_head_else (TextTurn NotSplit text) w
before_head NullTurn w = before_head_else NullTurn w
before_head EofTurn w = before_head_else EofTurn w
