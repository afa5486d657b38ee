-- HTML standard, section 13.2.6.4.2, the "before html" insertion mode.
use Rattle.std.specs.Prelude.{[], ◌∷◌}
use Rattle.h5_token.specs.TokenText.{TagText}
use Rattle.h5_names.specs.declared.known_name.KnownName.TheVariants.{Html}
use Rattle.h5_tables.specs.TurnText.{CommentTurn, EofTurn, NullTurn, TagTurn, TextTurn, TurnText}
use Rattle.h5_tables.specs.declared.modes.InsertionMode.TheVariants.{BeforeHead}
use Rattle.h5_tables.specs.declared.modes.SplitStatus.TheVariants.{NotSplit, NotWhitespace, Whitespace}
use Rattle.h5_builder_spec.specs.ByName.{AnyOf, Only, Rules, by_kind, by_name, ignored_tag, of_tag, outer_names}
use Rattle.h5_builder_spec.specs.Rows.{Again, AppendCommentToDoc, CreateRoot, IsDone, Row, SetMode, row}
use Rattle.h5_builder_spec.specs.World.{World}

-- anything else
abbrev pub before_html_else : TurnText → World → Row
before_html_else t w = row (CreateRoot [] ∷ []) (Again BeforeHead)

-- a start tag "html"
abbrev pub before_html_start_html : TagText → World → Row
before_html_start_html tag w = row (CreateRoot tag.attrs ∷ SetMode BeforeHead ∷ []) IsDone

-- start tags, and end tags
unfoldable pub before_html_start : Rules
before_html_start = (Only Html, before_html_start_html) ∷ []

unfoldable pub before_html_end : Rules
before_html_end = (AnyOf outer_names, of_tag before_html_else) ∷ []

unfoldable pub before_html_tag : TagText → World → Row
before_html_tag tag w = by_kind tag.kind (by_name before_html_start (of_tag before_html_else) tag w) (by_name before_html_end ignored_tag tag w)

abbrev pub before_html : TurnText → World → Row
before_html (TagTurn tag) w = before_html_tag tag w
before_html (CommentTurn text) w = row (AppendCommentToDoc text ∷ []) IsDone
before_html (TextTurn Whitespace text) w = row [] IsDone
before_html (TextTurn NotWhitespace text) w = before_html_else (TextTurn NotWhitespace text) w
before_html (TextTurn NotSplit text) w = before_html_else (TextTurn NotSplit text) w
before_html NullTurn w = before_html_else NullTurn w
before_html EofTurn w = before_html_else EofTurn w
