-- HTML standard, section 13.2.6.4.11, the "in caption" insertion mode.
use Rattle.std.specs.Prelude.{List, [], ◌∷◌, ℕ, codes}
use Rattle.h5_token.specs.TokenText.{TagText}
use Rattle.h5_names.specs.declared.known_name.KnownName.TheVariants.{Caption, Table}
use Rattle.h5_tables.specs.TurnText.{CommentTurn, EofTurn, NullTurn, TagTurn, TextTurn, TurnText}
use Rattle.h5_tables.specs.declared.modes.InsertionMode.TheVariants.{InTable}
use Rattle.h5_builder_spec.specs.ByName.{AnyOf, Only, Rules, by_kind, by_name, ignored_tag, of_tag}
use Rattle.h5_builder_spec.specs.modes.InBody.{in_body}
use Rattle.h5_builder_spec.specs.Rows.{Again, Change, ClearActiveFormattingToMarker, Ending, GenerateImpliedEnd, IsDone, PopUntilNamed, Row, SetMode, choose, ignored, row_if}
use Rattle.h5_builder_spec.specs.modes.Shared.{table_structure_names}
use Rattle.h5_builder_spec.specs.modes.Tables.{named_in_table_scope}
use Rattle.h5_builder_spec.specs.World.{World, names_of}
use Rattle.h5_builder_spec.specs.stack.Expected.{is_expected}
use Rattle.h5_tables.specs.TagSets.{is_html_named, is_implied}

-- the caption is closed, if one is in table scope
unfoldable pub close_the_caption : List Change → Ending → World → Row
close_the_caption changes ending w =
    choose (named_in_table_scope (codes "caption") w)
    (row_if (is_expected is_implied (is_html_named (codes "caption")) (names_of w)) (GenerateImpliedEnd ∷ PopUntilNamed (codes "caption") ∷ ClearActiveFormattingToMarker ∷ changes) ending)
    ignored

-- an end tag "caption"
abbrev pub in_caption_end_caption : TagText → World → Row
in_caption_end_caption tag w = close_the_caption (SetMode InTable ∷ []) IsDone w

-- a start tag "caption", "col", .., "tr", and an end tag "table"
abbrev pub in_caption_close : TagText → World → Row
in_caption_close tag w = close_the_caption [] (Again InTable) w

-- end tags that are ignored
unfoldable pub in_caption_ignored_ends : List (List ℕ)
in_caption_ignored_ends =
    codes "body" ∷ codes "col" ∷ codes "colgroup" ∷ codes "html" ∷ codes "tbody" ∷ codes "td" ∷ codes "tfoot" ∷ codes "th" ∷
    codes "thead" ∷ codes "tr" ∷ []

-- start tags, and end tags
unfoldable pub in_caption_start : Rules
in_caption_start = (AnyOf table_structure_names, in_caption_close) ∷ []

unfoldable pub in_caption_end : Rules
in_caption_end = (Only Caption, in_caption_end_caption) ∷ (Only Table, in_caption_close) ∷ (AnyOf in_caption_ignored_ends, ignored_tag) ∷ []

unfoldable pub in_caption_tag : TagText → World → Row
in_caption_tag tag w = by_kind tag.kind (by_name in_caption_start (of_tag in_body) tag w) (by_name in_caption_end (of_tag in_body) tag w)

abbrev pub in_caption : TurnText → World → Row
in_caption (TagTurn tag) w = in_caption_tag tag w
in_caption (CommentTurn text) w = in_body (CommentTurn text) w
in_caption (TextTurn status text) w = in_body (TextTurn status text) w
in_caption NullTurn w = in_body NullTurn w
in_caption EofTurn w = in_body EofTurn w
