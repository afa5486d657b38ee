-- HTML standard, section 13.2.6.4.5, the "in head noscript" insertion mode.
use Rattle.std.specs.Prelude.{ℕ, List, [], ◌∷◌, codes}
use Rattle.h5_token.specs.TokenText.{TagText}
use Rattle.h5_names.specs.declared.known_name.KnownName.TheVariants.{Br, Html, Noscript}
use Rattle.h5_tables.specs.TurnText.{CommentTurn, EofTurn, NullTurn, TagTurn, TextTurn, TurnText}
use Rattle.h5_tables.specs.declared.modes.InsertionMode.TheVariants.{InHead}
use Rattle.h5_tables.specs.declared.modes.SplitStatus.TheVariants.{NotSplit, NotWhitespace, Whitespace}
use Rattle.h5_builder_spec.specs.ByName.{AnyOf, Only, Rules, by_kind, by_name, ignored_tag, of_tag}
use Rattle.h5_builder_spec.specs.modes.InHead.{in_head, in_head_start_tag}
use Rattle.h5_builder_spec.specs.Rows.{Again, IsDone, Pop, Row, SetMode, errs, row}
use Rattle.h5_builder_spec.specs.modes.Shared.{in_body_start_html}
use Rattle.h5_builder_spec.specs.World.{World}

-- an end tag "noscript"
abbrev pub in_head_noscript_end_noscript : TagText → World → Row
in_head_noscript_end_noscript tag w = row (Pop ∷ SetMode InHead ∷ []) IsDone

-- anything else
abbrev pub in_head_noscript_else : TurnText → World → Row
in_head_noscript_else t w = errs (Pop ∷ []) (Again InHead)

-- start tags that are handled by the rules of "in head"
unfoldable pub noscript_content_names : List (List ℕ)
noscript_content_names =
    codes "basefont" ∷ codes "bgsound" ∷ codes "link" ∷ codes "meta" ∷ codes "noframes" ∷ codes "style" ∷ []

-- start tags that are ignored
unfoldable pub in_head_noscript_ignored : List (List ℕ)
in_head_noscript_ignored = codes "head" ∷ codes "noscript" ∷ []

-- start tags, and end tags
unfoldable pub in_head_noscript_start : Rules
in_head_noscript_start =
    (Only Html, in_body_start_html) ∷ (AnyOf noscript_content_names, in_head_start_tag) ∷ (AnyOf in_head_noscript_ignored, ignored_tag) ∷ []

unfoldable pub in_head_noscript_end : Rules
in_head_noscript_end = (Only Noscript, in_head_noscript_end_noscript) ∷ (Only Br, of_tag in_head_noscript_else) ∷ []

unfoldable pub in_head_noscript_tag : TagText → World → Row
in_head_noscript_tag tag w =
    by_kind tag.kind (by_name in_head_noscript_start (of_tag in_head_noscript_else) tag w) (by_name in_head_noscript_end ignored_tag tag w)

abbrev pub in_head_noscript : TurnText → World → Row
in_head_noscript (TagTurn tag) w = in_head_noscript_tag tag w
in_head_noscript (CommentTurn text) w = in_head (CommentTurn text) w
in_head_noscript (TextTurn Whitespace text) w = in_head (TextTurn Whitespace text) w
in_head_noscript (TextTurn NotWhitespace text) w = in_head_noscript_else (TextTurn NotWhitespace text) w
in_head_noscript (TextTurn NotSplit text) w = in_head_noscript_else (TextTurn NotSplit text) w
in_head_noscript NullTurn w = in_head_noscript_else NullTurn w
in_head_noscript EofTurn w = in_head_noscript_else EofTurn w
