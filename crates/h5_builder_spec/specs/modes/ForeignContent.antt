-- HTML standard, section 13.2.6.5, "The rules for parsing tokens in foreign content".
use Rattle.std.specs.Prelude.{ℕ, Bool, ◌&&◌, ◌||◌, if◌then◌else◌, List, [], ◌∷◌, ◌++◌, codes, true, false}
use Rattle.std.specs.List.{list_any}
use Rattle.h5_names.specs.AttributeText.{AttributeText, is_same_text}
use Rattle.h5_names.specs.declared.qualified.QualName.{QualName}
use Rattle.h5_token.specs.TokenText.{TagText}
use Rattle.h5_token.specs.declared.tag.TagKind.{TagKind}
use Rattle.h5_token.specs.declared.tag.TagKind.TheVariants.{EndTag, StartTag}
use Rattle.h5_interface.specs.SinkChoices.{SinkChoices}
use Rattle.h5_tables.specs.TagSets.{is_one_of}
use Rattle.h5_tables.specs.TurnText.{CommentTurn, EofTurn, NullTurn, TagTurn, TextTurn, TurnText}
use Rattle.h5_builder_spec.specs.reset.Roles.{is_html_element}
use Rattle.h5_builder_spec.specs.insertion.Foreign.{adjusted_attributes, adjusted_local, adjusted_namespace, foreign_name, is_foreign, is_named_in_any_case}
use Rattle.h5_builder_spec.specs.modes.Modes.{rule}
use Rattle.h5_builder_spec.specs.Rows.{AppendComment, AppendText, Change, IsDone, LeaveForeignContent, PopUntilNamedInAnyCase, Row, SetFramesetOkByText, apply_all, choose, errs, row, row_if}
use Rattle.h5_builder_spec.specs.modes.Shared.{inserts_foreign}
use Rattle.h5_builder_spec.specs.World.{World, names_of}

-- a token in foreign content has a row, or, after some changes, is handled by the rules of the current mode, with a
-- parse error or quietly
pub data ForeignStep : Type 0 where
  HasRow : (row : Row) → ForeignStep
  ByMode : (quiet : Bool) → (changes : List Change) → ForeignStep

-- start tags that leave foreign content
unfoldable pub foreign_breakout_names : List (List ℕ)
foreign_breakout_names =
    codes "b" ∷ codes "big" ∷ codes "blockquote" ∷ codes "body" ∷ codes "br" ∷ codes "center" ∷ codes "code" ∷ codes "dd" ∷
    codes "div" ∷ codes "dl" ∷ codes "dt" ∷ codes "em" ∷ codes "embed" ∷ codes "h1" ∷ codes "h2" ∷ codes "h3" ∷
    codes "h4" ∷ codes "h5" ∷ codes "h6" ∷ codes "head" ∷ codes "hr" ∷ codes "i" ∷ codes "img" ∷ codes "li" ∷
    codes "listing" ∷ codes "menu" ∷ codes "meta" ∷ codes "nobr" ∷ codes "ol" ∷ codes "p" ∷ codes "pre" ∷ codes "ruby" ∷
    codes "s" ∷ codes "small" ∷ codes "span" ∷ codes "strong" ∷ codes "strike" ∷ codes "sub" ∷ codes "sup" ∷
    codes "table" ∷ codes "tt" ∷ codes "u" ∷ codes "ul" ∷ codes "var" ∷ []

-- attributes, in no namespace, by which a `font` also leaves it
unfoldable pub font_attribute_names : List (List ℕ)
font_attribute_names = codes "color" ∷ codes "face" ∷ codes "size" ∷ []

abbrev pub is_font_attribute : AttributeText → Bool
is_font_attribute a = is_same_text a.name.ns [] && is_one_of font_attribute_names a.name.local

unfoldable pub breaks_out : TagText → Bool
breaks_out tag = is_one_of foreign_breakout_names tag.name || (is_same_text tag.name (codes "font") && list_any is_font_attribute tag.attrs)

-- end tags that leave foreign content
unfoldable pub foreign_breakout_end_names : List (List ℕ)
foreign_breakout_end_names = codes "br" ∷ codes "p" ∷ []

abbrev pub unexpected_in_foreign_content : ForeignStep
unexpected_in_foreign_content = ByMode false (LeaveForeignContent ∷ [])

-- any other start tag: an element in the namespace of the adjusted current node
abbrev pub foreign_start_other : TagText → World → Row
foreign_start_other tag w =
    inserts_foreign (foreign_name (adjusted_namespace w) (adjusted_local (adjusted_namespace w) tag.name)) (adjusted_attributes (adjusted_namespace w) tag.attrs) [] tag

unfoldable pub foreign_start : TagText → World → ForeignStep
foreign_start tag w = if breaks_out tag then unexpected_in_foreign_content else HasRow (foreign_start_other tag w)

-- any other end tag: the newest open element of its name is closed, unless an element of HTML or the root is newer
pub data EndSearch : Type 0 where
  ReachesRoot : EndSearch
  ReachesHtml : EndSearch
  Finds : EndSearch

abbrev pub search_end : List ℕ → List QualName → EndSearch
search_end local [] = ReachesRoot
search_end local (n ∷ []) = ReachesRoot
search_end local (n ∷ m ∷ ns) =
    if is_html_element n then ReachesHtml else (if is_named_in_any_case local n then Finds else search_end local (m ∷ ns))

-- the current node has its name, unless it is the root; otherwise there is a parse error
abbrev pub is_expected_end : List ℕ → List QualName → Bool
is_expected_end local [] = true
is_expected_end local (n ∷ []) = true
is_expected_end local (n ∷ m ∷ ns) = is_named_in_any_case local n

abbrev pub foreign_end_by : EndSearch → TagText → World → ForeignStep
foreign_end_by ReachesRoot tag w = HasRow (row_if (is_expected_end tag.name (names_of w)) [] IsDone)
foreign_end_by ReachesHtml tag w = ByMode (is_expected_end tag.name (names_of w)) []
foreign_end_by Finds tag w = HasRow (row_if (is_expected_end tag.name (names_of w)) (PopUntilNamedInAnyCase tag.name ∷ []) IsDone)

unfoldable pub foreign_end : TagText → World → ForeignStep
foreign_end tag w =
    if is_one_of foreign_breakout_end_names tag.name then unexpected_in_foreign_content
    else foreign_end_by (search_end tag.name (names_of w)) tag w

abbrev pub foreign_tag : TagKind → TagText → World → ForeignStep
foreign_tag StartTag tag w = foreign_start tag w
foreign_tag EndTag tag w = foreign_end tag w

-- U+FFFD, which replaces a null
abbrev pub replacement_text : List ℕ
replacement_text = 239 ∷ 191 ∷ 189 ∷ []

abbrev pub foreign_text_row : List ℕ → Row
foreign_text_row text = row (SetFramesetOkByText text ∷ AppendText text ∷ []) IsDone

abbrev pub foreign_step : TurnText → World → ForeignStep
foreign_step (TagTurn tag) w = foreign_tag tag.kind tag w
foreign_step (CommentTurn text) w = HasRow (row (AppendComment text ∷ []) IsDone)
foreign_step (TextTurn status text) w = HasRow (foreign_text_row text)
foreign_step NullTurn w = HasRow (errs (AppendText replacement_text ∷ []) IsDone)
foreign_step EofTurn w = HasRow (row [] IsDone)

-- "reprocess the token according to the rules given in the section corresponding to the current insertion mode", in the
-- same turn, in the world after these changes
abbrev pub by_mode : SinkChoices → Bool → List Change → TurnText → World → Row
by_mode choices quiet changes t w =
    let v = apply_all choices changes w in
    let r = rule v.mode t v in
    row_if (quiet && r.quiet) (changes ++ r.changes) r.ending

abbrev pub row_of : SinkChoices → ForeignStep → TurnText → World → Row
row_of choices (HasRow row) t w = row
row_of choices (ByMode quiet changes) t w = by_mode choices quiet changes t w

-- THE RULE of a token, foreign or not ("the tree construction dispatcher")
unfoldable pub dispatch : SinkChoices → TurnText → World → Row
dispatch choices t w = choose (is_foreign choices t w) (row_of choices (foreign_step t w) t w) (rule w.mode t w)
