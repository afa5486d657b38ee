-- Rules that several insertion modes share (HTML standard, section 13.2.6.4).
use Rattle.std.specs.Prelude.{ℕ, Bool, false, ◌&&◌, if◌then◌else◌, List, [], ◌∷◌, ◌++◌, Option, None, Some, codes}
use Rattle.std.specs.Str.{str_eq_ignore_ascii_case}
use Rattle.h5_names.specs.declared.qualified.QualName.{QualName}
use Rattle.h5_token.specs.TokenText.{TagText}
use Rattle.h5_tables.specs.declared.modes.InsertionMode.TheVariants.{Text}
use Rattle.h5_token.specs.declared.states.RawKind.{RawKind}
use Rattle.h5_builder_spec.specs.stack.Scope.{first_passes, has_template}
use Rattle.h5_builder_spec.specs.Rows.{AddAttrsToHtml, Answers, AppendText, Change, InsertAndPopForeignElement, InsertElement, InsertForeignElement, IsAcknowledged, IsDone, ReconstructActiveFormattingElements, Row, SaveMode, SetFramesetOkByText, SetMode, choose, errs, ignored, row}
use Rattle.h5_builder_spec.specs.World.{World, name_in, names_of}
use Rattle.h5_tables.specs.TagSets.{is_html_named}
use Rattle.h5_names.specs.AttributeText.{AttributeText, is_same_text}
use Rattle.h5_interface.specs.Forest.{Forest}
use Rattle.h5_token.specs.Reply.{TurnsRaw}

-- section 13.2.6.4.7, a start tag "html"
unfoldable pub in_body_start_html : TagText → World → Row
in_body_start_html tag w = choose (has_template (names_of w)) ignored (errs (AddAttrsToHtml tag.attrs ∷ []) IsDone)

-- section 13.2.6.4.7, a text
abbrev pub in_body_text : List ℕ → World → Row
in_body_text text w = row (ReconstructActiveFormattingElements ∷ SetFramesetOkByText text ∷ AppendText text ∷ []) IsDone

-- start tags that close a caption or a cell, and that are ignored in the body
unfoldable pub table_structure_names : List (List ℕ)
table_structure_names =
    codes "caption" ∷ codes "col" ∷ codes "colgroup" ∷ codes "tbody" ∷ codes "td" ∷ codes "tfoot" ∷
    codes "th" ∷ codes "thead" ∷ codes "tr" ∷ []

-- section 13.2.6.2, elements that contain only text: the mode is saved as the one to return to, and the reply switches
-- the tokenizer's state
abbrev pub raw_text : RawKind → List Change → Row
raw_text kind changes = row (changes ++ SaveMode ∷ SetMode Text ∷ []) (Answers (TurnsRaw kind))

-- start tags that other modes handle by the rules of "in head"
unfoldable pub head_start_names : List (List ℕ)
head_start_names =
    codes "base" ∷ codes "basefont" ∷ codes "bgsound" ∷ codes "link" ∷ codes "meta" ∷ codes "noframes" ∷
    codes "script" ∷ codes "style" ∷ codes "template" ∷ codes "title" ∷ []

-- an element for a tag
abbrev pub inserts : TagText → Change
inserts tag = InsertElement tag.name tag.attrs tag.had_duplicate_attributes

-- an element of this name for a tag, in SVG or MathML, after some changes; it stays open unless the tag is self-closing
abbrev pub inserts_foreign : QualName → List AttributeText → List Change → TagText → Row
inserts_foreign name attrs before tag =
    choose tag.self_closing
    (row (before ++ InsertAndPopForeignElement name attrs tag.had_duplicate_attributes ∷ []) IsAcknowledged)
    (row (before ++ InsertForeignElement name attrs tag.had_duplicate_attributes ∷ []) IsDone)

-- the current node is an HTML element of this name
abbrev pub current_is : List ℕ → World → Bool
current_is local w = first_passes (is_html_named local) (names_of w)

-- the first attribute `type`, in no namespace, is `hidden`, in any case of ASCII letters
abbrev pub is_type : AttributeText → Bool
is_type a = is_same_text a.name.ns [] && is_same_text a.name.local (codes "type")

abbrev pub is_type_hidden : List AttributeText → Bool
is_type_hidden [] = false
is_type_hidden (a ∷ attrs) = if is_type a then str_eq_ignore_ascii_case a.value (codes "hidden") else is_type_hidden attrs

-- the context element passes, if a fragment is parsed (section 13.4)
abbrev pub context_passes : (QualName → Bool) → Forest → Option ℕ → Bool
context_passes is f None = false
context_passes is f (Some n) = is (name_in f n)

abbrev pub is_context : (QualName → Bool) → World → Bool
is_context is w = context_passes is w.forest w.context
