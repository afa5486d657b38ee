-- Plain documents, as they are written. This file doesn't depend on the modes of a tree builder.
use Rattle.std.specs.Prelude.{◌≡◌, ◌≢◌, ℕ, ◌==◌, Bool, true, false, not, ◌&&◌, if◌then◌else◌, List, [], ◌∷◌, Some, None, codes}
use Rattle.h5_names.specs.AttributeText.{AttributeText, is_same_text}
use Rattle.h5_token.specs.Reply.{Continues, Reply, TurnsRaw}
use Rattle.h5_token.specs.TokenText.{TagText, TokenText, DoctypeIs, TagIs, Characters, EndOfFile}
use Rattle.h5_token.specs.declared.states.RawKind.TheVariants.{Rcdata}
use Rattle.h5_token.specs.declared.tag.TagKind.TheVariants.{StartTag, EndTag}
use Rattle.h5_interface.specs.Changes.{has_attribute}
use Rattle.h5_tables.specs.TagSets.{cell_names, heading_names, is_one_of, void_names}
use Rattle.h5_builder_spec.specs.Blanks.{all_blank}
use Rattle.h5_builder_spec.specs.Kinds.{is_start}

-- a list of nodes: texts, and HTML elements with their content
pub data Nodes : Type 0 where
  End : Nodes
  TextThen : (text : List ℕ) → (rest : Nodes) → Nodes
  ElementThen : (name : List ℕ) → (attrs : List AttributeText) → (inner rest : Nodes) → Nodes

-- a start tag without either flag; and an end tag
abbrev pub start_tag : List ℕ → List AttributeText → TokenText
start_tag name attrs = TagIs (record { kind = StartTag; name = name; self_closing = false; attrs = attrs; had_duplicate_attributes = false })

abbrev pub end_tag : List ℕ → TokenText
end_tag name = TagIs (record { kind = EndTag; name = name; self_closing = false; attrs = []; had_duplicate_attributes = false })

-- an element that is written with an end tag
abbrev pub has_end_tag : List ℕ → Bool
has_end_tag name = not (is_one_of void_names name)

-- the tokens of a list of nodes, before others
abbrev pub tokens_before : Nodes → List TokenText → List TokenText
tokens_before End ts = ts
tokens_before (TextThen text rest) ts = Characters text ∷ tokens_before rest ts
tokens_before (ElementThen name attrs inner rest) ts =
    start_tag name attrs
    ∷ (if has_end_tag name then tokens_before inner (end_tag name ∷ tokens_before rest ts) else tokens_before rest ts)

-- a text with a newline at its start doubled
abbrev pub doubled : List ℕ → List ℕ
doubled [] = []
doubled (b ∷ t) = if b == 10 then 10 ∷ b ∷ t else b ∷ t

-- nodes whose first node, if it is a text, is doubled like that
abbrev pub with_doubled : Nodes → Nodes
with_doubled (TextThen text rest) = TextThen (doubled text) rest
with_doubled nodes = nodes

-- the content of an element of this name, as it is written: a tree builder drops a newline right after the start tag of
-- a `pre`
abbrev pub held_as_written : List ℕ → Nodes → Nodes
held_as_written name nodes = if is_same_text name (codes "pre") then with_doubled nodes else nodes

-- a list of nodes, as its tokens and its text have it: each `pre` that begins with a newline begins with two
abbrev pub as_written : Nodes → Nodes
as_written End = End
as_written (TextThen text rest) = TextThen text (as_written rest)
as_written (ElementThen name attrs inner rest) = ElementThen name attrs (held_as_written name (as_written inner)) (as_written rest)

-- attributes without prefix and namespace, each name once
abbrev pub ArePlain : List AttributeText → Type 0
ArePlain [] = Unit {0}
ArePlain (a ∷ attrs) = (a.name.prefix ≡ None) × ((a.name.ns ≡ []) × ((has_attribute a.name attrs ≡ false) × ArePlain attrs))

-- no byte of a text is zero
abbrev pub NoNul : List ℕ → Type 0
NoNul [] = Unit {0}
NoNul (b ∷ t) = (b ≢ 0) × NoNul t

-- the formatting elements that may be nested in each other, and each in itself
unfoldable pub inline_names : List (List ℕ)
inline_names =
    codes "b" ∷ codes "big" ∷ codes "code" ∷ codes "em" ∷ codes "font" ∷ codes "i" ∷ codes "s" ∷ codes "small" ∷
    codes "strike" ∷ codes "strong" ∷ codes "tt" ∷ codes "u" ∷ []

-- elements without a rule by their name
unfoldable pub phrase_names : List (List ℕ)
phrase_names =
    codes "abbr" ∷ codes "bdi" ∷ codes "bdo" ∷ codes "cite" ∷ codes "data" ∷ codes "del" ∷ codes "dfn" ∷ codes "ins" ∷
    codes "kbd" ∷ codes "label" ∷ codes "mark" ∷ codes "meter" ∷ codes "output" ∷ codes "progress" ∷ codes "q" ∷ codes "samp" ∷
    codes "span" ∷ codes "sub" ∷ codes "sup" ∷ codes "time" ∷ codes "var" ∷ []

-- the text of a `ruby`, and a parenthesis around it
unfoldable pub ruby_text_names : List (List ℕ)
ruby_text_names = codes "rp" ∷ codes "rt" ∷ []

-- blocks that don't end the search for a list item, and blocks that end it
unfoldable pub open_block_names : List (List ℕ)
open_block_names = codes "address" ∷ codes "dialog" ∷ codes "div" ∷ []

unfoldable pub barrier_names : List (List ℕ)
barrier_names =
    codes "article" ∷ codes "aside" ∷ codes "blockquote" ∷ codes "center" ∷ codes "details" ∷ codes "dir" ∷ codes "dl" ∷
    codes "fieldset" ∷ codes "figcaption" ∷ codes "figure" ∷ codes "footer" ∷ codes "header" ∷ codes "hgroup" ∷ codes "main" ∷
    codes "menu" ∷ codes "nav" ∷ codes "ol" ∷ codes "section" ∷ codes "summary" ∷ codes "ul" ∷ []

-- inline elements without an end tag
unfoldable pub mark_names : List (List ℕ)
mark_names = codes "br" ∷ codes "img" ∷ codes "wbr" ∷ []

-- terms and their descriptions; sections of a table
unfoldable pub term_names : List (List ℕ)
term_names = codes "dd" ∷ codes "dt" ∷ []

unfoldable pub part_names : List (List ℕ)
part_names = codes "tbody" ∷ codes "tfoot" ∷ codes "thead" ∷ []

-- what is open around nodes, as far as the rules of "in body" need it: a `p`; a heading as the parent; an `li`, and a
-- `dd` or `dt`, unless another element ends the search for it; an `a`; a `ruby` as the parent. Only the last one
-- allows more nodes
pub record Around : Type 0 where
  pub in_p : Bool
  pub in_heading : Bool
  pub in_item : Bool
  pub in_description : Bool
  pub in_link : Bool
  pub in_ruby : Bool

abbrev pub nothing_open : Around
nothing_open = record { in_p = false; in_heading = false; in_item = false; in_description = false; in_link = false; in_ruby = false }

-- inside an element that doesn't end the search for a list item; and inside one that ends it
abbrev pub within : Around → Around
within o = record o { in_heading = false; in_ruby = false }

abbrev pub behind : Around → Around
behind o = record o { in_heading = false; in_item = false; in_description = false; in_ruby = false }

-- a table, its sections and its rows, by their content
pub data TablePart : Type 0 where
  Sections : TablePart
  Rows : TablePart
  Cells : TablePart

-- the kinds of lists of nodes: flow, with what is open there; the content of a table, of its sections and of its rows;
-- and columns. Each says if a text comes right before the list
pub data Sort : Type 0 where
  Flow : (after_text : Bool) → (o : Around) → Sort
  Part : (after_text : Bool) → (part : TablePart) → Sort
  Columns : (after_text : Bool) → Sort

-- the plain lists of nodes; with `blanks`, also texts of ASCII whitespace in tables, if they are allowed there
pub data IsPlain (blanks : Bool) : Sort → Nodes → Type 0 where
  Nothing : {s : Sort} → IsPlain blanks s End
  -- a text, which isn't empty, and isn't followed by another
  Words : {o : Around} {first : ℕ} {more : List ℕ} {rest : Nodes} → NoNul (first ∷ more) → IsPlain blanks (Flow true o) rest
      → IsPlain blanks (Flow false o) (TextThen (first ∷ more) rest)
  -- a text of ASCII whitespace in a table, or in a part of one
  Blank : {part : TablePart} {first : ℕ} {more : List ℕ} {rest : Nodes} → blanks ≡ true → all_blank (first ∷ more) ≡ true → NoNul (first ∷ more) → IsPlain blanks (Part true part) rest
      → IsPlain blanks (Part false part) (TextThen (first ∷ more) rest)
  ColumnBlank : {first : ℕ} {more : List ℕ} {rest : Nodes} → blanks ≡ true → all_blank (first ∷ more) ≡ true → NoNul (first ∷ more) → IsPlain blanks (Columns true) rest
      → IsPlain blanks (Columns false) (TextThen (first ∷ more) rest)
  -- blocks, if no `p` is open
  Division : {a : Bool} {o : Around} {name : List ℕ} {attrs : List AttributeText} {inner rest : Nodes} → is_one_of open_block_names name ≡ true → o.in_p ≡ false → ArePlain attrs
      → IsPlain blanks (Flow false (within o)) inner → IsPlain blanks (Flow false o) rest → IsPlain blanks (Flow a o) (ElementThen name attrs inner rest)
  Barrier : {a : Bool} {o : Around} {name : List ℕ} {attrs : List AttributeText} {inner rest : Nodes} → is_one_of barrier_names name ≡ true → o.in_p ≡ false → ArePlain attrs
      → IsPlain blanks (Flow false (behind o)) inner → IsPlain blanks (Flow false o) rest → IsPlain blanks (Flow a o) (ElementThen name attrs inner rest)
  Preformatted : {a : Bool} {o : Around} {attrs : List AttributeText} {inner rest : Nodes} → o.in_p ≡ false → ArePlain attrs
      → IsPlain blanks (Flow false (behind o)) inner → IsPlain blanks (Flow false o) rest → IsPlain blanks (Flow a o) (ElementThen (codes "pre") attrs inner rest)
  Paragraph : {a : Bool} {o : Around} {attrs : List AttributeText} {inner rest : Nodes} → o.in_p ≡ false → ArePlain attrs
      → IsPlain blanks (Flow false (record (within o) { in_p = true })) inner → IsPlain blanks (Flow false o) rest → IsPlain blanks (Flow a o) (ElementThen (codes "p") attrs inner rest)
  Heading : {a : Bool} {o : Around} {name : List ℕ} {attrs : List AttributeText} {inner rest : Nodes} → is_one_of heading_names name ≡ true → o.in_p ≡ false → o.in_heading ≡ false → ArePlain attrs
      → IsPlain blanks (Flow false (record (behind o) { in_heading = true })) inner → IsPlain blanks (Flow false o) rest → IsPlain blanks (Flow a o) (ElementThen name attrs inner rest)
  Item : {a : Bool} {o : Around} {attrs : List AttributeText} {inner rest : Nodes} → o.in_p ≡ false → o.in_item ≡ false → ArePlain attrs
      → IsPlain blanks (Flow false (record (behind o) { in_item = true })) inner → IsPlain blanks (Flow false o) rest → IsPlain blanks (Flow a o) (ElementThen (codes "li") attrs inner rest)
  Describing : {a : Bool} {o : Around} {name : List ℕ} {attrs : List AttributeText} {inner rest : Nodes} → is_one_of term_names name ≡ true → o.in_p ≡ false → o.in_description ≡ false → ArePlain attrs
      → IsPlain blanks (Flow false (record (behind o) { in_description = true })) inner → IsPlain blanks (Flow false o) rest → IsPlain blanks (Flow a o) (ElementThen name attrs inner rest)
  -- an `hr`
  Ruled : {a : Bool} {o : Around} {attrs : List AttributeText} {rest : Nodes} → o.in_p ≡ false → ArePlain attrs → IsPlain blanks (Flow false o) rest
      → IsPlain blanks (Flow a o) (ElementThen (codes "hr") attrs End rest)
  -- a `br`, `img` or `wbr`
  Break : {a : Bool} {o : Around} {name : List ℕ} {attrs : List AttributeText} {rest : Nodes} → is_one_of mark_names name ≡ true → ArePlain attrs → IsPlain blanks (Flow false o) rest
      → IsPlain blanks (Flow a o) (ElementThen name attrs End rest)
  -- formatting elements and elements without a rule, anywhere
  Formatted : {a : Bool} {o : Around} {name : List ℕ} {attrs : List AttributeText} {inner rest : Nodes} → is_one_of inline_names name ≡ true → ArePlain attrs
      → IsPlain blanks (Flow false (within o)) inner → IsPlain blanks (Flow false o) rest → IsPlain blanks (Flow a o) (ElementThen name attrs inner rest)
  Phrase : {a : Bool} {o : Around} {name : List ℕ} {attrs : List AttributeText} {inner rest : Nodes} → is_one_of phrase_names name ≡ true → ArePlain attrs
      → IsPlain blanks (Flow false (within o)) inner → IsPlain blanks (Flow false o) rest → IsPlain blanks (Flow a o) (ElementThen name attrs inner rest)
  -- a `ruby`; and an `rp` or `rt`, if the parent is a `ruby`: its start tag then closes nothing. It may hold what a `span`
  -- may hold: its end tag can be implied, but not by a tag inside it, since a start tag implies end tags only to close a `p`
  -- or an item, and an end tag only those inside its element
  Ruby : {a : Bool} {o : Around} {attrs : List AttributeText} {inner rest : Nodes} → ArePlain attrs
      → IsPlain blanks (Flow false (record (within o) { in_ruby = true })) inner → IsPlain blanks (Flow false o) rest → IsPlain blanks (Flow a o) (ElementThen (codes "ruby") attrs inner rest)
  RubyText : {a : Bool} {o : Around} {name : List ℕ} {attrs : List AttributeText} {inner rest : Nodes} → is_one_of ruby_text_names name ≡ true → o.in_ruby ≡ true → ArePlain attrs
      → IsPlain blanks (Flow false (within o)) inner → IsPlain blanks (Flow false o) rest → IsPlain blanks (Flow a o) (ElementThen name attrs inner rest)
  -- an `a`, not inside another
  Link : {a : Bool} {o : Around} {attrs : List AttributeText} {inner rest : Nodes} → o.in_link ≡ false → ArePlain attrs
      → IsPlain blanks (Flow false (record (within o) { in_link = true })) inner → IsPlain blanks (Flow false o) rest → IsPlain blanks (Flow a o) (ElementThen (codes "a") attrs inner rest)
  -- a `table` of sections, each of rows, each of cells; in a cell nothing counts as open
  Table : {a : Bool} {o : Around} {attrs : List AttributeText} {inner rest : Nodes} → o.in_p ≡ false → ArePlain attrs → IsPlain blanks (Part false Sections) inner → IsPlain blanks (Flow false o) rest
      → IsPlain blanks (Flow a o) (ElementThen (codes "table") attrs inner rest)
  Caption : {a : Bool} {attrs : List AttributeText} {inner rest : Nodes} → ArePlain attrs → IsPlain blanks (Flow false nothing_open) inner → IsPlain blanks (Part false Sections) rest
      → IsPlain blanks (Part a Sections) (ElementThen (codes "caption") attrs inner rest)
  ColumnGroup : {a : Bool} {attrs : List AttributeText} {inner rest : Nodes} → ArePlain attrs → IsPlain blanks (Columns false) inner → IsPlain blanks (Part false Sections) rest
      → IsPlain blanks (Part a Sections) (ElementThen (codes "colgroup") attrs inner rest)
  Column : {a : Bool} {attrs : List AttributeText} {rest : Nodes} → ArePlain attrs → IsPlain blanks (Columns false) rest → IsPlain blanks (Columns a) (ElementThen (codes "col") attrs End rest)
  Section : {a : Bool} {name : List ℕ} {attrs : List AttributeText} {inner rest : Nodes} → is_one_of part_names name ≡ true → ArePlain attrs → IsPlain blanks (Part false Rows) inner → IsPlain blanks (Part false Sections) rest
      → IsPlain blanks (Part a Sections) (ElementThen name attrs inner rest)
  TableRow : {a : Bool} {attrs : List AttributeText} {inner rest : Nodes} → ArePlain attrs → IsPlain blanks (Part false Cells) inner → IsPlain blanks (Part false Rows) rest
      → IsPlain blanks (Part a Rows) (ElementThen (codes "tr") attrs inner rest)
  Cell : {a : Bool} {name : List ℕ} {attrs : List AttributeText} {inner rest : Nodes} → is_one_of cell_names name ≡ true → ArePlain attrs
      → IsPlain blanks (Flow false nothing_open) inner → IsPlain blanks (Part false Cells) rest → IsPlain blanks (Part a Cells) (ElementThen name attrs inner rest)

-- the content of a head: nothing, or a `title` of one text, which isn't empty
pub data IsHead : Nodes → Type 0 where
  Untitled : IsHead End
  Titled : {attrs : List AttributeText} {first : ℕ} {more : List ℕ} → ArePlain attrs → NoNul (first ∷ more)
      → IsHead (ElementThen (codes "title") attrs (TextThen (first ∷ more) End) End)

-- an `html` of a `head` and a `body` of blocks
pub record PlainDocument : Type 0 where
  pub html_attrs : List AttributeText
  pub head_attrs : List AttributeText
  pub body_attrs : List AttributeText
  pub head : Nodes
  pub blocks : Nodes
  pub html_is_plain : ArePlain html_attrs
  pub head_is_plain : ArePlain head_attrs
  pub body_is_plain : ArePlain body_attrs
  pub is_head : IsHead head
  pub are_blocks : IsPlain true (Flow false nothing_open) blocks

abbrev pub root_of : PlainDocument → Nodes
root_of d =
    ElementThen (codes "html") d.html_attrs
    (ElementThen (codes "head") d.head_attrs d.head (ElementThen (codes "body") d.body_attrs d.blocks End)) End

-- the doctype `html`, without identifiers
abbrev pub plain_doctype : TokenText
plain_doctype = DoctypeIs (record { name = Some (codes "html"); public_id = None; system_id = None; force_quirks = false })

abbrev pub is_start_of_title : TagText → Bool
is_start_of_title tag = is_start tag.kind && is_same_text tag.name (codes "title")

-- the reply to each token: to the start tag of a title the switch to its text, to any other "go on"
abbrev pub plain_reply : TokenText → Reply
plain_reply (TagIs tag) = if is_start_of_title tag then TurnsRaw Rcdata else Continues
plain_reply _ = Continues

-- the tokens of a document, and of a fragment
abbrev pub document_tokens : PlainDocument → List TokenText
document_tokens d = plain_doctype ∷ tokens_before (as_written (root_of d)) (EndOfFile ∷ [])

abbrev pub fragment_tokens : Nodes → List TokenText
fragment_tokens nodes = tokens_before (as_written nodes) (EndOfFile ∷ [])
