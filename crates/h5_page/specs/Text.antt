-- The text of a page, as a browser shows it without a style sheet, by the calls of the page's walk.
use Rattle.std.specs.Prelude.{ℕ, ◌+◌, ◌&&◌, ◌||◌, Bool, true, false, not, nat_lt, if◌then◌else◌, is_some, length, List, [], ◌∷◌, ◌++◌, Option, None, Some, codes}
use Rattle.std.specs.Fmt.{decimal}
use Rattle.std.specs.Option.{option_map_or}
use Rattle.html_tree_builder.specs.AttributeText.{AttributeText}
use Rattle.html_tree_builder.specs.Call.{Call, StartOf, EndOf, TextOf}
use Rattle.html_tree_builder.specs.Walk.{after_each}
use Rattle.h5_page.specs.Attributes.{SaidText, said_of}
use Rattle.h5_page.specs.Counts.{counts_of}
use Rattle.h5_page.specs.Displays.{asked, display_of, is_indented, is_list, keeps_blanks}
use Rattle.h5_page.specs.Layout.{Laid, broken, celled, ended, inked, line_ended, marked, nothing_laid, whole, with_text}
use Rattle.h5_page.specs.Numbers.{first, mark_of, next, number_in, one}
use Rattle.h5_page.specs.declared.display.Display.{Display}
use Rattle.h5_page.specs.declared.display.Display.TheVariants as show
use Rattle.h5_page.specs.declared.number.ItemNumber.{ItemNumber}
use Rattle.h5_page.specs.declared.open.Open.{Open}
use Rattle.h5_page.specs.declared.text_writer.TextOpts.{TextOpts}

-- indents have a limit
abbrev pub more_indent : ℕ → ℕ
more_indent indent = if nat_lt indent 40 then indent + 2 else indent

-- true if an element is shown, by its display and its attributes
abbrev pub shows : Display → SaidText → Bool
shows show.Nothing said = false
shows show.Dialog said = not said.is_hidden && is_some said.value
shows display said = not said.is_hidden

-- the number that a value gives, or else another one
abbrev pub number_or : Option (List ℕ) → ItemNumber → ItemNumber
number_or None other = other
number_or (Some value) other = option_map_or (λ n. n) (number_in value) other

abbrev pub said_number : SaidText → ItemNumber → ItemNumber
said_number said other = number_or said.value other

-- the element around the page
abbrev pub page : Open
page = record { display = show.Block; is_shown = true; keeps_blanks = false; is_in_list = false; indent = 0; has_cell = false; number = one; falls = false }

-- an element that begins in another, with `count` items if it is a numbered list; and that other element after its beginning
abbrev pub inner : Display → SaidText → (count : ℕ) → Open → Open
inner display said count outer = record {
  display = display;
  is_shown = outer.is_shown && shows display said;
  keeps_blanks = outer.keeps_blanks || keeps_blanks display;
  is_in_list = outer.is_in_list || is_list display;
  indent = if is_indented display then more_indent outer.indent else outer.indent;
  has_cell = false;
  number = said_number said (first count said.is_reversed);
  falls = said.is_reversed;
}

abbrev pub behind : Display → SaidText → Open → Open
behind show.Cell said outer = record outer { has_cell = true }
behind show.Item said outer = record outer { number = next outer.falls (said_number said outer.number) }
behind display said outer = outer

-- the mark of an item: its number, in a numbered list
abbrev pub mark_by : Display → SaidText → Open → List ℕ
mark_by show.Numbered said outer = mark_of (said_number said outer.number)
mark_by display said outer = codes "-"

abbrev pub mark_in : SaidText → Open → List ℕ
mark_in said outer = mark_by outer.display said outer

-- the open elements, the innermost first
pub record Opened : Type 0 where
  pub current : Open
  pub outer : List Open

abbrev pub none_open : Opened
none_open = record { current = page; outer = [] }

abbrev pub ended_of : Opened → List Open → Option Open
ended_of o [] = None
ended_of o (outer ∷ outers) = Some o.current

abbrev pub ended_one : Opened → Option Open
ended_one o = ended_of o o.outer

abbrev pub left_of : Opened → List Open → Opened
left_of o [] = o
left_of o (outer ∷ outers) = record { current = outer; outer = outers }

abbrev pub left : Opened → Opened
left o = left_of o o.outer

-- the alternative text of an image, and the label of a group
abbrev pub value_of : SaidText → List ℕ
value_of said = option_map_or (λ value. value) said.value []

-- a horizontal rule
abbrev pub ruled : (indent : ℕ) → Laid → Laid
ruled indent p = broken false (inked indent (codes "---") (broken false p))

-- what is laid out at the beginning of an element inside another
abbrev pub begun : Display → SaidText → Open → Laid → Laid
begun show.Inline said outer p = p
begun show.Nothing said outer p = p
begun show.Block said outer p = broken false p
begun show.Paragraph said outer p = broken true p
begun show.Quote said outer p = broken true p
begun show.Description said outer p = broken false p
begun show.Preformatted said outer p = broken true p
begun show.Field said outer p = broken false p
begun show.Bulleted said outer p = broken (not outer.is_in_list) p
begun show.Numbered said outer p = broken (not outer.is_in_list) p
begun show.Item said outer p = marked outer.indent (mark_in said outer) (broken false p)
begun show.Cell said outer p = celled outer.indent (not outer.has_cell) p
begun show.LineEnd said outer p = line_ended p
begun show.Rule said outer p = ruled outer.indent p
begun show.Picture said outer p = with_text false outer.indent (value_of said) p
begun show.Group said outer p = with_text false outer.indent (value_of said) (broken false p)
begun show.Dialog said outer p = broken false p
begun show.Link said outer p = p

-- and at its end
abbrev pub finished : Display → (is_in_list : Bool) → Laid → Laid
finished show.Block in_list p = broken false p
finished show.Paragraph in_list p = broken true p
finished show.Quote in_list p = broken true p
finished show.Description in_list p = broken false p
finished show.Preformatted in_list p = broken true p
finished show.Field in_list p = broken false p
finished show.Bulleted in_list p = broken (not in_list) p
finished show.Numbered in_list p = broken (not in_list) p
finished show.Item in_list p = ended p
finished show.Cell in_list p = ended p
finished show.Group in_list p = broken false p
finished show.Dialog in_list p = broken false p
finished display in_list p = p

-- the state between two calls: if scripting is enabled, the item counts of the lists that follow, the open elements, the
-- layout, and, if links have numbers, the `href` of each
pub record Kept : Type 0 where
  pub scripting_enabled : Bool
  pub counts : List ℕ
  pub opened : Opened
  pub laid : Laid
  pub has_numbers : Bool
  pub hrefs : List (List ℕ)

abbrev pub plain_opts : TextOpts
plain_opts = record { width = None; has_numbers = false; scripting_enabled = true }

abbrev pub nothing_kept : TextOpts → (counts : List ℕ) → Kept
nothing_kept opts counts = record { scripting_enabled = opts.scripting_enabled; counts = counts; opened = none_open; laid = nothing_laid opts.width; has_numbers = opts.has_numbers; hrefs = [] }

-- the `href` of a link that begins
abbrev pub link_of : Display → SaidText → Option (List ℕ)
link_of show.Link said = said.value
link_of display said = None

abbrev pub link_mark : ℕ → List ℕ
link_mark number = 91 ∷ decimal number ++ 93 ∷ []

abbrev pub numbered : (indent : ℕ) → (href : List ℕ) → Kept → Kept
numbered indent href k = record k { hrefs = k.hrefs ++ href ∷ []; laid = inked indent (link_mark (length k.hrefs + 1)) k.laid }

abbrev pub with_link : (indent : ℕ) → Option (List ℕ) → Kept → Kept
with_link indent None k = k
with_link indent (Some href) k = if k.has_numbers then numbered indent href k else k

abbrev pub begun_in : Display → SaidText → Open → Kept → Kept
begun_in display said outer k = with_link outer.indent (link_of display said) (record k { laid = begun display said outer k.laid })

-- an element begins, and ends
abbrev pub entered : Open → Open → Kept → Kept
entered outer inner k = record k { opened = record { current = inner; outer = outer ∷ k.opened.outer } }

abbrev pub started_in : Display → SaidText → (count : ℕ) → Open → Kept → Kept
started_in display said count outer k =
    if (inner display said count outer).is_shown then entered (behind display said outer) (inner display said count outer) (begun_in display said outer k)
    else entered outer (inner display said count outer) k

-- the count of a list that begins, and those of the lists after it
abbrev pub count_of : Display → List ℕ → ℕ
count_of show.Numbered (count ∷ counts) = count
count_of display counts = 0

abbrev pub counts_behind : Display → List ℕ → List ℕ
counts_behind show.Numbered (count ∷ counts) = counts
counts_behind display counts = counts

abbrev pub counted : Display → Kept → Kept
counted display k = record k { counts = counts_behind display k.counts }

abbrev pub started : Display → SaidText → Kept → Kept
started display said k = started_in display said (count_of display k.counts) k.opened.current (counted display k)

abbrev pub finished_in : Opened → Option Open → Laid → Laid
finished_in o None p = p
finished_in o (Some e) p = if e.is_shown then finished e.display o.current.is_in_list p else p

abbrev pub stopped : Kept → Kept
stopped k = record k { opened = left k.opened; laid = finished_in (left k.opened) (ended_one k.opened) k.laid }

abbrev pub said : (text : List ℕ) → Kept → Kept
said text k = record k { laid = if k.opened.current.is_shown then with_text k.opened.current.keeps_blanks k.opened.current.indent text k.laid else k.laid }

abbrev pub started_as : Display → (ns : List ℕ) → List AttributeText → Kept → Kept
started_as display ns attrs k = started display (said_of ns (asked display) attrs) k

abbrev pub after_call : Kept → Call → Kept
after_call k (StartOf name attrs) = started_as (display_of k.scripting_enabled name) name.ns attrs k
after_call k (EndOf name) = stopped k
after_call k (TextOf text) = said text k
after_call k call = k

-- the text of a page, and the `href` of each numbered link
abbrev pub kept_of : TextOpts → List Call → Kept
kept_of opts calls = after_each after_call (nothing_kept opts (counts_of calls)) calls

abbrev pub text_of : TextOpts → List Call → List ℕ
text_of opts calls = whole (kept_of opts calls).laid

abbrev pub hrefs_of : TextOpts → List Call → List (List ℕ)
hrefs_of opts calls = (kept_of opts calls).hrefs
