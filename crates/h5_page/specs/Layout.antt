-- The lines of a page, laid out text by text: the gap between two texts, and what is written for it.
use Rattle.std.specs.Prelude.{ℕ, ◌==◌, ◌||◌, Bool, true, false, if◌then◌else◌, List, [], ◌∷◌, ◌++◌, Option, None, Some}
use Rattle.h5_page.specs.Wrapped.{spaces, wrapped}
use Rattle.h5_page.specs.declared.layout.Gap.{Gap}
use Rattle.h5_page.specs.declared.layout.Gap.TheVariants.{Start, Front, Mark, Close, Blank, Line, Paragraph}

-- the complete lines, the current one, and the gap before the next text; how wide a line may be; and whether the current line
-- is wrapped, and how far the wrapped part of it is indented
pub record Laid : Type 0 where
  pub lines : List ℕ
  pub line : List ℕ
  pub gap : Gap
  pub width : Option ℕ
  pub is_whole : Bool
  pub hang : ℕ

abbrev pub nothing_laid : (width : Option ℕ) → Laid
nothing_laid width = record { lines = []; line = []; gap = Start; width = width; is_whole = false; hang = 0 }

-- whitespace is one space between two words, and nothing at either end of a line
abbrev pub behind_blank : Gap → Gap
behind_blank Close = Blank
behind_blank gap = gap

-- a block begins or ends: at least a newline, unless the line is empty, and an empty line before and after a paragraph
abbrev pub behind_break : (is_wide : Bool) → Gap → Gap
behind_break is_wide Start = Start
behind_break is_wide Front = Front
behind_break is_wide Mark = Mark
behind_break is_wide Paragraph = Paragraph
behind_break true gap = Paragraph
behind_break false gap = Line

-- an item or a cell ends: it has a line, even if it has no text
abbrev pub behind_end : Gap → Gap
behind_end Paragraph = Paragraph
behind_end gap = Line

-- a newline, as by `br`
abbrev pub behind_line_end : Gap → Gap
behind_line_end Start = Start
behind_line_end Front = Front
behind_line_end Line = Paragraph
behind_line_end Paragraph = Paragraph
behind_line_end gap = Line

-- the line grows, and ends
abbrev pub with_line : List ℕ → Laid → Laid
with_line text p = record p { line = p.line ++ text }

abbrev pub line_by : Option ℕ → Laid → List ℕ
line_by None p = p.line
line_by (Some width) p = if p.is_whole then p.line else wrapped width p.hang p.line

abbrev pub next_line : Laid → Laid
next_line p = record p { lines = p.lines ++ line_by p.width p ++ 10 ∷ []; line = []; is_whole = false }

abbrev pub indented : (indent : ℕ) → Laid → Laid
indented indent p = record (with_line (spaces indent) p) { hang = indent }

-- the gap is written, so that a text can follow; new lines are indented
abbrev pub opened_by : Gap → (indent : ℕ) → Laid → Laid
opened_by Start indent p = indented indent p
opened_by Front indent p = p
opened_by Mark indent p = record (with_line (32 ∷ []) p) { hang = indent }
opened_by Close indent p = p
opened_by Blank indent p = with_line (32 ∷ []) p
opened_by Line indent p = indented indent (next_line p)
opened_by Paragraph indent p = indented indent (next_line (next_line p))

abbrev pub opened : (indent : ℕ) → Laid → Laid
opened indent p = opened_by p.gap indent p

-- a text in a line, which isn't wrapped if it keeps whitespace; the mark of an item; a cell, which begins a line, or follows
-- another cell and a tab
abbrev pub inked : (indent : ℕ) → List ℕ → Laid → Laid
inked indent text p = record (with_line text (opened indent p)) { gap = Close }

abbrev pub inked_as : (keeps_blanks : Bool) → (indent : ℕ) → List ℕ → Laid → Laid
inked_as true indent text p = record (inked indent text p) { is_whole = true }
inked_as false indent text p = inked indent text p

abbrev pub marked : (indent : ℕ) → List ℕ → Laid → Laid
marked indent mark p = record (with_line mark (opened indent p)) { gap = Mark }

abbrev pub celled : (indent : ℕ) → (is_first : Bool) → Laid → Laid
celled indent true p = record (opened indent p) { gap = Front }
celled indent false p = record (with_line (9 ∷ []) p) { gap = Front; is_whole = true }

-- whitespace, a break, the end of an item or a cell, and the end of a line: after an empty line, one more is written
abbrev pub blanked : Laid → Laid
blanked p = record p { gap = behind_blank p.gap }

abbrev pub broken : (is_wide : Bool) → Laid → Laid
broken is_wide p = record p { gap = behind_break is_wide p.gap }

abbrev pub ended : Laid → Laid
ended p = record p { gap = behind_end p.gap }

abbrev pub line_ended_by : Gap → Laid → Laid
line_ended_by Paragraph p = next_line p
line_ended_by gap p = record p { gap = behind_line_end gap }

abbrev pub line_ended : Laid → Laid
line_ended p = line_ended_by p.gap p

-- ASCII whitespace (Infra standard, section 4.6, "Code points")
abbrev pub is_blank : ℕ → Bool
is_blank c = (c == 9) || ((c == 10) || ((c == 12) || ((c == 13) || (c == 32))))

-- a byte of a text that keeps whitespace, and of one that collapses it
abbrev pub with_byte : (keeps_blanks : Bool) → (indent : ℕ) → ℕ → Laid → Laid
with_byte true indent c p = if c == 10 then line_ended p else inked_as true indent (c ∷ []) p
with_byte false indent c p = if is_blank c then blanked p else inked_as false indent (c ∷ []) p

abbrev pub with_text : (keeps_blanks : Bool) → (indent : ℕ) → List ℕ → Laid → Laid
with_text keeps_blanks indent [] p = p
with_text keeps_blanks indent (c ∷ cs) p = with_text keeps_blanks indent cs (with_byte keeps_blanks indent c p)

-- all lines; the current one is last, unless it is empty
abbrev pub whole_of : List ℕ → Laid → List ℕ
whole_of [] p = p.lines
whole_of line p = (next_line p).lines

abbrev pub whole : Laid → List ℕ
whole p = whole_of p.line p
