-- If a `style` attribute hides its element (CSS Style Attributes, section 3; CSS Syntax Level 3, sections 4 and 5).
use Rattle.std.specs.Prelude.{ℕ, ◌==◌, ◌||◌, Bool, true, false, if◌then◌else◌, List, [], ◌∷◌, ◌++◌, bytes_eq, codes}
use Rattle.std.specs.Char.{is_ascii_alphabetic, is_ascii_whitespace, to_ascii_lowercase}
use Rattle.h5_page.specs.declared.declaration.Declaration.{Declaration}
use Rattle.h5_page.specs.declared.declaration.Declaration.TheVariants as so_far
use Rattle.h5_page.specs.declared.declaration.Winner.{Winner}
use Rattle.h5_page.specs.declared.declaration.Token.{Token}
use Rattle.h5_page.specs.declared.declaration.Token.TheVariants as token
use Rattle.h5_page.specs.declared.style.Place.{Place}
use Rattle.h5_page.specs.declared.style.Place.TheVariants as place

-- words are in lower case
abbrev pub word_token : List ℕ → Token
word_token word =
    if bytes_eq word (codes "display") then token.Display
    else if bytes_eq word (codes "none") then token.None
    else if bytes_eq word (codes "important") then token.Important
    else token.Word

-- the value of `display` is `none` or other words; `!important` may follow
abbrev pub valued : Token → Declaration
valued token.None = so_far.Value true
valued token.Display = so_far.Value false
valued token.Important = so_far.Value false
valued token.Word = so_far.Value false
valued token = so_far.Other

abbrev pub after_value : (is_none : Bool) → Token → Declaration
after_value is_none token.Bang = so_far.Mark is_none
after_value is_none token.None = so_far.Value false
after_value is_none token = valued token

-- a declaration with one more token
abbrev pub next : Declaration → Token → Declaration
next so_far.Start token.Display = so_far.Name
next so_far.Name token.Colon = so_far.Colon
next so_far.Colon token = valued token
next (so_far.Value is_none) token = after_value is_none token
next (so_far.Mark is_none) token.Important = so_far.Important is_none
next declaration token = so_far.Other

-- the last declaration of `display` counts, and one that is important before others
abbrev pub with_declaration : Declaration → Winner → Winner
with_declaration (so_far.Value is_none) winner = if winner.is_important then winner else record { is_none = is_none; is_important = false }
with_declaration (so_far.Important is_none) winner = record { is_none = is_none; is_important = true }
with_declaration declaration winner = winner

-- the state between two bytes: the place; the brackets that close what is open, the innermost first; the word and the
-- declaration so far; and the complete declaration that counts
pub record Style : Type 0 where
  pub place : Place
  pub closers : List ℕ
  pub word : List ℕ
  pub declaration : Declaration
  pub winner : Winner

abbrev pub nothing_read : Style
nothing_read = record { place = place.Plain; closers = []; word = []; declaration = so_far.Start; winner = record { is_none = false; is_important = false } }

-- a token, and the end of a declaration, count outside of brackets
abbrev pub taken_in : List ℕ → Token → Style → Style
taken_in [] token s = record s { declaration = next s.declaration token }
taken_in closers token s = s

abbrev pub taken : Token → Style → Style
taken token s = taken_in s.closers token s

abbrev pub declared_in : List ℕ → Style → Style
declared_in [] s = record s { declaration = so_far.Start; winner = with_declaration s.declaration s.winner }
declared_in closers s = s

abbrev pub declared : Style → Style
declared s = declared_in s.closers s

-- the end of a word
abbrev pub worded_by : List ℕ → Style → Style
worded_by [] s = s
worded_by word s = taken (word_token word) (record s { word = [] })

abbrev pub worded : Style → Style
worded s = worded_by s.word s

-- brackets
abbrev pub opened : (closer : ℕ) → Style → Style
opened closer s = record (taken token.Other s) { closers = closer ∷ s.closers }

abbrev pub is_first : ℕ → List ℕ → Bool
is_first c [] = false
is_first c (closer ∷ closers) = c == closer

abbrev pub without_first : List ℕ → List ℕ
without_first [] = []
without_first (closer ∷ closers) = closers

-- a byte that isn't part of a word, in no comment, string or escape
abbrev pub with_other : ℕ → Style → Style
with_other c s =
    if c == 59 then declared s
    else if c == 58 then taken token.Colon s
    else if c == 33 then taken token.Bang s
    else if is_ascii_whitespace c then s
    else taken token.Other s

abbrev pub with_bracket : ℕ → Style → Style
with_bracket c s =
    if c == 40 then opened 41 s
    else if c == 91 then opened 93 s
    else if c == 123 then opened 125 s
    else if is_first c s.closers then record s { closers = without_first s.closers }
    else with_other c s

abbrev pub with_sign : ℕ → Style → Style
with_sign c s =
    if c == 47 then record s { place = place.Slash }
    else if (c == 34) || (c == 39) then record (taken token.Other s) { place = place.Quoted c }
    else if c == 92 then record (taken token.Other s) { place = place.Escape }
    else with_bracket c s

abbrev pub is_word_byte : ℕ → Bool
is_word_byte c = is_ascii_alphabetic c || (c == 45)

abbrev pub with_plain : ℕ → Style → Style
with_plain c s =
    if is_word_byte c then record s { word = s.word ++ to_ascii_lowercase c ∷ [] }
    else with_sign c (worded s)

-- comments and strings; a newline ends a string
abbrev pub after_slash : ℕ → Style → Style
after_slash c s =
    if c == 42 then record s { place = place.Comment }
    else with_plain c (record (taken token.Other s) { place = place.Plain })

abbrev pub in_comment : ℕ → Place
in_comment c = if c == 42 then place.Star else place.Comment

abbrev pub after_star : ℕ → Place
after_star c = if c == 47 then place.Plain else in_comment c

abbrev pub in_string : (quote : ℕ) → ℕ → Place
in_string quote c =
    if (c == quote) || (c == 10) || (c == 12) || (c == 13) then place.Plain
    else if c == 92 then place.QuotedEscape quote
    else place.Quoted quote

abbrev pub with_byte_at : Place → ℕ → Style → Style
with_byte_at place.Plain c s = with_plain c s
with_byte_at place.Slash c s = after_slash c s
with_byte_at place.Comment c s = record s { place = in_comment c }
with_byte_at place.Star c s = record s { place = after_star c }
with_byte_at (place.Quoted quote) c s = record s { place = in_string quote c }
with_byte_at (place.QuotedEscape quote) c s = record s { place = place.Quoted quote }
with_byte_at place.Escape c s = record s { place = place.Plain }

abbrev pub with_byte : ℕ → Style → Style
with_byte c s = with_byte_at s.place c s

abbrev pub with_bytes : List ℕ → Style → Style
with_bytes [] s = s
with_bytes (c ∷ cs) s = with_bytes cs (with_byte c s)

-- the end of the text ends all that is open
abbrev pub ended_at : Place → Style → Style
ended_at place.Slash s = taken token.Other s
ended_at place s = s

abbrev pub ended : Style → Style
ended s = worded (ended_at s.place s)

abbrev pub is_none_after : Style → Bool
is_none_after s = (with_declaration s.declaration s.winner).is_none

abbrev pub hides : List ℕ → Bool
hides text = is_none_after (ended (with_bytes text nothing_read))
