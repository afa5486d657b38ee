-- The encoding that the text of a `content` attribute declares (HTML standard, "Fetching resources", "Extracting character encodings from
-- meta elements").
use Rattle.std.specs.Prelude.{ℕ, ◌==◌, ◌||◌, if◌then◌else◌, List, [], ◌∷◌, codes, Option, Some, None}
use Rattle.std.specs.Char.{is_ascii_whitespace, to_ascii_lowercase}

-- the text after leading whitespace
abbrev pub after_blanks : List ℕ → List ℕ
after_blanks [] = []
after_blanks (b ∷ t) = if is_ascii_whitespace b then after_blanks t else b ∷ t

-- the text after a word at its start, ASCII case-insensitively, if the word is there
abbrev pub after_word : (word text : List ℕ) → Option (List ℕ)
after_word [] t = Some t
after_word (p ∷ ps) [] = None
after_word (p ∷ ps) (b ∷ t) = if to_ascii_lowercase b == p then after_word ps t else None

-- the text after a `=` at its start, if there is one
abbrev pub after_equals : List ℕ → Option (List ℕ)
after_equals [] = None
after_equals (b ∷ t) = if b == 61 then Some t else None

abbrev pub and_blanks_and_equals : Option (List ℕ) → Option (List ℕ)
and_blanks_and_equals None = None
and_blanks_and_equals (Some t) = after_equals (after_blanks t)

-- the text after `charset`, whitespace and `=` at its start
abbrev pub after_declaration : List ℕ → Option (List ℕ)
after_declaration t = and_blanks_and_equals (after_word (codes "charset") t)

abbrev pub first_or_else : Option (List ℕ) → Option (List ℕ) → Option (List ℕ)
first_or_else None other = other
first_or_else (Some t) other = Some t

-- the text after the first of these
abbrev pub after_charset : List ℕ → Option (List ℕ)
after_charset [] = None
after_charset (b ∷ t) = first_or_else (after_declaration (b ∷ t)) (after_charset t)

-- a result, if there is one, with one more byte before it
abbrev pub with_first : ℕ → Option (List ℕ) → Option (List ℕ)
with_first b None = None
with_first b (Some t) = Some (b ∷ t)

-- the text before a quote, if there is one
abbrev pub up_to_quote : (quote : ℕ) → List ℕ → Option (List ℕ)
up_to_quote quote [] = None
up_to_quote quote (b ∷ t) = if b == quote then Some [] else with_first b (up_to_quote quote t)

-- the text before whitespace or a `;`, or up to the end
abbrev pub up_to_end : List ℕ → List ℕ
up_to_end [] = []
up_to_end (b ∷ t) = if is_ascii_whitespace b || b == 59 then [] else b ∷ up_to_end t

-- the encoding at the start of a text: in quotes, or up to whitespace or a `;`
abbrev pub encoding_at : List ℕ → Option (List ℕ)
encoding_at [] = None
encoding_at (b ∷ t) = if b == 34 || b == 39 then up_to_quote b t else Some (up_to_end (b ∷ t))

abbrev pub encoding_behind : Option (List ℕ) → Option (List ℕ)
encoding_behind None = None
encoding_behind (Some t) = encoding_at (after_blanks t)

-- THE ENCODING that a text declares, if any
unfoldable pub meta_encoding : List ℕ → Option (List ℕ)
meta_encoding t = encoding_behind (after_charset t)
