-- Texts in lines: six bytes are written as a backslash and a letter, every other byte as itself.
use Rattle.std.specs.Prelude.{ℕ, Bool, ◌||◌, List, [], ◌∷◌, Option, Some, None, ◌==◌, if◌then◌else◌}
use Rattle.std.specs.List.{flat_map}
use Rattle.std.specs.Option.{option_map}

-- the letter of a byte that has one: LF, TAB, FF, CR, NUL, and the backslash itself
abbrev pub letter_of : ℕ → Option ℕ
letter_of c =
    if c == 10 then Some 110
    else (if c == 9 then Some 116
    else (if c == 12 then Some 102
    else (if c == 13 then Some 114
    else (if c == 0 then Some 48
    else (if c == 92 then Some 92
    else None)))))

-- the byte of a letter: n, t, f, r, 0, and the backslash
abbrev pub byte_of : ℕ → Option ℕ
byte_of letter =
    if letter == 110 then Some 10
    else (if letter == 116 then Some 9
    else (if letter == 102 then Some 12
    else (if letter == 114 then Some 13
    else (if letter == 48 then Some 0
    else (if letter == 92 then Some 92
    else None)))))

-- a byte as it is written
abbrev pub written_by : Option ℕ → ℕ → List ℕ
written_by None c = c ∷ []
written_by (Some letter) c = 92 ∷ letter ∷ []

abbrev pub escape_byte : ℕ → List ℕ
escape_byte c = written_by (letter_of c) c

abbrev pub escape : List ℕ → List ℕ
escape = flat_map escape_byte

-- a byte before a text, if both are present
abbrev pub put : Option ℕ → Option (List ℕ) → Option (List ℕ)
put None text = None
put (Some c) text = option_map (λ t. c ∷ t) text

-- the text without its escapes; none if a backslash is followed by another letter or by nothing
abbrev pub unescape : List ℕ → Option (List ℕ)
unescape [] = Some []
unescape (c ∷ []) = if c == 92 then None else Some (c ∷ [])
unescape (c ∷ d ∷ xs) = if c == 92 then put (byte_of d) (unescape xs) else put (Some c) (unescape (d ∷ xs))

-- the five bytes other than the backslash that always have an escape
abbrev pub is_raw : ℕ → Bool
is_raw c = (c == 10) || ((c == 9) || ((c == 12) || ((c == 13) || (c == 0))))
