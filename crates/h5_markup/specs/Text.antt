-- Replacements in a text, and the meaning of whole texts.
use Rattle.std.specs.Prelude.{◌≡◌, ◌⊎◌, ◌<◌, ℕ, zero, suc, Bool, false, List, [], ◌∷◌, ◌++◌, length, map, if◌then◌else◌, ◌==◌, codes}
use Rattle.std.specs.Char.{to_ascii_lowercase}
use Rattle.h5_markup.specs.Matching.{Match, Open, No, Found, and_then, or_else, literal}

-- these bytes, as a replacement of the match
abbrev pub gives : List ℕ → Match (Unit {0}) → Match (List ℕ)
gives bytes m = and_then m (λ _ rest. Found bytes rest)

-- the five character references that are supported
abbrev pub reference : List ℕ → Match (List ℕ)
reference xs =
    or_else (gives (38 ∷ []) (literal (codes "&amp;") xs))
    (or_else (gives (60 ∷ []) (literal (codes "&lt;") xs))
    (or_else (gives (62 ∷ []) (literal (codes "&gt;") xs))
    (or_else (gives (34 ∷ []) (literal (codes "&quot;") xs))
    (gives (0xc2 ∷ 0xa0 ∷ []) (literal (codes "&nbsp;") xs)))))

-- CR LF and CR become LF
abbrev pub newline : List ℕ → Match (List ℕ)
newline xs = or_else (gives (10 ∷ []) (literal (13 ∷ 10 ∷ []) xs)) (gives (10 ∷ []) (literal (13 ∷ []) xs))

-- NUL becomes U+FFFD
abbrev pub replaced : List ℕ → Match (List ℕ)
replaced xs = gives (0xef ∷ 0xbf ∷ 0xbd ∷ []) (literal (0 ∷ []) xs)

-- a newline or a NUL
abbrev pub cleaned : List ℕ → Match (List ℕ)
cleaned xs = or_else (newline xs) (replaced xs)

-- a newline, a NUL, or, with `references`, a character reference
abbrev pub escape : Bool → List ℕ → Match (List ℕ)
escape references xs = or_else (if references then reference xs else No) (cleaned xs)

-- the replacement of the start of a whole text, followed by that of the remainder; a CR at the end is a newline
abbrev pub put : (List ℕ → List ℕ) → ℕ → List ℕ → Match (List ℕ) → List ℕ
put more x xs Open = (if x == 13 then 10 else x) ∷ more xs
put more x xs No = x ∷ more xs
put more x xs (Found bytes rest) = bytes ++ more rest

abbrev pub read_up_to : ℕ → Bool → List ℕ → List ℕ
read_up_to zero references xs = []
read_up_to (suc n) references [] = []
read_up_to (suc n) references (x ∷ xs) = put (read_up_to n references) x xs (escape references (x ∷ xs))

-- the meaning of a whole text
unfoldable pub text_of : Bool → List ℕ → List ℕ
text_of references xs = read_up_to (length xs) references xs

-- the meaning of a name: in ASCII lower case
abbrev pub name_of : List ℕ → List ℕ
name_of xs = map to_ascii_lowercase (text_of false xs)

-- a byte at the start of a whole text that means itself
abbrev pub IsPlainAt : Bool → List ℕ → Type 0
IsPlainAt references xs = (escape references xs ≡ No) ⊎ ((escape references xs ≡ Open) × (literal (13 ∷ []) xs ≡ No))

-- the start of a whole text was read, and its meaning was appended
pub record ReadsBit (references : Bool) (xs rest old new : List ℕ) : Type 0 where
  pub same : new ++ text_of references rest ≡ old ++ text_of references xs
  pub shorter : length rest < length xs
