-- Bytes, split at a byte of some class.
use Rattle.std.specs.Prelude.{ℕ, Bool, false, not, nat_eq, nat_le, List, [], ◌∷◌, ◌==◌, ◌||◌, length, drop, if◌then◌else◌, Option, Some, None}
use Rattle.std.specs.Char.{is_ascii_alphabetic, is_ascii_whitespace}
use Rattle.std.specs.List.{starts_with}
use Rattle.h5_markup.specs.Cuts.{from}
use Rattle.h5_encodings.specs.declared.cut.Class.{Class}
use Rattle.h5_encodings.specs.declared.cut.Class.TheVariants.{Blank, BetweenAttributes, NameEnd, ValueEnd, UpToSpace, Letter, Byte}

-- the bytes of a class
abbrev pub is_in : Class → ℕ → Bool
is_in Blank b = is_ascii_whitespace b
is_in BetweenAttributes b = b == 47 || is_ascii_whitespace b
is_in NameEnd b = b == 61 || (b == 62 || (b == 47 || is_ascii_whitespace b))
is_in ValueEnd b = b == 62 || is_ascii_whitespace b
is_in UpToSpace b = nat_le b 32
is_in Letter b = is_ascii_alphabetic b
is_in (Byte wanted) b = b == wanted

-- what follows the bytes of a class at the start
abbrev pub past : Class → List ℕ → List ℕ
past class bytes = from (λ b. not (is_in class b)) bytes

-- true if bytes begin with a word
abbrev pub begins : (word bytes : List ℕ) → Bool
begins word bytes = starts_with nat_eq bytes word

-- true if there is a first byte, and it is of a class
abbrev pub begins_in : Class → List ℕ → Bool
begins_in class [] = false
begins_in class (b ∷ t) = is_in class b

-- what follows the first occurrence of a word
abbrev pub behind : (word bytes : List ℕ) → Option (List ℕ)
behind word [] = None
behind word (b ∷ t) = if begins word (b ∷ t) then Some (drop (length word) (b ∷ t)) else behind word t
