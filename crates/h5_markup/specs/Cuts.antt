-- A whole text, split at the first byte of a class.
use Rattle.std.specs.Prelude.{◌≡◌, ℕ, Bool, not, List, [], ◌∷◌, ◌==◌, ◌||◌, if◌then◌else◌}
use Rattle.std.specs.Char.{is_ascii_whitespace}
use Rattle.h5_markup.specs.declared.cut.Class.{Class}
use Rattle.h5_markup.specs.declared.cut.Class.TheVariants.{Blank, BetweenAttributes, NameEnd, AttributeNameEnd, ValueEnd, DoubleQuote, SingleQuote}

-- the bytes of a class
abbrev pub is_in : Class → ℕ → Bool
is_in Blank x = is_ascii_whitespace x
is_in BetweenAttributes x = x == 47 || is_ascii_whitespace x
is_in NameEnd x = x == 62 || (x == 47 || is_ascii_whitespace x)
is_in AttributeNameEnd x = x == 61 || (x == 62 || (x == 47 || is_ascii_whitespace x))
is_in ValueEnd x = x == 62 || is_ascii_whitespace x
is_in DoubleQuote x = x == 34
is_in SingleQuote x = x == 39

-- the bytes before the first one that stops
abbrev pub before : (ℕ → Bool) → List ℕ → List ℕ
before stop [] = []
before stop (x ∷ xs) = if stop x then [] else x ∷ before stop xs

-- the first byte that stops, and the bytes after it
abbrev pub from : (ℕ → Bool) → List ℕ → List ℕ
from stop [] = []
from stop (x ∷ xs) = if stop x then x ∷ xs else from stop xs

-- the bytes after leading bytes of a class
abbrev pub past : Class → List ℕ → List ℕ
past class xs = from (λ x. not (is_in class x)) xs

-- the first byte with everything up to a byte of the class, and the text from there on
abbrev pub CutsName : Class → List ℕ → List ℕ → List ℕ → Type 0
CutsName class [] name rest = ⊥
CutsName class (x ∷ xs) name rest = (name ≡ x ∷ before (is_in class) xs) × (rest ≡ from (is_in class) xs)
