-- Texts of up to seven bytes as numbers.
use Rattle.std.specs.Prelude.{ℕ, ◌+◌, ◌*◌, ◌/◌, ◌%◌, ◌^◌, ◌<◌, List, [], ◌∷◌, if◌then◌else◌, length, nat_lt, reverse}

-- bytes in reverse order as one number, which begins with a 1
abbrev pub packed : List ℕ → ℕ
packed [] = 1
packed (x ∷ xs) = packed xs * 256 + x

-- a text as one number: different texts have different numbers
abbrev pub key_of : List ℕ → ℕ
key_of text = packed (reverse text)

-- the key of a text of up to seven bytes, or 0 for a longer one
abbrev pub short_key : List ℕ → ℕ
short_key text = if nat_lt 7 (length text) then 0 else key_of text

-- the slot of the number of the name of up to seven bytes with this key
unfoldable pub short_slot : ℕ → ℕ
short_slot key = key * 16648395651673952267 % 2 ^ 64 / 2 ^ 54

-- each number of a list is a byte
abbrev pub AreBytes : List ℕ → Type 0
AreBytes [] = Unit {0}
AreBytes (x ∷ xs) = (x < 256) × AreBytes xs
