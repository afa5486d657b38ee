-- The numbers of items (HTML standard, section 4.4.8, "The li element").
use Rattle.std.specs.Prelude.{ℕ, ◌+◌, ◌*◌, ◌-◌, ◌==◌, ◌&&◌, Bool, true, false, not, nat_le, nat_lt, if◌then◌else◌, List, [], ◌∷◌, ◌++◌, Option, None, Some}
use Rattle.std.specs.Fmt.{decimal}
use Rattle.h5_page.specs.declared.number.ItemNumber.{ItemNumber}

-- sizes have a limit
abbrev pub limit : ℕ
limit = 1000000000

abbrev pub one_more : ℕ → ℕ
one_more size = if nat_lt size limit then size + 1 else limit

abbrev pub with_digit : ℕ → ℕ → ℕ
with_digit size digit = if nat_lt size limit && nat_le 48 digit then size * 10 + (digit - 48) else limit

abbrev pub one : ItemNumber
one = record { size = 1; is_below = false }

-- the first number of a list with `count` items
abbrev pub first : (count : ℕ) → (falls : Bool) → ItemNumber
first count falls = if falls then record { size = count; is_below = false } else one

-- the next number, which is smaller if the numbers are reversed
abbrev pub next : (falls : Bool) → ItemNumber → ItemNumber
next falls n =
    if (if falls then n.is_below else not n.is_below) then record n { size = one_more n.size }
    else if n.size == 0 then record { size = 1; is_below = falls }
    else record n { size = n.size - 1 }

-- the mark of an item
abbrev pub mark_of : ItemNumber → List ℕ
mark_of n = (if n.is_below && nat_lt 0 n.size then 45 ∷ [] else []) ++ decimal n.size ++ 46 ∷ []

-- a number in digits, which may follow a sign; what follows the digits is ignored (HTML standard, section 2.3.4.1, "Signed
-- integers", without whitespace before the number)
abbrev pub is_digit : ℕ → Bool
is_digit c = nat_le 48 c && nat_le c 57

abbrev pub digits_in : ℕ → List ℕ → ℕ
digits_in size [] = size
digits_in size (c ∷ cs) = if is_digit c then digits_in (with_digit size c) cs else size

abbrev pub unsigned : (is_below : Bool) → List ℕ → Option ItemNumber
unsigned is_below [] = None
unsigned is_below (c ∷ cs) = if is_digit c then Some (record { size = digits_in 0 (c ∷ cs); is_below = is_below }) else None

abbrev pub number_in : List ℕ → Option ItemNumber
number_in [] = None
number_in (c ∷ cs) =
    if c == 45 then unsigned true cs
    else if c == 43 then unsigned false cs
    else unsigned false (c ∷ cs)
