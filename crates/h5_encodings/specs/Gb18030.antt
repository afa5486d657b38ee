-- gb18030 and GBK, which have one decoder (Encoding Standard, section 10).
use Rattle.std.specs.Prelude.{ℕ, ◌+◌, ◌-◌, ◌*◌, ◌==◌, ◌&&◌, ◌||◌, Bool, true, false, nat_lt, nat_le, List, [], ◌∷◌, if◌then◌else◌, Option, Some, None}
use Rattle.h5_encodings.specs.declared.steps.Kept.{Kept}
use Rattle.h5_encodings.specs.declared.steps.Kept.TheVariants as k
use Rattle.h5_encodings.specs.declared.steps.Shown.{Shown}
use Rattle.h5_encodings.specs.declared.steps.Shown.TheVariants.{Nothing, Character, Error, ErrorAnd}
use Rattle.h5_encodings.specs.declared.steps.Step.{Step}
use Rattle.h5_encodings.specs.Steps.{after, shows}
use Rattle.h5_encodings.specs.MultiByte.{code_point, first_byte, is_between, last_byte}
use Rattle.h5_encodings.specs.Gb18030Index.{gb18030_index}
use Rattle.h5_encodings.specs.Gb18030Ranges.{gb18030_ranges}

abbrev pub is_lead : ℕ → Bool
is_lead b = is_between 0x81 0xFE b

abbrev pub is_digit : ℕ → Bool
is_digit b = is_between 0x30 0x39 b

abbrev pub offset : ℕ → ℕ
offset b = if nat_lt b 0x7F then 0x40 else 0x41

-- the pointer of a lead byte and the next byte
abbrev pub pointer : (lead b : ℕ) → Option ℕ
pointer lead b = if is_between 0x40 0x7E b || is_between 0x80 0xFE b then Some ((lead - 0x81) * 190 + (b - offset b)) else None

-- the pointer of four bytes in the index gb18030 ranges
abbrev pub ranges_pointer : (first second third fourth : ℕ) → ℕ
ranges_pointer first second third fourth = (first - 0x81) * 12600 + (second - 0x30) * 1260 + (third - 0x81) * 10 + (fourth - 0x30)

-- the last row whose pointer is at most the given one; `found` if there is none
abbrev pub row_at : (found : ℕ × ℕ) → (rows : List (ℕ × ℕ)) → (pointer : ℕ) → ℕ × ℕ
row_at found [] pointer = found
row_at found (row ∷ rows) pointer = row_at (if nat_le row.0 pointer then row else found) rows pointer

-- the number as a code point: each number that the ranges give is one
abbrev pub scalar : ℕ → Option ℕ
scalar c = if is_between 0xD800 0xDFFF c || nat_lt 0x10FFFF c then None else Some c

-- the code point that is as far after that of a row as the pointer is after the row's
abbrev pub counted_from : (row : ℕ × ℕ) → (pointer : ℕ) → Option ℕ
counted_from row pointer = scalar (row.1 + (pointer - row.0))

abbrev pub ranges_code_point : (pointer : ℕ) → Option ℕ
ranges_code_point pointer =
    if nat_lt 39419 pointer && nat_lt pointer 189000 || nat_lt 1237575 pointer then None
    else if pointer == 7457 then Some 0xE7C7
    else counted_from (row_at (0, 0) gb18030_ranges pointer) pointer

-- 0x80 is the euro sign
abbrev pub first : ℕ → Step
first b = if b == 0x80 then shows (Character 0x20AC) k.Nothing else first_byte (is_lead b) b

-- a digit may be the second of four bytes; any other byte is the last of two
abbrev pub behind_lead : (lead b : ℕ) → Step
behind_lead lead b = if is_digit b then shows Nothing (k.TwoOfFour lead b) else last_byte (code_point gb18030_index (pointer lead b)) b

-- if no third byte follows, that is an error, the digit is a character, and the byte begins a new one
abbrev pub behind_two : (lead second b : ℕ) → Step
behind_two lead second b = if is_lead b then shows Nothing (k.ThreeOfFour lead second b) else after (ErrorAnd second) (first b)

abbrev pub shown_of_four : Option ℕ → Shown
shown_of_four (Some c) = Character c
shown_of_four None = Error

-- if no fourth byte follows, that is an error, the digit is a character, and the third byte is a lead byte before this one
abbrev pub behind_three : (lead second third b : ℕ) → Step
behind_three lead second third b =
    if is_digit b then shows (shown_of_four (ranges_code_point (ranges_pointer lead second third b))) k.Nothing
    else after (ErrorAnd second) (behind_lead third b)

abbrev pub gb18030_step : Kept → ℕ → Step
gb18030_step k.Nothing b = first b
gb18030_step k.Told b = first b
gb18030_step (k.Half a) b = first b
gb18030_step (k.Leading u) b = first b
gb18030_step (k.LeadingHalf u a) b = first b
gb18030_step (k.Jis0212 lead) b = first b
gb18030_step (k.Jp state) b = first b
gb18030_step (k.Lead lead) b = behind_lead lead b
gb18030_step (k.TwoOfFour lead second) b = behind_two lead second b
gb18030_step (k.ThreeOfFour lead second third) b = behind_three lead second third b

-- all bytes that are left at the end are one error
abbrev pub gb18030_breaks_off : Kept → Bool
gb18030_breaks_off k.Nothing = false
gb18030_breaks_off k.Told = false
gb18030_breaks_off (k.Half a) = false
gb18030_breaks_off (k.Leading u) = false
gb18030_breaks_off (k.LeadingHalf u a) = false
gb18030_breaks_off (k.Jis0212 lead) = false
gb18030_breaks_off (k.Jp state) = false
gb18030_breaks_off (k.Lead lead) = true
gb18030_breaks_off (k.TwoOfFour lead second) = true
gb18030_breaks_off (k.ThreeOfFour lead second third) = true
