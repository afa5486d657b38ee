-- What the decoders of encodings with several bytes per character share (Encoding Standard, sections 10 to 13).
use Rattle.std.specs.Prelude.{ℕ, ◌+◌, ◌-◌, ◌==◌, ◌&&◌, Bool, true, false, nat_lt, nat_le, List, slice_index, if◌then◌else◌, Option, Some, None}
use Rattle.h5_encodings.specs.declared.steps.Kept.{Kept}
use Rattle.h5_encodings.specs.declared.steps.Kept.TheVariants as k
use Rattle.h5_encodings.specs.declared.steps.Shown.{Shown}
use Rattle.h5_encodings.specs.declared.steps.Shown.TheVariants.{Nothing, Character, Error, ErrorAnd}
use Rattle.h5_encodings.specs.declared.steps.Step.{Step}
use Rattle.h5_encodings.specs.Steps.{shows}

abbrev pub is_between : (low high b : ℕ) → Bool
is_between low high b = nat_le low b && nat_le b high

abbrev pub is_ascii : ℕ → Bool
is_ascii b = nat_lt b 128

-- the lead byte that is stored, if any
abbrev pub lead_of : Kept → Option ℕ
lead_of k.Nothing = None
lead_of k.Told = None
lead_of (k.Half a) = None
lead_of (k.Leading u) = None
lead_of (k.LeadingHalf u a) = None
lead_of (k.Lead lead) = Some lead
lead_of (k.Jis0212 lead) = None
lead_of (k.TwoOfFour first second) = None
lead_of (k.ThreeOfFour first second third) = None
lead_of (k.Jp state) = None

-- the half-width katakana of a byte from 0xA1 to 0xDF
abbrev pub katakana : ℕ → ℕ
katakana b = 0xFF61 + (b - 0xA1)

-- 0 in an index means that the pointer has no code point
abbrev pub not_null : ℕ → Option ℕ
not_null c = if c == 0 then None else Some c

-- the index code point of a pointer, if there is one
abbrev pub code_point : (index : List ℕ) → (pointer : Option ℕ) → Option ℕ
code_point index None = None
code_point index (Some pointer) = not_null (slice_index index pointer)

-- the first byte of a character
abbrev pub first_byte : (is_lead : Bool) → ℕ → Step
first_byte is_lead b =
    if is_ascii b then shows (Character b) k.Nothing
    else if is_lead then shows Nothing (k.Lead b)
    else shows Error k.Nothing

-- the last byte of a code point; without a code point that is an error, and an ASCII byte is read again, as itself
abbrev pub shown_at : Option ℕ → ℕ → Shown
shown_at (Some c) b = Character c
shown_at None b = if is_ascii b then ErrorAnd b else Error

abbrev pub last_byte : Option ℕ → ℕ → Step
last_byte c b = shows (shown_at c b) k.Nothing

-- a lead byte at the end is an error
abbrev pub lead_breaks_off : Option ℕ → Bool
lead_breaks_off None = false
lead_breaks_off (Some lead) = true
