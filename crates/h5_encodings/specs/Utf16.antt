-- UTF-16, with the higher byte first or last (Encoding Standard, section 14.2).
use Rattle.std.specs.Prelude.{ℕ, ◌+◌, ◌*◌, ◌%◌, ◌&&◌, Bool, true, false, nat_le, if◌then◌else◌}
use Rattle.h5_encodings.specs.declared.steps.Kept.{Kept}
use Rattle.h5_encodings.specs.declared.steps.Kept.TheVariants as k
use Rattle.h5_encodings.specs.declared.steps.Shown.TheVariants.{Nothing, Character, Error, ErrorAnd}
use Rattle.h5_encodings.specs.declared.steps.Step.{Step}
use Rattle.h5_encodings.specs.Steps.{shows}

abbrev pub unit_of : (big_endian : Bool) → ℕ → ℕ → ℕ
unit_of big_endian a b = if big_endian then a * 256 + b else b * 256 + a

abbrev pub is_leading : ℕ → Bool
is_leading u = nat_le 0xD800 u && nat_le u 0xDBFF

abbrev pub is_trailing : ℕ → Bool
is_trailing u = nat_le 0xDC00 u && nat_le u 0xDFFF

-- a leading surrogate waits for a trailing one; a trailing surrogate alone is an error
abbrev pub of_unit : ℕ → Step
of_unit u =
    if is_leading u then shows Nothing (k.Leading u)
    else if is_trailing u then shows Error k.Nothing
    else shows (Character u) k.Nothing

-- the character of a surrogate pair
abbrev pub pair : (leading trailing : ℕ) → ℕ
pair leading trailing = 0x10000 + (leading % 1024) * 1024 + trailing % 1024

-- after a leading surrogate: if no trailing one follows, that is an error, and the code unit is read by itself
abbrev pub behind_leading : (leading u : ℕ) → Step
behind_leading leading u =
    if is_trailing u then shows (Character (pair leading u)) k.Nothing
    else if is_leading u then shows Error (k.Leading u)
    else shows (ErrorAnd u) k.Nothing

abbrev pub utf_16_step : (big_endian : Bool) → Kept → ℕ → Step
utf_16_step big_endian k.Nothing b = shows Nothing (k.Half b)
utf_16_step big_endian k.Told b = shows Nothing (k.Half b)
utf_16_step big_endian (k.Lead lead) b = shows Nothing (k.Half b)
utf_16_step big_endian (k.Jis0212 lead) b = shows Nothing (k.Half b)
utf_16_step big_endian (k.TwoOfFour first second) b = shows Nothing (k.Half b)
utf_16_step big_endian (k.ThreeOfFour first second third) b = shows Nothing (k.Half b)
utf_16_step big_endian (k.Jp state) b = shows Nothing (k.Half b)
utf_16_step big_endian (k.Half a) b = of_unit (unit_of big_endian a b)
utf_16_step big_endian (k.Leading u) b = shows Nothing (k.LeadingHalf u b)
utf_16_step big_endian (k.LeadingHalf u a) b = behind_leading u (unit_of big_endian a b)

-- all bytes that are left at the end are one error
abbrev pub utf_16_breaks_off : Kept → Bool
utf_16_breaks_off k.Nothing = false
utf_16_breaks_off k.Told = false
utf_16_breaks_off (k.Lead lead) = false
utf_16_breaks_off (k.Jis0212 lead) = false
utf_16_breaks_off (k.TwoOfFour first second) = false
utf_16_breaks_off (k.ThreeOfFour first second third) = false
utf_16_breaks_off (k.Jp state) = false
utf_16_breaks_off (k.Half a) = true
utf_16_breaks_off (k.Leading u) = true
utf_16_breaks_off (k.LeadingHalf u a) = true
