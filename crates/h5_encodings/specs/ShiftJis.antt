-- Shift_JIS (Encoding Standard, section 12.3).
use Rattle.std.specs.Prelude.{ℕ, ◌+◌, ◌-◌, ◌*◌, ◌==◌, ◌||◌, nat_lt, if◌then◌else◌, Option, Some, None}
use Rattle.h5_encodings.specs.declared.steps.Kept.{Kept}
use Rattle.h5_encodings.specs.declared.steps.Kept.TheVariants as k
use Rattle.h5_encodings.specs.declared.steps.Shown.TheVariants.{Character}
use Rattle.h5_encodings.specs.declared.steps.Step.{Step}
use Rattle.h5_encodings.specs.Steps.{shows}
use Rattle.h5_encodings.specs.MultiByte.{code_point, first_byte, is_between, katakana, last_byte, lead_of}
use Rattle.h5_encodings.specs.Jis0208Index.{jis0208_index}

abbrev pub offset : ℕ → ℕ
offset b = if nat_lt b 0x7F then 0x40 else 0x41

abbrev pub lead_offset : ℕ → ℕ
lead_offset lead = if nat_lt lead 0xA0 then 0x81 else 0xC1

-- the pointer of a lead byte and the next byte
abbrev pub pointer : (lead b : ℕ) → Option ℕ
pointer lead b = if is_between 0x40 0x7E b || is_between 0x80 0xFC b then Some ((lead - lead_offset lead) * 188 + (b - offset b)) else None

-- the pointers from 8836 to 10715 are those of private-use characters, from U+E000 on
abbrev pub character : (pointer : Option ℕ) → Option ℕ
character None = None
character (Some pointer) = if is_between 8836 10715 pointer then Some (0xE000 + (pointer - 8836)) else code_point jis0208_index (Some pointer)

-- 0x80 is itself, and each half-width katakana is a single byte
abbrev pub first : ℕ → Step
first b =
    if b == 0x80 then shows (Character b) k.Nothing
    else if is_between 0xA1 0xDF b then shows (Character (katakana b)) k.Nothing
    else first_byte (is_between 0x81 0x9F b || is_between 0xE0 0xFC b) b

abbrev pub behind : (lead : Option ℕ) → ℕ → Step
behind None b = first b
behind (Some lead) b = last_byte (character (pointer lead b)) b

abbrev pub shift_jis_step : Kept → ℕ → Step
shift_jis_step kept b = behind (lead_of kept) b
