-- Big5 (Encoding Standard, section 11.1).
use Rattle.std.specs.Prelude.{ℕ, ◌+◌, ◌-◌, ◌*◌, ◌==◌, ◌||◌, nat_lt, if◌then◌else◌, Option, Some, None}
use Rattle.h5_encodings.specs.declared.steps.Kept.{Kept}
use Rattle.h5_encodings.specs.declared.steps.Kept.TheVariants as k
use Rattle.h5_encodings.specs.declared.steps.Shown.TheVariants.{Two}
use Rattle.h5_encodings.specs.declared.steps.Step.{Step}
use Rattle.h5_encodings.specs.Steps.{shows}
use Rattle.h5_encodings.specs.MultiByte.{code_point, first_byte, is_between, last_byte, lead_of}
use Rattle.h5_encodings.specs.Big5Index.{big5_index}

abbrev pub offset : ℕ → ℕ
offset b = if nat_lt b 0x7F then 0x40 else 0x62

-- the pointer of a lead byte and the next byte
abbrev pub pointer : (lead b : ℕ) → Option ℕ
pointer lead b = if is_between 0x40 0x7E b || is_between 0xA1 0xFE b then Some ((lead - 0x81) * 157 + (b - offset b)) else None

-- four pointers have two code points each, and the others have those of the index
abbrev pub of_pointer : (pointer : Option ℕ) → ℕ → Step
of_pointer None b = last_byte None b
of_pointer (Some pointer) b =
    if pointer == 1133 then shows (Two 0xCA 0x304) k.Nothing
    else if pointer == 1135 then shows (Two 0xCA 0x30C) k.Nothing
    else if pointer == 1164 then shows (Two 0xEA 0x304) k.Nothing
    else if pointer == 1166 then shows (Two 0xEA 0x30C) k.Nothing
    else last_byte (code_point big5_index (Some pointer)) b

abbrev pub behind : (lead : Option ℕ) → ℕ → Step
behind None b = first_byte (is_between 0x81 0xFE b) b
behind (Some lead) b = of_pointer (pointer lead b) b

abbrev pub big5_step : Kept → ℕ → Step
big5_step kept b = behind (lead_of kept) b
