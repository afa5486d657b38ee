-- EUC-KR (Encoding Standard, section 13.1).
use Rattle.std.specs.Prelude.{ℕ, ◌+◌, ◌-◌, ◌*◌, if◌then◌else◌, Option, Some, None}
use Rattle.h5_encodings.specs.declared.steps.Kept.{Kept}
use Rattle.h5_encodings.specs.declared.steps.Step.{Step}
use Rattle.h5_encodings.specs.MultiByte.{code_point, first_byte, is_between, last_byte, lead_of}
use Rattle.h5_encodings.specs.EucKrIndex.{euc_kr_index}

-- the pointer of a lead byte and the next byte
abbrev pub pointer : (lead b : ℕ) → Option ℕ
pointer lead b = if is_between 0x41 0xFE b then Some ((lead - 0x81) * 190 + (b - 0x41)) else None

abbrev pub behind : (lead : Option ℕ) → ℕ → Step
behind None b = first_byte (is_between 0x81 0xFE b) b
behind (Some lead) b = last_byte (code_point euc_kr_index (pointer lead b)) b

abbrev pub euc_kr_step : Kept → ℕ → Step
euc_kr_step kept b = behind (lead_of kept) b
