-- EUC-JP (Encoding Standard, section 12.1).
use Rattle.std.specs.Prelude.{ℕ, ◌+◌, ◌-◌, ◌*◌, ◌==◌, ◌&&◌, ◌||◌, Bool, true, false, if◌then◌else◌, Option, Some, None}
use Rattle.h5_encodings.specs.declared.steps.Kept.{Kept}
use Rattle.h5_encodings.specs.declared.steps.Kept.TheVariants as k
use Rattle.h5_encodings.specs.declared.steps.Shown.TheVariants.{Nothing, Character}
use Rattle.h5_encodings.specs.declared.steps.Step.{Step}
use Rattle.h5_encodings.specs.Steps.{shows}
use Rattle.h5_encodings.specs.MultiByte.{code_point, first_byte, is_between, katakana, last_byte}
use Rattle.h5_encodings.specs.Jis0208Index.{jis0208_index}
use Rattle.h5_encodings.specs.Jis0212Index.{jis0212_index}

-- the pointer of a lead byte and the next byte, for either index
abbrev pub pointer : (lead b : ℕ) → Option ℕ
pointer lead b = if is_between 0xA1 0xFE lead && is_between 0xA1 0xFE b then Some ((lead - 0xA1) * 94 + (b - 0xA1)) else None

-- half-width katakana follow 0x8E, and a lead byte of the index jis0212 follows 0x8F
abbrev pub behind_lead : (lead b : ℕ) → Step
behind_lead lead b =
    if lead == 0x8E && is_between 0xA1 0xDF b then shows (Character (katakana b)) k.Nothing
    else if lead == 0x8F && is_between 0xA1 0xFE b then shows Nothing (k.Jis0212 b)
    else last_byte (code_point jis0208_index (pointer lead b)) b

abbrev pub is_lead : ℕ → Bool
is_lead b = is_between 0x8E 0x8F b || is_between 0xA1 0xFE b

abbrev pub euc_jp_step : Kept → ℕ → Step
euc_jp_step k.Nothing b = first_byte (is_lead b) b
euc_jp_step k.Told b = first_byte (is_lead b) b
euc_jp_step (k.Half a) b = first_byte (is_lead b) b
euc_jp_step (k.Leading u) b = first_byte (is_lead b) b
euc_jp_step (k.LeadingHalf u a) b = first_byte (is_lead b) b
euc_jp_step (k.TwoOfFour first second) b = first_byte (is_lead b) b
euc_jp_step (k.ThreeOfFour first second third) b = first_byte (is_lead b) b
euc_jp_step (k.Jp state) b = first_byte (is_lead b) b
euc_jp_step (k.Lead lead) b = behind_lead lead b
euc_jp_step (k.Jis0212 lead) b = last_byte (code_point jis0212_index (pointer lead b)) b

-- a lead byte at the end is an error
abbrev pub euc_jp_breaks_off : Kept → Bool
euc_jp_breaks_off k.Nothing = false
euc_jp_breaks_off k.Told = false
euc_jp_breaks_off (k.Half a) = false
euc_jp_breaks_off (k.Leading u) = false
euc_jp_breaks_off (k.LeadingHalf u a) = false
euc_jp_breaks_off (k.TwoOfFour first second) = false
euc_jp_breaks_off (k.ThreeOfFour first second third) = false
euc_jp_breaks_off (k.Jp state) = false
euc_jp_breaks_off (k.Lead lead) = true
euc_jp_breaks_off (k.Jis0212 lead) = true
