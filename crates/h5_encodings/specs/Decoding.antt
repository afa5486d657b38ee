-- Bytes in an encoding as a text, when more bytes may follow.
use Rattle.std.specs.Prelude.{◌≡◌, ℕ, Bool, true, false, List, [], ◌++◌, if◌then◌else◌}
use Rattle.std.specs.Str.Lossy.{utf8_lossy}
use Rattle.h5_encodings.specs.declared.encoding.Encoding.{Encoding}
use Rattle.h5_encodings.specs.declared.encoding.Encoding.TheVariants as e
use Rattle.h5_encodings.specs.declared.steps.Kept.{Kept}
use Rattle.h5_encodings.specs.declared.steps.Kept.TheVariants as k
use Rattle.h5_encodings.specs.declared.steps.Shown.{Shown}
use Rattle.h5_encodings.specs.declared.steps.Shown.TheVariants.{Nothing}
use Rattle.h5_encodings.specs.declared.steps.Step.{Step}
use Rattle.h5_encodings.specs.Steps.{Reading, broken_off, shows, text_of}
use Rattle.h5_encodings.specs.SingleByte.{single_byte_step}
use Rattle.h5_encodings.specs.MultiByte.{lead_breaks_off, lead_of}
use Rattle.h5_encodings.specs.Gb18030.{gb18030_breaks_off, gb18030_step}
use Rattle.h5_encodings.specs.Big5.{big5_step}
use Rattle.h5_encodings.specs.EucJp.{euc_jp_breaks_off, euc_jp_step}
use Rattle.h5_encodings.specs.Iso2022Jp.{iso_2022_jp_ending, iso_2022_jp_step}
use Rattle.h5_encodings.specs.ShiftJis.{shift_jis_step}
use Rattle.h5_encodings.specs.EucKr.{euc_kr_step}
use Rattle.h5_encodings.specs.Utf16.{utf_16_step, utf_16_breaks_off}
use Rattle.h5_encodings.specs.UserDefined.{user_defined_step}
use Rattle.h5_encodings.specs.Replacement.{replacement_step}

-- UTF-8 has a separate definition, and isn't decoded in steps
abbrev pub is_utf8 : Encoding → Bool
is_utf8 e.Utf8 = true
is_utf8 e.Gbk = false
is_utf8 e.Gb18030 = false
is_utf8 e.Big5 = false
is_utf8 e.EucJp = false
is_utf8 e.Iso2022Jp = false
is_utf8 e.ShiftJis = false
is_utf8 e.EucKr = false
is_utf8 e.Replacement = false
is_utf8 e.Utf16be = false
is_utf8 e.Utf16le = false
is_utf8 e.XUserDefined = false
is_utf8 (e.SingleByte encoding) = false

abbrev pub step_in : Encoding → Kept → ℕ → Step
step_in e.Utf8 kept b = shows Nothing kept
step_in e.Gbk kept b = gb18030_step kept b
step_in e.Gb18030 kept b = gb18030_step kept b
step_in e.Big5 kept b = big5_step kept b
step_in e.EucJp kept b = euc_jp_step kept b
step_in e.Iso2022Jp kept b = iso_2022_jp_step kept b
step_in e.ShiftJis kept b = shift_jis_step kept b
step_in e.EucKr kept b = euc_kr_step kept b
step_in e.Replacement kept b = replacement_step kept
step_in e.Utf16be kept b = utf_16_step true kept b
step_in e.Utf16le kept b = utf_16_step false kept b
step_in e.XUserDefined kept b = user_defined_step b
step_in (e.SingleByte encoding) kept b = single_byte_step encoding b

abbrev pub ending_in : Encoding → Kept → Shown
ending_in e.Utf8 kept = Nothing
ending_in e.Gbk kept = broken_off (gb18030_breaks_off kept)
ending_in e.Gb18030 kept = broken_off (gb18030_breaks_off kept)
ending_in e.Big5 kept = broken_off (lead_breaks_off (lead_of kept))
ending_in e.EucJp kept = broken_off (euc_jp_breaks_off kept)
ending_in e.Iso2022Jp kept = iso_2022_jp_ending kept
ending_in e.ShiftJis kept = broken_off (lead_breaks_off (lead_of kept))
ending_in e.EucKr kept = broken_off (lead_breaks_off (lead_of kept))
ending_in e.Replacement kept = Nothing
ending_in e.Utf16be kept = broken_off (utf_16_breaks_off kept)
ending_in e.Utf16le kept = broken_off (utf_16_breaks_off kept)
ending_in e.XUserDefined kept = Nothing
ending_in (e.SingleByte encoding) kept = Nothing

unfoldable pub reading_of : Encoding → Reading
reading_of encoding = record { step = step_in encoding; ending = ending_in encoding }

-- the state of a decoder: its encoding; the bytes of an unfinished character, in UTF-8; what is stored in other encodings; and
-- how many U+FFFD have replaced bytes, which isn't counted for UTF-8
pub record State : Type 0 where
  pub encoding : Encoding
  pub unfinished : List ℕ
  pub kept : Kept
  pub replaced : ℕ

abbrev pub start : Encoding → State
start encoding = record { encoding = encoding; unfinished = []; kept = k.Nothing; replaced = 0 }

-- THE TEXT of bytes from a state on, up to their end
abbrev pub text_from : State → List ℕ → List ℕ
text_from s bs = if is_utf8 s.encoding then utf8_lossy (s.unfinished ++ bs) else text_of (reading_of s.encoding) s.kept bs

-- bytes were decoded to a text: for any bytes that follow, the text of all is this one, followed by theirs from the new state
pub record Decodes (old : State) (bs text : List ℕ) (new : State) : Type 0 where
  pub encoding : new.encoding ≡ old.encoding
  pub decodes : (more : List ℕ) → text_from old (bs ++ more) ≡ text ++ text_from new more
