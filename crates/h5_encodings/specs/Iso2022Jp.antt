-- ISO-2022-JP (Encoding Standard, section 12.2). The mode is the decoder's output state. If no part is stored, it is also the
-- decoder's state; `TwoBytes` is "lead byte". With a lead byte stored, the state is "trail byte", and the mode is `TwoBytes`.
-- With ESC the state is "escape start", with ESC and a sign "escape".
use Rattle.std.specs.Prelude.{ℕ, ◌+◌, ◌-◌, ◌*◌, ◌==◌, ◌&&◌, ◌||◌, Bool, true, false, not, if◌then◌else◌, Option, Some, None}
use Rattle.h5_encodings.specs.declared.steps.JpMode.{JpMode}
use Rattle.h5_encodings.specs.declared.steps.JpMode.TheVariants as m
use Rattle.h5_encodings.specs.declared.steps.JpPart.{JpPart}
use Rattle.h5_encodings.specs.declared.steps.JpPart.TheVariants as p
use Rattle.h5_encodings.specs.declared.steps.JpState.{JpState}
use Rattle.h5_encodings.specs.declared.steps.Kept.{Kept}
use Rattle.h5_encodings.specs.declared.steps.Kept.TheVariants as k
use Rattle.h5_encodings.specs.declared.steps.Shown.{Shown}
use Rattle.h5_encodings.specs.declared.steps.Shown.TheVariants.{Nothing, Character, Error, ErrorAnd, TwoErrors}
use Rattle.h5_encodings.specs.declared.steps.Step.{Step}
use Rattle.h5_encodings.specs.Steps.{after, shows}
use Rattle.h5_encodings.specs.MultiByte.{code_point, is_ascii, is_between}
use Rattle.h5_encodings.specs.Jis0208Index.{jis0208_index}

abbrev pub start : JpState
start = record { mode = m.Ascii; output_flag = false; part = p.Nothing }

-- the state of a decoder, by what it stores
abbrev pub state_of : Kept → JpState
state_of k.Nothing = start
state_of k.Told = start
state_of (k.Half a) = start
state_of (k.Leading u) = start
state_of (k.LeadingHalf u a) = start
state_of (k.Lead lead) = start
state_of (k.Jis0212 lead) = start
state_of (k.TwoOfFour first second) = start
state_of (k.ThreeOfFour first second third) = start
state_of (k.Jp state) = state

abbrev pub keeps : JpMode → (output_flag : Bool) → JpPart → Kept
keeps mode output_flag part = k.Jp (record { mode = mode; output_flag = output_flag; part = part })

-- the half-width katakana of a byte from 0x21 to 0x5F
abbrev pub half_width : ℕ → ℕ
half_width b = 0xFF61 + (b - 0x21)

-- SO, SI and ESC aren't characters
abbrev pub is_plain : ℕ → Bool
is_plain b = is_ascii b && not (b == 0x0E || (b == 0x0F || b == 0x1B))

abbrev pub plain : ℕ → Option ℕ
plain b = if is_plain b then Some b else None

-- the character of a single byte
abbrev pub character : JpMode → ℕ → Option ℕ
character m.Ascii b = plain b
character m.Roman b = if b == 0x5C then Some 0xA5 else if b == 0x7E then Some 0x203E else plain b
character m.Katakana b = if is_between 0x21 0x5F b then Some (half_width b) else None
character m.TwoBytes b = None

abbrev pub shown_of : Option ℕ → Shown
shown_of (Some c) = Character c
shown_of None = Error

-- a byte other than ESC, in the states "ASCII", "Roman", "katakana" and "lead byte"
abbrev pub byte_in : JpMode → ℕ → Step
byte_in m.Ascii b = shows (shown_of (character m.Ascii b)) (keeps m.Ascii false p.Nothing)
byte_in m.Roman b = shows (shown_of (character m.Roman b)) (keeps m.Roman false p.Nothing)
byte_in m.Katakana b = shows (shown_of (character m.Katakana b)) (keeps m.Katakana false p.Nothing)
byte_in m.TwoBytes b =
    if is_between 0x21 0x7E b then shows Nothing (keeps m.TwoBytes false (p.Lead b))
    else shows Error (keeps m.TwoBytes false p.Nothing)

abbrev pub between : JpMode → (output_flag : Bool) → ℕ → Step
between mode output_flag b = if b == 0x1B then shows Nothing (keeps mode output_flag p.Escape) else byte_in mode b

-- the pointer of a lead byte and the next byte
abbrev pub pointer : (lead b : ℕ) → Option ℕ
pointer lead b = if is_between 0x21 0x7E b then Some ((lead - 0x21) * 94 + (b - 0x21)) else None

-- in "trail byte": a byte that isn't a trail byte is one error with its lead byte, and begins nothing but an escape
abbrev pub behind_lead : JpMode → (output_flag : Bool) → (lead b : ℕ) → Step
behind_lead mode output_flag lead b =
    if b == 0x1B then shows Error (keeps mode output_flag p.Escape)
    else shows (shown_of (code_point jis0208_index (pointer lead b))) (keeps mode output_flag p.Nothing)

-- in "escape start": a byte that isn't the sign of an escape is read again, after an error
abbrev pub behind_escape : JpMode → (output_flag : Bool) → ℕ → Step
behind_escape mode output_flag b =
    if b == 0x24 then shows Nothing (keeps mode output_flag p.EscapeDollar)
    else if b == 0x28 then shows Nothing (keeps mode output_flag p.EscapeParenthesis)
    else after Error (between mode false b)

-- the mode that an escape sets, by its last byte
abbrev pub behind_dollar : ℕ → Option JpMode
behind_dollar b = if b == 0x40 || b == 0x42 then Some m.TwoBytes else None

abbrev pub behind_parenthesis : ℕ → Option JpMode
behind_parenthesis b = if b == 0x42 then Some m.Ascii else if b == 0x4A then Some m.Roman else if b == 0x49 then Some m.Katakana else None

-- not an escape: an error, and then its sign and its last byte are read again
abbrev pub no_escape : JpMode → (sign b : ℕ) → Step
no_escape m.Ascii sign b = after (ErrorAnd sign) (between m.Ascii false b)
no_escape m.Roman sign b = after (ErrorAnd sign) (between m.Roman false b)
no_escape m.Katakana sign b = after (ErrorAnd (half_width sign)) (between m.Katakana false b)
no_escape m.TwoBytes sign b = after Error (behind_lead m.TwoBytes false sign b)

-- in "escape": an escape is an error if nothing was output since the previous one
abbrev pub behind_sign : Option JpMode → JpMode → (output_flag : Bool) → (sign b : ℕ) → Step
behind_sign (Some new) mode output_flag sign b = shows (if output_flag then Error else Nothing) (keeps new true p.Nothing)
behind_sign None mode output_flag sign b = no_escape mode sign b

abbrev pub step_of_part : JpPart → JpMode → (output_flag : Bool) → ℕ → Step
step_of_part p.Nothing mode output_flag b = between mode output_flag b
step_of_part (p.Lead lead) mode output_flag b = behind_lead mode output_flag lead b
step_of_part p.Escape mode output_flag b = behind_escape mode output_flag b
step_of_part p.EscapeDollar mode output_flag b = behind_sign (behind_dollar b) mode output_flag 0x24 b
step_of_part p.EscapeParenthesis mode output_flag b = behind_sign (behind_parenthesis b) mode output_flag 0x28 b

abbrev pub step_from : JpState → ℕ → Step
step_from state b = step_of_part state.part state.mode state.output_flag b

abbrev pub iso_2022_jp_step : Kept → ℕ → Step
iso_2022_jp_step kept b = step_from (state_of kept) b

-- the sign of an escape at the end is read again after the error: it is a character, or a lead byte, and so a second error
abbrev pub sign_at_end : JpMode → (sign : ℕ) → Shown
sign_at_end m.Ascii sign = ErrorAnd sign
sign_at_end m.Roman sign = ErrorAnd sign
sign_at_end m.Katakana sign = ErrorAnd (half_width sign)
sign_at_end m.TwoBytes sign = TwoErrors

abbrev pub ending_of_part : JpPart → JpMode → Shown
ending_of_part p.Nothing mode = Nothing
ending_of_part (p.Lead lead) mode = Error
ending_of_part p.Escape mode = Error
ending_of_part p.EscapeDollar mode = sign_at_end mode 0x24
ending_of_part p.EscapeParenthesis mode = sign_at_end mode 0x28

abbrev pub ending_from : JpState → Shown
ending_from state = ending_of_part state.part state.mode

abbrev pub iso_2022_jp_ending : Kept → Shown
iso_2022_jp_ending kept = ending_from (state_of kept)
