-- How often a byte can still be reconsumed.
use Rattle.std.specs.Prelude.{◌≡◌, ℕ, suc, Bool, not, ◌+◌, if◌then◌else◌, List}
use Rattle.std.specs.Char.{is_ascii_alphabetic, is_ascii_digit}
use Rattle.h5_tokenizer_spec.specs.Signs.{is_name_end, is_alphanumeric, is_hex_digit}
use Rattle.h5_tokenizer_spec.specs.States.{State, Text, TagName, ScriptDataEscaped, ScriptDataEscapedDash, ScriptDataEscapedDashDash, AttributeValue, BogusComment, Comment, BeforeDoctypeName, DoctypeName, BogusDoctype, AttributeName, AfterAttributeName, RawEndTagName, ScriptDataDoubleEscapeStart, AmbiguousAmpersand, NamedCharacterReference, Hexadecimal, Decimal, SelfClosingStartTag, AfterAttributeValueQuoted, CharacterReference, NumericCharacterReference, CommentLessThanSignBangDash, CommentLessThanSignBangDashDash}
use Rattle.h5_tokenizer_spec.specs.Turn.{Reconsumed}
use Rattle.h5_tokenizer_spec.specs.References.{Reference}
use Rattle.h5_tokenizer_spec.specs.Machine.{turn}

-- 0 if the byte is consumed
abbrev pub unless : Bool → ℕ
unless consumed = if consumed then 0 else 1

-- How many rows reconsume a byte at most, from a state on. Two states for attributes' names reconsume a byte in each other, so
-- the number depends on the byte: one leaves only at whitespace, '/' and '>', and the other consumes these.
abbrev pub rank : State → ℕ → ℕ
rank (Text kind) x = 0
rank (TagName tag) x = 0
rank (ScriptDataEscaped depth) x = 0
rank (ScriptDataEscapedDash depth) x = 0
rank (ScriptDataEscapedDashDash depth) x = 0
rank (AttributeValue value tag) x = 0
rank (BogusComment comment) x = 0
rank (Comment comment) x = 0
rank BeforeDoctypeName x = 0
rank (DoctypeName doctype) x = 0
rank (BogusDoctype doctype) x = 0
rank (AttributeName tag) x = unless (not (is_name_end x))
rank (AfterAttributeName tag) x = unless (is_name_end x)
rank (RawEndTagName kind buffer) x = unless (is_ascii_alphabetic x)
rank (ScriptDataDoubleEscapeStart buffer) x = unless (is_ascii_alphabetic x)
rank (AmbiguousAmpersand return) x = unless (is_alphanumeric x)
rank (NamedCharacterReference return seen) x = 1 + unless (is_alphanumeric x)
rank (Hexadecimal return code) x = if is_hex_digit x then 0 else 2
rank (Decimal return code) x = if is_ascii_digit x then 0 else 2
rank (SelfClosingStartTag tag) x = 2
rank (AfterAttributeValueQuoted tag) x = 2
rank (CharacterReference return) x = 2
rank (NumericCharacterReference return) x = 2
rank (CommentLessThanSignBangDash comment) x = 2
rank (CommentLessThanSignBangDashDash comment) x = 2
rank state x = 1

-- From a state on, a byte gets this number of rows; all but the last reconsume it. The last row is that of the other state.
pub data Meets (table : List Reference) (last : List ℕ) (x : ℕ) : ℕ → State → State → Type 0 where
  one_row : {s : State} → Meets table last x 1 s s
  more_rows : {n : ℕ} {s t u : State} (text : List ℕ) → (turn table last s x).outcome ≡ Reconsumed text t → Meets table last x n t u → Meets table last x (suc n) s u
