-- In raw text the end leaves at most a text.
use Rattle.std.proofs.Common.{◌≡◌, ◌++◌, ℕ, Bool, true, false, List, [], Option, Some, None, codes, cond, refl}
use Rattle.h5_tokenizer_spec.specs.declared.kinds.TextKind.{TextKind}
use Rattle.h5_tokenizer_spec.specs.declared.kinds.TextKind.TheVariants.{CdataSection}
use Rattle.h5_tokenizer_spec.specs.declared.kinds.RawTextKind.{RawTextKind}
use Rattle.h5_tokenizer_spec.specs.declared.kinds.RawTextKind.TheVariants as raw
use Rattle.h5_tokenizer_spec.specs.AtEnd.{Ending, at_end, behind_raw, coded_at_end, flushed, in_text, named_at_end}
use Rattle.h5_tokenizer_spec.specs.RawTexts.{IsRaw}
use Rattle.h5_tokenizer_spec.specs.References.{Longest, Reference, code_point, is_historical, longest}
use Rattle.h5_tokenizer_spec.specs.Signs.{null}
use Rattle.h5_tokenizer_spec.specs.States as s
use Rattle.h5_tokenizer_spec.specs.States.{Return, State, ToData, ToRcdata, ToValue}

-- no token is left
record IsText (e : Ending) : Type 0 where
  token : e.token ≡ None

text_is_text : (kind : TextKind) → IsText (in_text kind)
text_is_text CdataSection = record { token = refl }
text_is_text kind = record { token = refl }

raw_is_text : (kind : RawTextKind) (text : List ℕ) → IsText (behind_raw kind text)
raw_is_text raw.EscapedScriptData text = record { token = refl }
raw_is_text kind text = record { token = refl }

flushed_is_text : (return : Return) (text : List ℕ) → IsText (flushed return text)
flushed_is_text ToData text = record { token = refl }
flushed_is_text ToRcdata text = record { token = refl }
flushed_is_text (ToValue value tag) text = record { token = refl }

either_is_text : (b : Bool) (e f : Ending) → IsText e → IsText f → IsText (cond b e f)
either_is_text true e f h k = h
either_is_text false e f h k = k

named_is_text : (return : Return) (seen : List ℕ) (found : Option Longest) → IsText (named_at_end return seen found)
named_is_text return seen None = flushed_is_text return (codes "&" ++ seen)
named_is_text return seen (Some found) =
    either_is_text (is_historical return found null) (flushed return (codes "&" ++ seen)) _ (flushed_is_text return (codes "&" ++ seen)) (record { token = (flushed_is_text return (found.text ++ found.rest)).token })

coded_is_text : (return : Return) (code : ℕ) → IsText (coded_at_end return code)
coded_is_text return code = record { token = (flushed_is_text return (code_point code)).token }

end_is_text : (table : List Reference) (state : State) → IsRaw state → IsText (at_end table state)
end_is_text table (s.Text kind) h = text_is_text kind
end_is_text table (s.TagName tag) h = record { token = refl }
end_is_text table (s.RawLessThanSign kind) h = raw_is_text kind (codes "<")
end_is_text table (s.RawEndTagOpen kind) h = raw_is_text kind (codes "</")
end_is_text table (s.RawEndTagName kind buffer) h = raw_is_text kind (codes "</" ++ buffer)
end_is_text table s.ScriptDataEscapeStart h = record { token = refl }
end_is_text table s.ScriptDataEscapeStartDash h = record { token = refl }
end_is_text table (s.ScriptDataEscaped depth) h = record { token = refl }
end_is_text table (s.ScriptDataEscapedDash depth) h = record { token = refl }
end_is_text table (s.ScriptDataEscapedDashDash depth) h = record { token = refl }
end_is_text table (s.ScriptDataDoubleEscapeStart buffer) h = record { token = refl }
end_is_text table s.ScriptDataDoubleEscapedLessThanSign h = record { token = refl }
end_is_text table (s.ScriptDataDoubleEscapeEnd buffer) h = record { token = refl }
end_is_text table (s.BeforeAttributeName tag) h = record { token = refl }
end_is_text table (s.AttributeName tag) h = record { token = refl }
end_is_text table (s.AfterAttributeName tag) h = record { token = refl }
end_is_text table (s.BeforeAttributeValue tag) h = record { token = refl }
end_is_text table (s.AttributeValue value tag) h = record { token = refl }
end_is_text table (s.AfterAttributeValueQuoted tag) h = record { token = refl }
end_is_text table (s.SelfClosingStartTag tag) h = record { token = refl }
end_is_text table (s.CharacterReference return) h = flushed_is_text return (codes "&")
end_is_text table (s.NamedCharacterReference return seen) h = named_is_text return seen (longest table seen)
end_is_text table (s.AmbiguousAmpersand return) h = flushed_is_text return []
end_is_text table (s.NumericCharacterReference return) h = record { token = (flushed_is_text return (codes "&#")).token }
end_is_text table (s.HexadecimalStart return buffer) h = record { token = (flushed_is_text return (codes "&#" ++ buffer)).token }
end_is_text table (s.DecimalStart return) h = record { token = (flushed_is_text return (codes "&#")).token }
end_is_text table (s.Hexadecimal return code) h = record { token = (coded_is_text return code).token }
end_is_text table (s.Decimal return code) h = record { token = (coded_is_text return code).token }
end_is_text table (s.NumericCharacterReferenceEnd return code) h = coded_is_text return code
end_is_text table state h = absurd h

pub raw_end : (table : List Reference) (state : State) → IsRaw state → (at_end table state).token ≡ None
raw_end table state h = (end_is_text table state h).token
