-- What is left at the end of the input: the rows for "EOF" of each state.
use Rattle.std.specs.Prelude.{ℕ, Bool, List, [], ◌∷◌, ◌++◌, codes, Option, Some, None, if◌then◌else◌}
use Rattle.h5_token.specs.TokenText.{TokenText, CommentIs, DoctypeIs, DoctypeText}
use Rattle.h5_tokenizer_spec.specs.declared.errors.ParseError.{ParseError}
use Rattle.h5_tokenizer_spec.specs.declared.errors.ParseError.TheVariants.{DuplicateAttribute, EofBeforeTagName, EofInCdata, EofInComment, EofInDoctype, EofInScriptHtmlCommentLikeText, EofInTag, IncorrectlyOpenedComment, MissingSemicolonAfterCharacterReference, AbsenceOfDigitsInNumericCharacterReference, InvalidCharacterSequenceAfterDoctypeName}
use Rattle.h5_tokenizer_spec.specs.declared.kinds.TextKind.{TextKind}
use Rattle.h5_tokenizer_spec.specs.declared.kinds.TextKind.TheVariants.{CdataSection}
use Rattle.h5_tokenizer_spec.specs.declared.kinds.RawTextKind.{RawTextKind}
use Rattle.h5_tokenizer_spec.specs.declared.kinds.RawTextKind.TheVariants as raw
use Rattle.h5_tokenizer_spec.specs.Signs.{null}
use Rattle.h5_tokenizer_spec.specs.Construction.{Tag, is_repeated, nameless, quirky}
use Rattle.h5_tokenizer_spec.specs.States as s
use Rattle.h5_tokenizer_spec.specs.States.{State, Return, ToData, ToRcdata, ToValue}
use Rattle.h5_tokenizer_spec.specs.References.{Reference, Longest, longest, is_closed, is_historical, code_point, code_errors}

-- errors, a text, and then a token, before the end-of-file token
pub record Ending : Type 0 where
  pub errors : List ParseError
  pub text : List ℕ
  pub token : Option TokenText

abbrev pub nothing : Ending
nothing = record { errors = []; text = []; token = None }

abbrev pub wrongly : ParseError → Ending → Ending
wrongly e ending = record ending { errors = e ∷ ending.errors }

abbrev pub wrongly_unless : Bool → ParseError → Ending → Ending
wrongly_unless b e ending = record ending { errors = if b then ending.errors else e ∷ ending.errors }

abbrev pub leaving : List ℕ → Ending
leaving text = record { errors = []; text = text; token = None }

abbrev pub handing : TokenText → Ending
handing token = record { errors = []; text = []; token = Some token }

abbrev pub in_text : TextKind → Ending
in_text CdataSection = wrongly EofInCdata nothing
in_text kind = nothing

abbrev pub in_script : Ending
in_script = wrongly EofInScriptHtmlCommentLikeText nothing

abbrev pub behind_raw : RawTextKind → List ℕ → Ending
behind_raw raw.EscapedScriptData text = wrongly EofInScriptHtmlCommentLikeText (leaving text)
behind_raw kind text = leaving text

abbrev pub in_tag : Ending
in_tag = wrongly EofInTag nothing

-- the name of an attribute is also complete
abbrev pub in_attribute_name : Tag → Ending
in_attribute_name tag = record in_tag { errors = if is_repeated tag then DuplicateAttribute ∷ in_tag.errors else in_tag.errors }

abbrev pub in_comment : List ℕ → Ending
in_comment comment = wrongly EofInComment (handing (CommentIs comment))

abbrev pub in_doctype : DoctypeText → Ending
in_doctype doctype = wrongly EofInDoctype (handing (DoctypeIs (quirky doctype)))

-- what is flushed into a text is emitted; what is flushed into a value is dropped with its tag
abbrev pub flushed : Return → List ℕ → Ending
flushed ToData text = leaving text
flushed ToRcdata text = leaving text
flushed (ToValue value tag) text = in_tag

-- if no byte follows, null replaces the next one: it is neither '=' nor an alphanumeric
abbrev pub named_at_end : Return → List ℕ → Option Longest → Ending
named_at_end return seen None = flushed return (codes "&" ++ seen)
named_at_end return seen (Some found) =
    if is_historical return found null then flushed return (codes "&" ++ seen)
    else wrongly_unless (is_closed found) MissingSemicolonAfterCharacterReference (flushed return (found.text ++ found.rest))

abbrev pub coded_at_end : Return → ℕ → Ending
coded_at_end return code =
    let ending = flushed return (code_point code) in
    record ending { errors = code_errors code ++ ending.errors }

abbrev pub at_end : List Reference → State → Ending
at_end table (s.Text kind) = in_text kind
at_end table s.TagOpen = wrongly EofBeforeTagName (leaving (codes "<"))
at_end table s.EndTagOpen = wrongly EofBeforeTagName (leaving (codes "</"))
at_end table (s.TagName tag) = in_tag
at_end table (s.RawLessThanSign kind) = behind_raw kind (codes "<")
at_end table (s.RawEndTagOpen kind) = behind_raw kind (codes "</")
at_end table (s.RawEndTagName kind buffer) = behind_raw kind (codes "</" ++ buffer)
at_end table s.ScriptDataEscapeStart = nothing
at_end table s.ScriptDataEscapeStartDash = nothing
at_end table (s.ScriptDataEscaped depth) = in_script
at_end table (s.ScriptDataEscapedDash depth) = in_script
at_end table (s.ScriptDataEscapedDashDash depth) = in_script
at_end table (s.ScriptDataDoubleEscapeStart buffer) = in_script
at_end table s.ScriptDataDoubleEscapedLessThanSign = in_script
at_end table (s.ScriptDataDoubleEscapeEnd buffer) = in_script
at_end table (s.BeforeAttributeName tag) = in_tag
at_end table (s.AttributeName tag) = in_attribute_name tag
at_end table (s.AfterAttributeName tag) = in_tag
at_end table (s.BeforeAttributeValue tag) = in_tag
at_end table (s.AttributeValue value tag) = in_tag
at_end table (s.AfterAttributeValueQuoted tag) = in_tag
at_end table (s.SelfClosingStartTag tag) = in_tag
at_end table (s.BogusComment comment) = handing (CommentIs comment)
at_end table (s.MarkupDeclarationOpen seen) = wrongly IncorrectlyOpenedComment (handing (CommentIs seen))
at_end table s.CommentStart = in_comment []
at_end table s.CommentStartDash = in_comment []
at_end table (s.Comment comment) = in_comment comment
at_end table (s.CommentLessThanSign comment) = in_comment comment
at_end table (s.CommentLessThanSignBang comment) = in_comment comment
at_end table (s.CommentLessThanSignBangDash comment) = in_comment comment
at_end table (s.CommentLessThanSignBangDashDash comment) = in_comment comment
at_end table (s.CommentEndDash comment) = in_comment comment
at_end table (s.CommentEnd comment) = in_comment comment
at_end table (s.CommentEndBang comment) = in_comment comment
at_end table s.BeginDoctype = in_doctype nameless
at_end table s.BeforeDoctypeName = in_doctype nameless
at_end table (s.DoctypeName doctype) = in_doctype doctype
at_end table (s.AfterDoctypeName doctype []) = in_doctype doctype
at_end table (s.AfterDoctypeName doctype (x ∷ seen)) = wrongly InvalidCharacterSequenceAfterDoctypeName (handing (DoctypeIs (quirky doctype)))
at_end table (s.AfterDoctypeKeyword id doctype) = in_doctype doctype
at_end table (s.BeforeDoctypeIdentifier id doctype) = in_doctype doctype
at_end table (s.DoctypeIdentifier id quote doctype) = in_doctype doctype
at_end table (s.AfterDoctypePublicIdentifier doctype) = in_doctype doctype
at_end table (s.BetweenDoctypeIdentifiers doctype) = in_doctype doctype
at_end table (s.AfterDoctypeSystemIdentifier doctype) = in_doctype doctype
at_end table (s.BogusDoctype doctype) = handing (DoctypeIs doctype)
at_end table s.CdataSectionBracket = wrongly EofInCdata (leaving (codes "]"))
at_end table s.CdataSectionEnd = wrongly EofInCdata (leaving (codes "]]"))
at_end table (s.CharacterReference return) = flushed return (codes "&")
at_end table (s.NamedCharacterReference return seen) = named_at_end return seen (longest table seen)
at_end table (s.AmbiguousAmpersand return) = flushed return []
at_end table (s.NumericCharacterReference return) = wrongly AbsenceOfDigitsInNumericCharacterReference (flushed return (codes "&#"))
at_end table (s.HexadecimalStart return buffer) = wrongly AbsenceOfDigitsInNumericCharacterReference (flushed return (codes "&#" ++ buffer))
at_end table (s.DecimalStart return) = wrongly AbsenceOfDigitsInNumericCharacterReference (flushed return (codes "&#"))
at_end table (s.Hexadecimal return code) = wrongly MissingSemicolonAfterCharacterReference (coded_at_end return code)
at_end table (s.Decimal return code) = wrongly MissingSemicolonAfterCharacterReference (coded_at_end return code)
at_end table (s.NumericCharacterReferenceEnd return code) = coded_at_end return code
