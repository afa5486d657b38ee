-- The 80 states of tokenization, each with what is being built in it (HTML standard, section 13.2.5).
use Rattle.std.specs.Prelude.{ℕ, List}
use Rattle.h5_token.specs.TokenText.{DoctypeText}
use Rattle.h5_tokenizer_spec.specs.declared.kinds.TextKind.{TextKind}
use Rattle.h5_tokenizer_spec.specs.declared.kinds.TextKind.TheVariants.{Data, Rcdata, Rawtext, ScriptData}
use Rattle.h5_tokenizer_spec.specs.declared.kinds.RawTextKind.{RawTextKind}
use Rattle.h5_tokenizer_spec.specs.declared.kinds.RawTextKind.TheVariants as raw
use Rattle.h5_tokenizer_spec.specs.declared.kinds.Escape.{Escape}
use Rattle.h5_tokenizer_spec.specs.declared.kinds.Escape.TheVariants.{Escaped}
use Rattle.h5_tokenizer_spec.specs.declared.kinds.Quote.{Quote}
use Rattle.h5_tokenizer_spec.specs.declared.kinds.Identifier.{Identifier}
use Rattle.h5_tokenizer_spec.specs.Construction.{Tag}

-- how the value of an attribute is written
pub data Value : Type 0 where
  Quoted : (quote : Quote) → Value
  Unquoted : Value

-- the return state of a character reference, with the tag that is being built there
pub data Return : Type 0 where
  ToData : Return
  ToRcdata : Return
  ToValue : (value : Value) → (tag : Tag) → Return

-- In the standard's order. The section of each is 13.2.5 and its number. One constructor represents several states if their
-- rows differ only in names. A buffer is the standard's temporary buffer, in the states that look at it.
pub data State : Type 0 where
  Text : (kind : TextKind) → State  -- 1 to 5, 69
  TagOpen : State  -- 6
  EndTagOpen : State  -- 7
  TagName : (tag : Tag) → State  -- 8
  RawLessThanSign : (kind : RawTextKind) → State  -- 9, 12, 15, 23
  RawEndTagOpen : (kind : RawTextKind) → State  -- 10, 13, 16, 24
  RawEndTagName : (kind : RawTextKind) → (buffer : List ℕ) → State  -- 11, 14, 17, 25
  ScriptDataEscapeStart : State  -- 18
  ScriptDataEscapeStartDash : State  -- 19
  ScriptDataEscaped : (depth : Escape) → State  -- 20, 27
  ScriptDataEscapedDash : (depth : Escape) → State  -- 21, 28
  ScriptDataEscapedDashDash : (depth : Escape) → State  -- 22, 29
  ScriptDataDoubleEscapeStart : (buffer : List ℕ) → State  -- 26
  ScriptDataDoubleEscapedLessThanSign : State  -- 30
  ScriptDataDoubleEscapeEnd : (buffer : List ℕ) → State  -- 31
  BeforeAttributeName : (tag : Tag) → State  -- 32
  AttributeName : (tag : Tag) → State  -- 33
  AfterAttributeName : (tag : Tag) → State  -- 34
  BeforeAttributeValue : (tag : Tag) → State  -- 35
  AttributeValue : (value : Value) → (tag : Tag) → State  -- 36, 37, 38
  AfterAttributeValueQuoted : (tag : Tag) → State  -- 39
  SelfClosingStartTag : (tag : Tag) → State  -- 40
  BogusComment : (comment : List ℕ) → State  -- 41
  MarkupDeclarationOpen : (seen : List ℕ) → State  -- 42
  CommentStart : State  -- 43
  CommentStartDash : State  -- 44
  Comment : (comment : List ℕ) → State  -- 45
  CommentLessThanSign : (comment : List ℕ) → State  -- 46
  CommentLessThanSignBang : (comment : List ℕ) → State  -- 47
  CommentLessThanSignBangDash : (comment : List ℕ) → State  -- 48
  CommentLessThanSignBangDashDash : (comment : List ℕ) → State  -- 49
  CommentEndDash : (comment : List ℕ) → State  -- 50
  CommentEnd : (comment : List ℕ) → State  -- 51
  CommentEndBang : (comment : List ℕ) → State  -- 52
  BeginDoctype : State  -- 53
  BeforeDoctypeName : State  -- 54
  DoctypeName : (doctype : DoctypeText) → State  -- 55
  AfterDoctypeName : (doctype : DoctypeText) → (seen : List ℕ) → State  -- 56
  AfterDoctypeKeyword : (id : Identifier) → (doctype : DoctypeText) → State  -- 57, 63
  BeforeDoctypeIdentifier : (id : Identifier) → (doctype : DoctypeText) → State  -- 58, 64
  DoctypeIdentifier : (id : Identifier) → (quote : Quote) → (doctype : DoctypeText) → State  -- 59, 60, 65, 66
  AfterDoctypePublicIdentifier : (doctype : DoctypeText) → State  -- 61
  BetweenDoctypeIdentifiers : (doctype : DoctypeText) → State  -- 62
  AfterDoctypeSystemIdentifier : (doctype : DoctypeText) → State  -- 67
  BogusDoctype : (doctype : DoctypeText) → State  -- 68
  CdataSectionBracket : State  -- 70
  CdataSectionEnd : State  -- 71
  CharacterReference : (return : Return) → State  -- 72
  NamedCharacterReference : (return : Return) → (seen : List ℕ) → State  -- 73
  AmbiguousAmpersand : (return : Return) → State  -- 74
  NumericCharacterReference : (return : Return) → State  -- 75
  HexadecimalStart : (return : Return) → (buffer : List ℕ) → State  -- 76
  DecimalStart : (return : Return) → State  -- 77
  Hexadecimal : (return : Return) → (code : ℕ) → State  -- 78
  Decimal : (return : Return) → (code : ℕ) → State  -- 79
  NumericCharacterReferenceEnd : (return : Return) → (code : ℕ) → State  -- 80

abbrev pub returned : Return → State
returned ToData = Text Data
returned ToRcdata = Text Rcdata
returned (ToValue value tag) = AttributeValue value tag

-- the text that is read if no end tag ends it
abbrev pub text_of : RawTextKind → State
text_of raw.Rcdata = Text Rcdata
text_of raw.Rawtext = Text Rawtext
text_of raw.ScriptData = Text ScriptData
text_of raw.EscapedScriptData = ScriptDataEscaped Escaped
