-- Texts (HTML standard, sections 13.2.5.1 to 13.2.5.5, 13.2.5.9 to 13.2.5.31 and 13.2.5.69 to 13.2.5.71).
use Rattle.std.specs.Prelude.{ℕ, Bool, false, List, [], ◌∷◌, ◌++◌, ◌==◌, ◌&&◌, not, if◌then◌else◌, codes, map}
use Rattle.std.specs.Char.{is_ascii_alphabetic, to_ascii_lowercase}
use Rattle.h5_names.specs.AttributeText.{is_same_text}
use Rattle.h5_token.specs.TokenText.{NullCharacter}
use Rattle.h5_token.specs.declared.tag.TagKind.TheVariants.{EndTag}
use Rattle.h5_tokenizer_spec.specs.declared.errors.ParseError.TheVariants.{UnexpectedNullCharacter}
use Rattle.h5_tokenizer_spec.specs.declared.kinds.TextKind.{TextKind}
use Rattle.h5_tokenizer_spec.specs.declared.kinds.TextKind.TheVariants.{Data, Rcdata, Rawtext, ScriptData, Plaintext, CdataSection}
use Rattle.h5_tokenizer_spec.specs.declared.kinds.RawTextKind.{RawTextKind}
use Rattle.h5_tokenizer_spec.specs.declared.kinds.RawTextKind.TheVariants as raw
use Rattle.h5_tokenizer_spec.specs.declared.kinds.Escape.{Escape}
use Rattle.h5_tokenizer_spec.specs.declared.kinds.Escape.TheVariants.{Escaped, DoubleEscaped}
use Rattle.h5_tokenizer_spec.specs.Signs.{null, ampersand, less_than_sign, greater_than_sign, solidus, hyphen, exclamation_mark, right_square_bracket, is_blank, is_name_end, replacement}
use Rattle.h5_tokenizer_spec.specs.Construction.{new_tag}
use Rattle.h5_tokenizer_spec.specs.States.{State, Text, TagOpen, CharacterReference, ToData, ToRcdata, RawLessThanSign, RawEndTagOpen, RawEndTagName, ScriptDataEscapeStart, ScriptDataEscapeStartDash, ScriptDataEscaped, ScriptDataEscapedDash, ScriptDataEscapedDashDash, ScriptDataDoubleEscapeStart, ScriptDataDoubleEscapedLessThanSign, ScriptDataDoubleEscapeEnd, BeforeAttributeName, SelfClosingStartTag, CdataSectionBracket, CdataSectionEnd, text_of}
use Rattle.h5_tokenizer_spec.specs.Turn.{Turn, wrong, to, emit, again, emit_again, hand, hand_tag}

-- 13.2.5.1 Data state
abbrev pub data_state : ℕ → Turn
data_state x =
    if x == ampersand then to (CharacterReference ToData)
    else if x == less_than_sign then to TagOpen
    else if x == null then wrong UnexpectedNullCharacter (hand NullCharacter (Text Data))
    else emit (x ∷ []) (Text Data)

-- a text in which NUL is replaced
abbrev pub replacing : ℕ → State → Turn
replacing x state = if x == null then wrong UnexpectedNullCharacter (emit replacement state) else emit (x ∷ []) state

-- 13.2.5.2 RCDATA state
abbrev pub rcdata_state : ℕ → Turn
rcdata_state x =
    if x == ampersand then to (CharacterReference ToRcdata)
    else if x == less_than_sign then to (RawLessThanSign raw.Rcdata)
    else replacing x (Text Rcdata)

-- 13.2.5.3 RAWTEXT state
abbrev pub rawtext_state : ℕ → Turn
rawtext_state x = if x == less_than_sign then to (RawLessThanSign raw.Rawtext) else replacing x (Text Rawtext)

-- 13.2.5.4 Script data state
abbrev pub script_data_state : ℕ → Turn
script_data_state x = if x == less_than_sign then to (RawLessThanSign raw.ScriptData) else replacing x (Text ScriptData)

-- 13.2.5.5 PLAINTEXT state
abbrev pub plaintext_state : ℕ → Turn
plaintext_state x = replacing x (Text Plaintext)

-- 13.2.5.9, 12, 15, 23: RCDATA, RAWTEXT, Script data and Script data escaped less-than sign state
abbrev pub raw_less_than_sign_state : RawTextKind → ℕ → Turn
raw_less_than_sign_state raw.ScriptData x =
    if x == solidus then to (RawEndTagOpen raw.ScriptData)
    else if x == exclamation_mark then emit (codes "<!") ScriptDataEscapeStart
    else emit_again (codes "<") (Text ScriptData)
raw_less_than_sign_state raw.EscapedScriptData x =
    if x == solidus then to (RawEndTagOpen raw.EscapedScriptData)
    else if is_ascii_alphabetic x then emit_again (codes "<") (ScriptDataDoubleEscapeStart [])
    else emit_again (codes "<") (ScriptDataEscaped Escaped)
raw_less_than_sign_state kind x =
    if x == solidus then to (RawEndTagOpen kind) else emit_again (codes "<") (text_of kind)

-- 13.2.5.10, 13, 16, 24: RCDATA, RAWTEXT, Script data and Script data escaped end tag open state
abbrev pub raw_end_tag_open_state : RawTextKind → ℕ → Turn
raw_end_tag_open_state kind x =
    if is_ascii_alphabetic x then again (RawEndTagName kind []) else emit_again (codes "</") (text_of kind)

-- an end tag token with this name is appropriate: there was a start tag, and the last one has this name
abbrev pub is_appropriate : List ℕ → List ℕ → Bool
is_appropriate [] buffer = false
is_appropriate (c ∷ last) buffer = is_same_text (c ∷ last) (map to_ascii_lowercase buffer)

-- 13.2.5.11, 14, 17, 25: RCDATA, RAWTEXT, Script data and Script data escaped end tag name state. The buffer has the name as it
-- was written.
abbrev pub raw_end_tag_name_state : List ℕ → RawTextKind → List ℕ → ℕ → Turn
raw_end_tag_name_state last kind buffer x =
    let appropriate = is_appropriate last buffer in
    let tag = new_tag EndTag (map to_ascii_lowercase buffer) in
    if appropriate && is_blank x then to (BeforeAttributeName tag)
    else if appropriate && x == solidus then to (SelfClosingStartTag tag)
    else if appropriate && x == greater_than_sign then hand_tag tag
    else if is_ascii_alphabetic x then to (RawEndTagName kind (buffer ++ (x ∷ [])))
    else emit_again (codes "</" ++ buffer) (text_of kind)

-- 13.2.5.18 Script data escape start state
abbrev pub script_data_escape_start_state : ℕ → Turn
script_data_escape_start_state x = if x == hyphen then emit (codes "-") ScriptDataEscapeStartDash else again (Text ScriptData)

-- 13.2.5.19 Script data escape start dash state
abbrev pub script_data_escape_start_dash_state : ℕ → Turn
script_data_escape_start_dash_state x =
    if x == hyphen then emit (codes "-") (ScriptDataEscapedDashDash Escaped) else again (Text ScriptData)

-- a '<' in an escaped script, and in a script escaped twice
abbrev pub escaped_less_than_sign : Escape → Turn
escaped_less_than_sign Escaped = to (RawLessThanSign raw.EscapedScriptData)
escaped_less_than_sign DoubleEscaped = emit (codes "<") ScriptDataDoubleEscapedLessThanSign

-- 13.2.5.20, 27: Script data escaped state, Script data double escaped state
abbrev pub script_data_escaped_state : Escape → ℕ → Turn
script_data_escaped_state escape x =
    if x == hyphen then emit (codes "-") (ScriptDataEscapedDash escape)
    else if x == less_than_sign then escaped_less_than_sign escape
    else replacing x (ScriptDataEscaped escape)

-- 13.2.5.21, 28: Script data escaped dash state, Script data double escaped dash state
abbrev pub script_data_escaped_dash_state : Escape → ℕ → Turn
script_data_escaped_dash_state escape x =
    if x == hyphen then emit (codes "-") (ScriptDataEscapedDashDash escape)
    else if x == less_than_sign then escaped_less_than_sign escape
    else replacing x (ScriptDataEscaped escape)

-- 13.2.5.22, 29: Script data escaped dash dash state, Script data double escaped dash dash state
abbrev pub script_data_escaped_dash_dash_state : Escape → ℕ → Turn
script_data_escaped_dash_dash_state escape x =
    if x == hyphen then emit (codes "-") (ScriptDataEscapedDashDash escape)
    else if x == less_than_sign then escaped_less_than_sign escape
    else if x == greater_than_sign then emit (codes ">") (Text ScriptData)
    else replacing x (ScriptDataEscaped escape)

abbrev pub escaped_after : Bool → Escape
escaped_after is_script = if is_script then DoubleEscaped else Escaped

-- 13.2.5.26 Script data double escape start state
abbrev pub script_data_double_escape_start_state : List ℕ → ℕ → Turn
script_data_double_escape_start_state buffer x =
    if is_name_end x then emit (x ∷ []) (ScriptDataEscaped (escaped_after (is_same_text buffer (codes "script"))))
    else if is_ascii_alphabetic x then emit (x ∷ []) (ScriptDataDoubleEscapeStart (buffer ++ (to_ascii_lowercase x ∷ [])))
    else again (ScriptDataEscaped Escaped)

-- 13.2.5.30 Script data double escaped less-than sign state
abbrev pub script_data_double_escaped_less_than_sign_state : ℕ → Turn
script_data_double_escaped_less_than_sign_state x =
    if x == solidus then emit (codes "/") (ScriptDataDoubleEscapeEnd []) else again (ScriptDataEscaped DoubleEscaped)

-- 13.2.5.31 Script data double escape end state
abbrev pub script_data_double_escape_end_state : List ℕ → ℕ → Turn
script_data_double_escape_end_state buffer x =
    if is_name_end x then emit (x ∷ []) (ScriptDataEscaped (escaped_after (not (is_same_text buffer (codes "script")))))
    else if is_ascii_alphabetic x then emit (x ∷ []) (ScriptDataDoubleEscapeEnd (buffer ++ (to_ascii_lowercase x ∷ [])))
    else again (ScriptDataEscaped DoubleEscaped)

-- 13.2.5.69 CDATA section state: a NUL is emitted unchanged
abbrev pub cdata_section_state : ℕ → Turn
cdata_section_state x =
    if x == right_square_bracket then to CdataSectionBracket
    else if x == null then hand NullCharacter (Text CdataSection)
    else emit (x ∷ []) (Text CdataSection)

-- 13.2.5.70 CDATA section bracket state
abbrev pub cdata_section_bracket_state : ℕ → Turn
cdata_section_bracket_state x = if x == right_square_bracket then to CdataSectionEnd else emit_again (codes "]") (Text CdataSection)

-- 13.2.5.71 CDATA section end state
abbrev pub cdata_section_end_state : ℕ → Turn
cdata_section_end_state x =
    if x == right_square_bracket then emit (codes "]") CdataSectionEnd
    else if x == greater_than_sign then to (Text Data)
    else emit_again (codes "]]") (Text CdataSection)

abbrev pub text_state : TextKind → ℕ → Turn
text_state Data x = data_state x
text_state Rcdata x = rcdata_state x
text_state Rawtext x = rawtext_state x
text_state ScriptData x = script_data_state x
text_state Plaintext x = plaintext_state x
text_state CdataSection x = cdata_section_state x
