-- All rows: what each state does at a byte (HTML standard, section 13.2.5).
--
-- A byte is one of UTF-8. The rows name only ASCII characters, and for the standard's "anything else" the bytes of one
-- character are handled in the same way, one after another. So this equals reading by characters. No byte is CARRIAGE RETURN:
-- it has become LINE FEED before.
use Rattle.std.specs.Prelude.{ℕ, List}
use Rattle.h5_tokenizer_spec.specs.States as s
use Rattle.h5_tokenizer_spec.specs.States.{State}
use Rattle.h5_tokenizer_spec.specs.Turn.{Turn}
use Rattle.h5_tokenizer_spec.specs.Texts as t
use Rattle.h5_tokenizer_spec.specs.Tags as g
use Rattle.h5_tokenizer_spec.specs.Comments as c
use Rattle.h5_tokenizer_spec.specs.Doctypes as d
use Rattle.h5_tokenizer_spec.specs.References as r
use Rattle.h5_tokenizer_spec.specs.References.{Reference}

-- for a table of references and the last start tag's name
abbrev pub turn : List Reference → List ℕ → State → ℕ → Turn
turn table last (s.Text kind) x = t.text_state kind x
turn table last s.TagOpen x = g.tag_open_state x
turn table last s.EndTagOpen x = g.end_tag_open_state x
turn table last (s.TagName tag) x = g.tag_name_state tag x
turn table last (s.RawLessThanSign kind) x = t.raw_less_than_sign_state kind x
turn table last (s.RawEndTagOpen kind) x = t.raw_end_tag_open_state kind x
turn table last (s.RawEndTagName kind buffer) x = t.raw_end_tag_name_state last kind buffer x
turn table last s.ScriptDataEscapeStart x = t.script_data_escape_start_state x
turn table last s.ScriptDataEscapeStartDash x = t.script_data_escape_start_dash_state x
turn table last (s.ScriptDataEscaped depth) x = t.script_data_escaped_state depth x
turn table last (s.ScriptDataEscapedDash depth) x = t.script_data_escaped_dash_state depth x
turn table last (s.ScriptDataEscapedDashDash depth) x = t.script_data_escaped_dash_dash_state depth x
turn table last (s.ScriptDataDoubleEscapeStart buffer) x = t.script_data_double_escape_start_state buffer x
turn table last s.ScriptDataDoubleEscapedLessThanSign x = t.script_data_double_escaped_less_than_sign_state x
turn table last (s.ScriptDataDoubleEscapeEnd buffer) x = t.script_data_double_escape_end_state buffer x
turn table last (s.BeforeAttributeName tag) x = g.before_attribute_name_state tag x
turn table last (s.AttributeName tag) x = g.attribute_name_state tag x
turn table last (s.AfterAttributeName tag) x = g.after_attribute_name_state tag x
turn table last (s.BeforeAttributeValue tag) x = g.before_attribute_value_state tag x
turn table last (s.AttributeValue value tag) x = g.attribute_value_state value tag x
turn table last (s.AfterAttributeValueQuoted tag) x = g.after_attribute_value_quoted_state tag x
turn table last (s.SelfClosingStartTag tag) x = g.self_closing_start_tag_state tag x
turn table last (s.BogusComment comment) x = c.bogus_comment_state comment x
turn table last (s.MarkupDeclarationOpen seen) x = c.markup_declaration_open_state seen x
turn table last s.CommentStart x = c.comment_start_state x
turn table last s.CommentStartDash x = c.comment_start_dash_state x
turn table last (s.Comment comment) x = c.comment_state comment x
turn table last (s.CommentLessThanSign comment) x = c.comment_less_than_sign_state comment x
turn table last (s.CommentLessThanSignBang comment) x = c.comment_less_than_sign_bang_state comment x
turn table last (s.CommentLessThanSignBangDash comment) x = c.comment_less_than_sign_bang_dash_state comment x
turn table last (s.CommentLessThanSignBangDashDash comment) x = c.comment_less_than_sign_bang_dash_dash_state comment x
turn table last (s.CommentEndDash comment) x = c.comment_end_dash_state comment x
turn table last (s.CommentEnd comment) x = c.comment_end_state comment x
turn table last (s.CommentEndBang comment) x = c.comment_end_bang_state comment x
turn table last s.BeginDoctype x = d.doctype_state x
turn table last s.BeforeDoctypeName x = d.before_doctype_name_state x
turn table last (s.DoctypeName doctype) x = d.doctype_name_state doctype x
turn table last (s.AfterDoctypeName doctype seen) x = d.after_doctype_name_state doctype seen x
turn table last (s.AfterDoctypeKeyword id doctype) x = d.after_doctype_keyword_state id doctype x
turn table last (s.BeforeDoctypeIdentifier id doctype) x = d.before_doctype_identifier_state id doctype x
turn table last (s.DoctypeIdentifier id quote doctype) x = d.doctype_identifier_state id quote doctype x
turn table last (s.AfterDoctypePublicIdentifier doctype) x = d.after_doctype_public_identifier_state doctype x
turn table last (s.BetweenDoctypeIdentifiers doctype) x = d.between_doctype_identifiers_state doctype x
turn table last (s.AfterDoctypeSystemIdentifier doctype) x = d.after_doctype_system_identifier_state doctype x
turn table last (s.BogusDoctype doctype) x = d.bogus_doctype_state doctype x
turn table last s.CdataSectionBracket x = t.cdata_section_bracket_state x
turn table last s.CdataSectionEnd x = t.cdata_section_end_state x
turn table last (s.CharacterReference return) x = r.character_reference_state return x
turn table last (s.NamedCharacterReference return seen) x = r.named_character_reference_state table return seen x
turn table last (s.AmbiguousAmpersand return) x = r.ambiguous_ampersand_state return x
turn table last (s.NumericCharacterReference return) x = r.numeric_character_reference_state return x
turn table last (s.HexadecimalStart return buffer) x = r.hexadecimal_start_state return buffer x
turn table last (s.DecimalStart return) x = r.decimal_start_state return x
turn table last (s.Hexadecimal return code) x = r.hexadecimal_state return code x
turn table last (s.Decimal return code) x = r.decimal_state return code x
turn table last (s.NumericCharacterReferenceEnd return code) x = r.numeric_character_reference_end_state return code
