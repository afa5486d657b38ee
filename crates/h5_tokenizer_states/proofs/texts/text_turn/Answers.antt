use Rattle.std.specs.String.{string_bytes}
use Rattle.h5_tokenizer_spec.specs.Texts as t
use Rattle.h5_tokenizer_states.proofs.TextLaws.{text_turned, buffer_turned, whole_turned}
use Rattle.h5_tokenizer_states.proofs.texts.text_turn.Goals as goal

pub returns-in-Text : goal.returns-in-Text
returns-in-Text c = rw c.in-Text.is (text_turned _ _ _ _ _ (t.text_state c.in-Text.kind c.args.b) c.any_text.ensures)

pub returns-in-RawLessThanSign : goal.returns-in-RawLessThanSign
returns-in-RawLessThanSign c = rw c.in-RawLessThanSign.is (buffer_turned _ _ _ _ _ (t.raw_less_than_sign_state c.in-RawLessThanSign.kind c.args.b) c.raw_less_than_sign.ensures)

pub returns-in-RawEndTagOpen : goal.returns-in-RawEndTagOpen
returns-in-RawEndTagOpen c = rw c.in-RawEndTagOpen.is (buffer_turned _ _ _ _ _ (t.raw_end_tag_open_state c.in-RawEndTagOpen.kind c.args.b) c.raw_end_tag_open.ensures)

pub returns-in-ScriptDataEscapeStart : goal.returns-in-ScriptDataEscapeStart
returns-in-ScriptDataEscapeStart c = rw c.in-ScriptDataEscapeStart.is (text_turned _ _ _ _ _ (t.script_data_escape_start_state c.args.b) c.script_data_escape_start.ensures)

pub returns-in-ScriptDataEscapeStartDash : goal.returns-in-ScriptDataEscapeStartDash
returns-in-ScriptDataEscapeStartDash c = rw c.in-ScriptDataEscapeStartDash.is (text_turned _ _ _ _ _ (t.script_data_escape_start_dash_state c.args.b) c.script_data_escape_start_dash.ensures)

pub returns-in-ScriptDataEscaped : goal.returns-in-ScriptDataEscaped
returns-in-ScriptDataEscaped c = rw c.in-ScriptDataEscaped.is (text_turned _ _ _ _ _ (t.script_data_escaped_state c.in-ScriptDataEscaped.depth c.args.b) c.script_data_escaped.ensures)

pub returns-in-ScriptDataEscapedDash : goal.returns-in-ScriptDataEscapedDash
returns-in-ScriptDataEscapedDash c = rw c.in-ScriptDataEscapedDash.is (text_turned _ _ _ _ _ (t.script_data_escaped_dash_state c.in-ScriptDataEscapedDash.depth c.args.b) c.script_data_escaped_dash.ensures)

pub returns-in-ScriptDataEscapedDashDash : goal.returns-in-ScriptDataEscapedDashDash
returns-in-ScriptDataEscapedDashDash c = rw c.in-ScriptDataEscapedDashDash.is (text_turned _ _ _ _ _ (t.script_data_escaped_dash_dash_state c.in-ScriptDataEscapedDashDash.depth c.args.b) c.script_data_escaped_dash_dash.ensures)

pub returns-in-ScriptDataDoubleEscapeStart : goal.returns-in-ScriptDataDoubleEscapeStart
returns-in-ScriptDataDoubleEscapeStart c = rw c.in-ScriptDataDoubleEscapeStart.is (buffer_turned _ _ _ _ _ (t.script_data_double_escape_start_state (string_bytes c.args.buffer.now) c.args.b) c.script_data_double_escape_start.ensures)

pub returns-in-ScriptDataDoubleEscapedLessThanSign : goal.returns-in-ScriptDataDoubleEscapedLessThanSign
returns-in-ScriptDataDoubleEscapedLessThanSign c = rw c.in-ScriptDataDoubleEscapedLessThanSign.is (buffer_turned _ _ _ _ _ (t.script_data_double_escaped_less_than_sign_state c.args.b) c.script_data_double_escaped_less_than_sign.ensures)

pub returns-in-ScriptDataDoubleEscapeEnd : goal.returns-in-ScriptDataDoubleEscapeEnd
returns-in-ScriptDataDoubleEscapeEnd c = rw c.in-ScriptDataDoubleEscapeEnd.is (buffer_turned _ _ _ _ _ (t.script_data_double_escape_end_state (string_bytes c.args.buffer.now) c.args.b) c.script_data_double_escape_end.ensures)

pub returns-in-CdataSectionBracket : goal.returns-in-CdataSectionBracket
returns-in-CdataSectionBracket c = rw c.in-CdataSectionBracket.is (text_turned _ _ _ _ _ (t.cdata_section_bracket_state c.args.b) c.cdata_section_bracket.ensures)

pub returns-in-CdataSectionEnd : goal.returns-in-CdataSectionEnd
returns-in-CdataSectionEnd c = rw c.in-CdataSectionEnd.is (text_turned _ _ _ _ _ (t.cdata_section_end_state c.args.b) c.cdata_section_end.ensures)

pub returns-in-RawEndTagName : goal.returns-in-RawEndTagName
returns-in-RawEndTagName c = rw c.in-RawEndTagName.is (whole_turned _ _ _ _ _ (t.raw_end_tag_name_state c.args.last.now c.in-RawEndTagName.kind (string_bytes c.args.buffer.now) c.args.b) c.raw_end_tag_name.ensures)
