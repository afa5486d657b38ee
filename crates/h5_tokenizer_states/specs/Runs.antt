-- Runs: bytes that a state only appends to a text or to what is being built.
use Rattle.std.specs.Prelude.{ℕ, ◌+◌, Bool, true, false, not, ◌||◌, ◌==◌, nat_le, List, [], ◌++◌, map}
use Rattle.std.specs.Io.Iter.{u64_saturate}
use Rattle.std.specs.List.{list_all}
use Rattle.std.specs.Char.{is_ascii_alphabetic, to_ascii_lowercase}
use Rattle.h5_token.specs.TokenText.{DoctypeText}
use Rattle.h5_tokenizer_spec.specs.declared.kinds.TextKind.{TextKind}
use Rattle.h5_tokenizer_spec.specs.declared.kinds.TextKind.TheVariants as kind
use Rattle.h5_tokenizer_spec.specs.Signs.{null, ampersand, hyphen, less_than_sign, equals_sign, greater_than_sign, right_square_bracket, is_blank, is_name_end, is_alphanumeric, sign_of}
use Rattle.h5_tokenizer_spec.specs.Construction.{Tag, named_further, attribute_named_further, value_further, new_doctype, doctype_named_further, identifier_further}
use Rattle.h5_tokenizer_spec.specs.States.{State}
use Rattle.h5_tokenizer_spec.specs.Reading.{ReaderPlace, beginning}
use Rattle.h5_tokenizer_states.specs.Parts.{Parts}
use Rattle.h5_tokenizer_states.specs.declared.machine_state.MachineState.{MachineState}
use Rattle.h5_tokenizer_states.specs.declared.machine_state.MachineState.TheVariants as at
use Rattle.h5_tokenizer_states.specs.declared.machine_state.TextState.{TextState}
use Rattle.h5_tokenizer_states.specs.declared.machine_state.TextState.TheVariants as t
use Rattle.h5_tokenizer_states.specs.declared.machine_state.TagState.{TagState}
use Rattle.h5_tokenizer_states.specs.declared.machine_state.TagState.TheVariants as g
use Rattle.h5_tokenizer_states.specs.declared.machine_state.CommentState.{CommentState}
use Rattle.h5_tokenizer_states.specs.declared.machine_state.CommentState.TheVariants as c
use Rattle.h5_tokenizer_states.specs.declared.machine_state.DoctypeState.{DoctypeState}
use Rattle.h5_tokenizer_states.specs.declared.machine_state.DoctypeState.TheVariants as d
use Rattle.h5_tokenizer_states.specs.declared.machine_state.ReferenceState.{ReferenceState}
use Rattle.h5_tokenizer_states.specs.declared.machine_state.ReferenceState.TheVariants as r
use Rattle.h5_tokenizer_states.specs.declared.machine_state.ReturnTo.{ReturnTo}
use Rattle.h5_tokenizer_states.specs.declared.machine_state.ReturnTo.TheVariants as to
use Rattle.h5_tokenizer_states.specs.declared.machine_state.ValueKind.{ValueKind}
use Rattle.h5_tokenizer_states.specs.declared.machine_state.ValueKind.TheVariants as v
use Rattle.h5_tokenizer_states.specs.declared.runs.Run.{Run}
use Rattle.h5_tokenizer_states.specs.declared.runs.Run.TheVariants as run

-- a NUL, which most states replace, and a CARRIAGE RETURN, which is a newline
abbrev pub is_changed : ℕ → Bool
is_changed x = x == null || x == 13

-- the bytes that end a run, for the runs of all other bytes
abbrev pub ends : Run → ℕ → Bool
ends run.References x = x == less_than_sign || (x == ampersand || is_changed x)
ends run.Tags x = x == less_than_sign || is_changed x
ends run.Plain x = is_changed x
ends run.Brackets x = x == right_square_bracket || is_changed x
ends run.Dashes x = x == hyphen || (x == less_than_sign || is_changed x)
ends run.Name x = is_name_end x || is_changed x
ends run.AttributeName x = is_name_end x || (x == equals_sign || is_changed x)
ends (run.Quoted quote) x = x == sign_of quote || (x == ampersand || is_changed x)
ends run.Unquoted x = is_blank x || (x == ampersand || (x == greater_than_sign || is_changed x))
ends run.Bogus x = x == greater_than_sign || is_changed x
ends run.DoctypeName x = is_blank x || (x == greater_than_sign || is_changed x)
ends (run.Identifier quote) x = x == sign_of quote || (x == greater_than_sign || is_changed x)
ends kind x = true

-- true if a byte is in a run
abbrev pub is_in : Run → ℕ → Bool
is_in run.Nothing x = false
is_in run.Letters x = is_ascii_alphabetic x
is_in run.Alphanumerics x = is_alphanumeric x
is_in run.Blanks x = is_blank x
is_in run.Wide x = nat_le 128 x
is_in kind x = not (ends kind x)

abbrev pub run_of_text : TextKind → Run
run_of_text kind.Data = run.References
run_of_text kind.Rcdata = run.References
run_of_text kind.Rawtext = run.Tags
run_of_text kind.ScriptData = run.Tags
run_of_text kind.Plaintext = run.Plain
run_of_text kind.CdataSection = run.Brackets

abbrev pub run_of_text_state : TextState → Run
run_of_text_state (t.Text kind) = run_of_text kind
run_of_text_state (t.RawEndTagName kind) = run.Letters
run_of_text_state (t.ScriptDataEscaped depth) = run.Dashes
run_of_text_state (t.ScriptDataEscapedDash depth) = run.Wide
run_of_text_state (t.ScriptDataEscapedDashDash depth) = run.Wide
run_of_text_state state = run.Nothing

abbrev pub run_of_value : ValueKind → Run
run_of_value (v.Quoted quote) = run.Quoted quote
run_of_value v.Unquoted = run.Unquoted

abbrev pub run_of_tag : TagState → Run
run_of_tag g.TagName = run.Name
run_of_tag g.BeforeAttributeName = run.Blanks
run_of_tag g.AttributeName = run.AttributeName
run_of_tag g.AfterAttributeName = run.Blanks
run_of_tag g.BeforeAttributeValue = run.Blanks
run_of_tag (g.AttributeValue value) = run_of_value value
run_of_tag state = run.Nothing

abbrev pub run_of_comment : CommentState → Run
run_of_comment c.BogusComment = run.Bogus
run_of_comment c.Comment = run.Dashes
run_of_comment state = run.Nothing

abbrev pub run_of_doctype : DoctypeState → Run
run_of_doctype d.BeforeDoctypeName = run.Wide
run_of_doctype d.DoctypeName = run.DoctypeName
run_of_doctype (d.BeforeDoctypeIdentifier id) = run.Blanks
run_of_doctype (d.DoctypeIdentifier id quote) = run.Identifier quote
run_of_doctype d.BetweenDoctypeIdentifiers = run.Blanks
run_of_doctype d.AfterDoctypeSystemIdentifier = run.Blanks
run_of_doctype d.BogusDoctype = run.Bogus
run_of_doctype state = run.Nothing

abbrev pub run_of_reference : ReferenceState → Run
run_of_reference r.AmbiguousAmpersand = run.Alphanumerics
run_of_reference state = run.Nothing

-- the run of a state
abbrev pub run_of : MachineState → Run
run_of (at.Text state) = run_of_text_state state
run_of (at.Tag state) = run_of_tag state
run_of (at.Comment state) = run_of_comment state
run_of (at.Doctype state) = run_of_doctype state
run_of (at.Reference state return_to) = run_of_reference state

abbrev pub text_behind : TextState → TextState
text_behind (t.ScriptDataEscapedDash depth) = t.ScriptDataEscaped depth
text_behind (t.ScriptDataEscapedDashDash depth) = t.ScriptDataEscaped depth
text_behind state = state

abbrev pub doctype_behind : DoctypeState → DoctypeState
doctype_behind d.BeforeDoctypeName = d.DoctypeName
doctype_behind state = state

-- the state after a run
abbrev pub at_behind : MachineState → MachineState
at_behind (at.Text state) = at.Text (text_behind state)
at_behind (at.Tag state) = at.Tag state
at_behind (at.Comment state) = at.Comment state
at_behind (at.Doctype state) = at.Doctype (doctype_behind state)
at_behind (at.Reference state return_to) = at.Reference state return_to

abbrev pub buffer_behind : TextState → List ℕ → List ℕ → List ℕ
buffer_behind (t.RawEndTagName kind) xs buffer = buffer ++ xs
buffer_behind state xs buffer = buffer

abbrev pub tag_behind : TagState → List ℕ → Tag → Tag
tag_behind g.TagName xs tag = named_further (map to_ascii_lowercase xs) tag
tag_behind g.AttributeName xs tag = attribute_named_further (map to_ascii_lowercase xs) tag
tag_behind (g.AttributeValue value) xs tag = value_further xs tag
tag_behind state xs tag = tag

abbrev pub doctype_text_behind : DoctypeState → List ℕ → DoctypeText → DoctypeText
doctype_text_behind d.BeforeDoctypeName xs doctype = new_doctype (map to_ascii_lowercase xs)
doctype_text_behind d.DoctypeName xs doctype = doctype_named_further (map to_ascii_lowercase xs) doctype
doctype_text_behind (d.DoctypeIdentifier id quote) xs doctype = identifier_further id xs doctype
doctype_text_behind state xs doctype = doctype

abbrev pub tag_flushed : ReturnTo → List ℕ → Tag → Tag
tag_flushed to.Data xs tag = tag
tag_flushed to.Rcdata xs tag = tag
tag_flushed (to.Value value) xs tag = value_further xs tag

-- what is being built after a run
abbrev pub parts_behind : MachineState → List ℕ → Parts → Parts
parts_behind (at.Text state) xs parts = record parts { buffer = buffer_behind state xs parts.buffer }
parts_behind (at.Tag state) xs parts = record parts { tag = tag_behind state xs parts.tag }
parts_behind (at.Comment state) xs parts = record parts { comment = parts.comment ++ xs }
parts_behind (at.Doctype state) xs parts = record parts { doctype = doctype_text_behind state xs parts.doctype }
parts_behind (at.Reference state return_to) xs parts = record parts { tag = tag_flushed return_to xs parts.tag }

abbrev pub text_put : TextState → List ℕ → List ℕ
text_put (t.RawEndTagName kind) xs = []
text_put state xs = xs

abbrev pub text_flushed : ReturnTo → List ℕ → List ℕ
text_flushed to.Data xs = xs
text_flushed to.Rcdata xs = xs
text_flushed (to.Value value) xs = []

-- the text that a run emits
abbrev pub put_by : MachineState → List ℕ → List ℕ
put_by (at.Text state) xs = text_put state xs
put_by (at.Tag state) xs = []
put_by (at.Comment state) xs = []
put_by (at.Doctype state) xs = []
put_by (at.Reference state return_to) xs = text_flushed return_to xs

-- all these bytes are in the run
abbrev pub are_in : Run → List ℕ → Bool
are_in run xs = list_all (is_in run) xs

-- the place after a run with this number of newlines, in this state
abbrev pub place_behind_run : ReaderPlace → State → ℕ → ReaderPlace
place_behind_run p state n = record {
  state = state;
  last = p.last;
  after_return = false;
  line = u64_saturate (p.line + n);
  began = beginning state (u64_saturate (p.line + n)) p;
}
