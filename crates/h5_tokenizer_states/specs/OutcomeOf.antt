-- The results of rows of the code, in the definition's terms.
use Rattle.std.specs.Prelude.{◌≡◌, ℕ, List, [], ◌++◌, ◌==◌, if◌then◌else◌, codes, map}
use Rattle.h5_tokenizer_spec.specs.declared.kinds.Identifier.{Identifier}
use Rattle.h5_tokenizer_spec.specs.declared.kinds.Identifier.TheVariants.{Public, System}
use Rattle.h5_tokenizer_states.specs.declared.machine_state.DoctypeState.{DoctypeState}
use Rattle.h5_tokenizer_states.specs.declared.machine_state.DoctypeState.TheVariants.{AfterDoctypePublicIdentifier, AfterDoctypeSystemIdentifier}
use Rattle.h5_token.specs.TokenText.{TokenText, DoctypeText, DoctypeIs, CommentIs, NullCharacter}
use Rattle.h5_tokenizer_spec.specs.declared.kinds.TextKind.TheVariants.{CdataSection}
use Rattle.h5_tokenizer_spec.specs.declared.kinds.RawTextKind.{RawTextKind}
use Rattle.h5_tokenizer_spec.specs.Signs.{solidus, is_blank}
use Rattle.h5_tokenizer_spec.specs.declared.errors.ParseError.TheVariants.{CdataInHtmlContent}
use Rattle.std.specs.Char.{to_ascii_lowercase}
use Rattle.h5_token.specs.declared.tag.TagKind.TheVariants.{EndTag}
use Rattle.h5_tokenizer_spec.specs.Construction.{Tag, new_tag, token_of}
use Rattle.h5_tokenizer_spec.specs.States as s
use Rattle.h5_tokenizer_spec.specs.Turn.{Turn, Outcome, Consumed, Reconsumed, Emitted, Asks, to, emit_again, hand_tag}
use Rattle.h5_tokenizer_states.specs.Parts.{Parts}
use Rattle.h5_tokenizer_states.specs.StateOf.{state_of}
use Rattle.h5_tokenizer_states.specs.declared.transition.CurrentToken.{CurrentToken}
use Rattle.h5_tokenizer_states.specs.declared.transition.CurrentToken.TheVariants as made
use Rattle.h5_tokenizer_states.specs.declared.transition.Transition.{Transition}
use Rattle.h5_tokenizer_states.specs.declared.transition.Transition.TheVariants as transition

-- the complete token
abbrev pub made_of : CurrentToken → Parts → TokenText
made_of made.Null parts = NullCharacter
made_of made.Tag parts = token_of parts.tag
made_of made.Comment parts = CommentIs parts.comment
made_of made.Doctype parts = DoctypeIs parts.doctype

-- by what was emitted, and what is then being built
abbrev pub outcome_of : Transition → List ℕ → Parts → Outcome
outcome_of (transition.Consumed at) text parts = Consumed text (state_of at parts)
outcome_of (transition.Reconsumed at) text parts = Reconsumed text (state_of at parts)
outcome_of (transition.Emitted construct kind) text parts = Emitted (made_of construct parts) (s.Text kind)
outcome_of transition.Asks text parts = Asks (s.Text CdataSection) CdataInHtmlContent (s.BogusComment parts.comment)

-- the text that an outcome emits
abbrev pub emitted : Outcome → List ℕ
emitted (Consumed text state) = text
emitted (Reconsumed text state) = text
emitted (Emitted token state) = []
emitted (Asks there error elsewhere) = []

-- A row did what the definition's does: the text was appended to `old`, and `parts` is then being built.
abbrev pub Does : Transition → List ℕ → List ℕ → Parts → Turn → Type 0
Does transition old new parts turn = (new ≡ old ++ emitted turn.outcome) × (outcome_of transition (emitted turn.outcome) parts ≡ turn.outcome)

-- As `Does`, for a row of comments, whatever else is being built. It emits nothing.
abbrev pub DoesComment : Transition → List ℕ → Turn → Type 0
DoesComment transition comment turn = (parts : Parts) → outcome_of transition [] (record parts { comment = comment }) ≡ turn.outcome

-- As `DoesComment`, for a row of tags.
abbrev pub DoesTag : Transition → Tag → Turn → Type 0
DoesTag transition tag turn = (parts : Parts) → outcome_of transition [] (record parts { tag = tag }) ≡ turn.outcome

abbrev pub DoesTagOrComment : Transition → Tag → List ℕ → Turn → Type 0
DoesTagOrComment transition tag comment turn = (parts : Parts) → outcome_of transition [] (record parts { tag = tag; comment = comment }) ≡ turn.outcome

-- As `Does`, for a row that only appends to a text.
abbrev pub DoesText : Transition → List ℕ → List ℕ → Turn → Type 0
DoesText transition old new turn = (parts : Parts) → Does transition old new parts turn

abbrev pub DoesBuffer : Transition → List ℕ → List ℕ → List ℕ → Turn → Type 0
DoesBuffer transition old new buffer turn = (parts : Parts) → Does transition old new (record parts { buffer = buffer }) turn

-- the less-than sign state of RCDATA and RAWTEXT
abbrev pub plain_less_than_sign_state : RawTextKind → ℕ → Turn
plain_less_than_sign_state kind x = if x == solidus then to (s.RawEndTagOpen kind) else emit_again (codes "<") (s.text_of kind)

-- after the name of an appropriate end tag
abbrev pub end_tag_behind : List ℕ → ℕ → Turn
end_tag_behind buffer x =
    let tag = new_tag EndTag (map to_ascii_lowercase buffer) in
    if is_blank x then to (s.BeforeAttributeName tag) else if x == solidus then to (s.SelfClosingStartTag tag) else hand_tag tag

-- As `DoesComment`, for a row of doctypes.
abbrev pub DoesDoctype : Transition → DoctypeText → Turn → Type 0
DoesDoctype transition doctype turn = (parts : Parts) → outcome_of transition [] (record parts { doctype = doctype }) ≡ turn.outcome

abbrev pub DoesDoctypeSeen : Transition → DoctypeText → List ℕ → Turn → Type 0
DoesDoctypeSeen transition doctype seen turn = (parts : Parts) → outcome_of transition [] (record parts { doctype = doctype; buffer = seen }) ≡ turn.outcome

abbrev pub after_identifier : Identifier → DoctypeState
after_identifier Public = AfterDoctypePublicIdentifier
after_identifier System = AfterDoctypeSystemIdentifier
