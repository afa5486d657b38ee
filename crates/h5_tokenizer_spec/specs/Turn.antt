-- What a state does at a byte: one row of the standard's section 13.2.5, in its words.
use Rattle.std.specs.Prelude.{ℕ, Bool, List, [], ◌∷◌, if◌then◌else◌, true, false, ◌&&◌, nat_lt, length}
use Rattle.h5_token.specs.TokenText.{TokenText, DoctypeIs, CommentIs, DoctypeText}
use Rattle.h5_token.specs.declared.tag.TagKind.{TagKind}
use Rattle.h5_token.specs.declared.tag.TagKind.TheVariants.{StartTag, EndTag}
use Rattle.h5_tokenizer_spec.specs.declared.errors.ParseError.{ParseError}
use Rattle.h5_tokenizer_spec.specs.declared.errors.ParseError.TheVariants.{EndTagWithAttributes, EndTagWithTrailingSolidus}
use Rattle.h5_tokenizer_spec.specs.declared.kinds.TextKind.TheVariants.{Data, Rcdata}
use Rattle.h5_tokenizer_spec.specs.Construction.{Tag, completed, token_of, value_further}
use Rattle.h5_tokenizer_spec.specs.States.{State, Text, AttributeValue, Return, ToData, ToRcdata, ToValue}

pub data Outcome : Type 0 where
  -- the byte is consumed, this text is emitted, and this is the next state
  Consumed : (text : List ℕ) → (state : State) → Outcome
  -- this text is emitted, and the byte is reconsumed in this state
  Reconsumed : (text : List ℕ) → (state : State) → Outcome
  -- the byte is consumed, and this token is emitted; this is the next state unless the tree builder changes it
  Emitted : (token : TokenText) → (state : State) → Outcome
  -- the byte is consumed; if the adjusted current node isn't in the HTML namespace, the first state is next; if it is, this is
  -- an error, and the other state is next
  Asks : (foreign : State) → (error : ParseError) → (other : State) → Outcome

-- parse errors, in their order, and then an outcome
pub record Turn : Type 0 where
  pub errors : List ParseError
  pub outcome : Outcome

abbrev pub wrong : ParseError → Turn → Turn
wrong e t = record t { errors = e ∷ t.errors }

abbrev pub wrong_if : Bool → ParseError → Turn → Turn
wrong_if b e t = record t { errors = if b then e ∷ t.errors else t.errors }

-- switch to
abbrev pub to : State → Turn
to s = record { errors = []; outcome = Consumed [] s }

-- emit, and switch to
abbrev pub emit : List ℕ → State → Turn
emit text s = record { errors = []; outcome = Consumed text s }

-- reconsume in
abbrev pub again : State → Turn
again s = record { errors = []; outcome = Reconsumed [] s }

-- emit, and reconsume in
abbrev pub emit_again : List ℕ → State → Turn
emit_again text s = record { errors = []; outcome = Reconsumed text s }

-- emit a token, and switch to
abbrev pub hand : TokenText → State → Turn
hand t s = record { errors = []; outcome = Emitted t s }

-- switch to the one or the other, by the adjusted current node
abbrev pub ask : State → ParseError → State → Turn
ask foreign error other = record { errors = []; outcome = Asks foreign error other }

abbrev pub is_end : TagKind → Bool
is_end StartTag = false
is_end EndTag = true

-- an end tag with attributes or a '/' is an error, and is emitted with them
abbrev pub hand_complete : Tag → Turn
hand_complete t =
    wrong_if (is_end t.kind && nat_lt 0 (length t.attrs)) EndTagWithAttributes
    (wrong_if (is_end t.kind && t.self_closing) EndTagWithTrailingSolidus (hand (token_of t) (Text Data)))

-- emit the current tag token, and switch to the data state
abbrev pub hand_tag : Tag → Turn
hand_tag t = hand_complete (completed t)

abbrev pub hand_comment : List ℕ → Turn
hand_comment text = hand (CommentIs text) (Text Data)

abbrev pub hand_doctype : DoctypeText → Turn
hand_doctype d = hand (DoctypeIs d) (Text Data)

-- flush code points consumed as a character reference, and switch to the return state
abbrev pub flush : Return → List ℕ → Turn
flush ToData text = emit text (Text Data)
flush ToRcdata text = emit text (Text Rcdata)
flush (ToValue value tag) text = to (AttributeValue value (value_further text tag))

-- as above, but reconsume in the return state
abbrev pub flush_again : Return → List ℕ → Turn
flush_again ToData text = emit_again text (Text Data)
flush_again ToRcdata text = emit_again text (Text Rcdata)
flush_again (ToValue value tag) text = again (AttributeValue value (value_further text tag))
