-- Reading: what is emitted of an input, and where reading stops.
--
-- The rows take one byte after another. A place is a state, and holds no bytes: what was seen of an input is in the state or
-- was emitted. A byte order mark isn't part of the input here; it is skipped before.
use Rattle.std.specs.Prelude.{◌≡◌, ℕ, ◌+◌, Bool, true, false, List, [], ◌∷◌, ◌++◌, ◌==◌, ◌&&◌, if◌then◌else◌}
use Rattle.std.specs.Io.Iter.{u64_saturate}
use Rattle.h5_token.specs.TokenText.{TokenText, TagIs, Characters}
use Rattle.h5_token.specs.Reply.{Reply, Continues, RunsScript, TurnsPlain, TurnsRaw, Indicates, Refuses}
use Rattle.h5_token.specs.declared.tag.TagKind.{TagKind}
use Rattle.h5_token.specs.declared.tag.TagKind.TheVariants.{StartTag, EndTag}
use Rattle.h5_token.specs.declared.states.RawKind.{RawKind}
use Rattle.h5_token.specs.declared.states.RawKind.TheVariants as chosen
use Rattle.h5_tokenizer_input.specs.Answers.{goes_on}
use Rattle.h5_tokenizer_spec.specs.declared.errors.ParseError.{ParseError}
use Rattle.h5_tokenizer_spec.specs.declared.kinds.TextKind.{TextKind}
use Rattle.h5_tokenizer_spec.specs.declared.kinds.TextKind.TheVariants.{Data, Rcdata, Rawtext, ScriptData, Plaintext}
use Rattle.h5_tokenizer_spec.specs.Lines.{normal}
use Rattle.h5_tokenizer_spec.specs.States.{State, Text, ScriptDataEscapeStart, ScriptDataEscapeStartDash, ScriptDataEscaped, ScriptDataEscapedDash, ScriptDataEscapedDashDash, ScriptDataDoubleEscapeStart, ScriptDataDoubleEscapedLessThanSign, ScriptDataDoubleEscapeEnd, AmbiguousAmpersand, ToData, ToRcdata}
use Rattle.h5_tokenizer_spec.specs.Turn.{Outcome, Consumed, Reconsumed, Emitted, Asks}
use Rattle.h5_tokenizer_spec.specs.References.{Reference}
use Rattle.h5_tokenizer_spec.specs.Machine.{turn}

abbrev pub raw_text : RawKind → TextKind
raw_text chosen.Rcdata = Rcdata
raw_text chosen.Rawtext = Rawtext
raw_text chosen.ScriptData = ScriptData

-- the state that a reply to a start tag chooses
abbrev pub chosen_state : Reply → State
chosen_state Continues = Text Data
chosen_state (RunsScript node) = Text Data
chosen_state TurnsPlain = Text Plaintext
chosen_state (TurnsRaw kind) = Text (raw_text kind)
chosen_state (Indicates encoding) = Text Data
chosen_state (Refuses fault) = Text Data

-- The place of a reading: its state, the last start tag's name, whether the last byte was a CARRIAGE RETURN, the current line,
-- and the line in which what isn't emitted yet began.
pub record ReaderPlace : Type 0 where
  pub state : State
  pub last : List ℕ
  pub after_return : Bool
  pub line : ℕ
  pub began : ℕ

-- a LINE FEED after a CARRIAGE RETURN, which already was a newline
abbrev pub is_dropped : ReaderPlace → ℕ → Bool
is_dropped p x = p.after_return && x == 10

-- all that was consumed has been emitted
abbrev pub is_all_emitted : State → Bool
is_all_emitted (Text kind) = true
is_all_emitted ScriptDataEscapeStart = true
is_all_emitted ScriptDataEscapeStartDash = true
is_all_emitted (ScriptDataEscaped depth) = true
is_all_emitted (ScriptDataEscapedDash depth) = true
is_all_emitted (ScriptDataEscapedDashDash depth) = true
is_all_emitted (ScriptDataDoubleEscapeStart buffer) = true
is_all_emitted ScriptDataDoubleEscapedLessThanSign = true
is_all_emitted (ScriptDataDoubleEscapeEnd buffer) = true
is_all_emitted (AmbiguousAmpersand ToData) = true
is_all_emitted (AmbiguousAmpersand ToRcdata) = true
is_all_emitted state = false

-- the line after a byte. The count stops at the maximum of a u64.
abbrev pub line_after : ReaderPlace → ℕ → ℕ
line_after p x = if normal x == 10 then u64_saturate (p.line + 1) else p.line

-- the line in which what is emitted next begins
abbrev pub beginning : State → ℕ → ReaderPlace → ℕ
beginning state line p = if is_all_emitted state then line else p.began

-- after a consumed byte
abbrev pub behind : ℕ → State → ReaderPlace → ReaderPlace
behind x state p = record {
  state = state;
  last = p.last;
  after_return = x == 13;
  line = line_after p x;
  began = beginning state (line_after p x) p;
}

-- before a reconsumed byte
abbrev pub in_state : State → ReaderPlace → ReaderPlace
in_state state p = record p { state = state; began = beginning state p.line p }

-- after a LINE FEED that is dropped
abbrev pub behind_newline : ReaderPlace → ReaderPlace
behind_newline p = record p { after_return = false }

abbrev pub after_tag : TagKind → List ℕ → Reply → ReaderPlace → ReaderPlace
after_tag StartTag name reply p = record p { state = chosen_state reply; last = name }
after_tag EndTag name reply p = p

-- after a token with this reply
abbrev pub after_token : TokenText → Reply → ReaderPlace → ReaderPlace
after_token (TagIs tag) reply p = after_tag tag.kind tag.name reply p
after_token token reply p = p

-- for a table of references
module _ (table : List Reference) where
  -- the outcome at a byte
  abbrev pub outcome : ReaderPlace → ℕ → Outcome
  outcome p x = (turn table p.last p.state (normal x)).outcome

  -- From a place, bytes are passed that emit this text, and no token. The adjusted current node isn't checked.
  pub data Passes : ReaderPlace → List ℕ → List ℕ → ReaderPlace → List ℕ → Type 0 where
    passed : {p : ReaderPlace} {xs : List ℕ} → Passes p xs [] p xs
    drops : {p q : ReaderPlace} {x : ℕ} {xs ys text : List ℕ} → is_dropped p x ≡ true
        → Passes (behind_newline p) xs text q ys → Passes p (x ∷ xs) text q ys
    goes : {p q : ReaderPlace} {x : ℕ} {xs ys more : List ℕ} (text : List ℕ) (state : State) → is_dropped p x ≡ false → outcome p x ≡ Consumed text state
        → Passes (behind x state p) xs more q ys → Passes p (x ∷ xs) (text ++ more) q ys
    again : {p q : ReaderPlace} {x : ℕ} {xs ys more : List ℕ} (text : List ℕ) (state : State) → is_dropped p x ≡ false → outcome p x ≡ Reconsumed text state
        → Passes (in_state state p) (x ∷ xs) more q ys → Passes p (x ∷ xs) (text ++ more) q ys

  module _ {M : Type 0} (reply_to : M → TokenText → Reply) (after : M → TokenText → ℕ → M) (foreign : M → Bool) where
    -- One step: from a place, a meaning and an input, these tokens are emitted; the reply is the last token's; and this input
    -- is left. A text may be emitted at any byte, but all of it is emitted before a token and before the adjusted current node
    -- is checked. A token has the line in which it began.
    pub data Step : ReaderPlace → M → List ℕ → List TokenText → Reply → ReaderPlace → M → List ℕ → Type 0 where
      quiet_step : {p q : ReaderPlace} {m : M} {xs ys : List ℕ} → Passes p xs [] q ys → Step p m xs [] Continues q m ys
      text_step : {p q : ReaderPlace} {m : M} {x : ℕ} {text xs ys : List ℕ} → Passes p xs (x ∷ text) q ys
          → Step p m xs (Characters (x ∷ text) ∷ []) (reply_to m (Characters (x ∷ text))) q (after m (Characters (x ∷ text)) p.began) ys
      token_step : {p : ReaderPlace} {m : M} {x : ℕ} {xs : List ℕ} (token : TokenText) (state : State) → is_dropped p x ≡ false → outcome p x ≡ Emitted token state
          → Step p m (x ∷ xs) (token ∷ []) (reply_to m token) (after_token token (reply_to m token) (behind x state p)) (after m token p.began) xs
      ask_step : {p : ReaderPlace} {m : M} {x : ℕ} {xs : List ℕ} (there : State) (error : ParseError) (elsewhere : State) → is_dropped p x ≡ false
          → outcome p x ≡ Asks there error elsewhere
          → Step p m (x ∷ xs) [] Continues (behind x (if foreign m then there else elsewhere) p) m xs

    -- Steps, one after another, each after a reply after which tokenization goes on.
    pub data Read : ReaderPlace → M → List ℕ → List TokenText → Reply → ReaderPlace → M → List ℕ → Type 0 where
      nothing_read : {p : ReaderPlace} {m : M} {xs : List ℕ} → Read p m xs [] Continues p m xs
      read_on : {p q r : ReaderPlace} {m n o : M} {xs ys zs : List ℕ} {ts us : List TokenText} {reply next : Reply}
          → Read p m xs ts reply q n ys → goes_on reply ≡ true → Step q n ys us next r o zs → Read p m xs (ts ++ us) next r o zs
