-- Reading with the parse errors that it reports, one byte after another.
use Rattle.std.specs.Prelude.{◌≡◌, ◌==◌, ◌⊎◌, ℕ, Bool, true, false, List, [], ◌∷◌, ◌++◌, if◌then◌else◌}
use Rattle.h5_token.specs.TokenText.{TokenText, Characters}
use Rattle.h5_token.specs.Reply.{Reply, Continues}
use Rattle.h5_tokenizer_input.specs.Answers.{goes_on}
use Rattle.h5_tokenizer_spec.specs.declared.errors.ParseError.{ParseError}
use Rattle.h5_tokenizer_spec.specs.declared.position.Position.{Position}
use Rattle.h5_tokenizer_spec.specs.declared.position.LocatedError.{LocatedError}
use Rattle.h5_tokenizer_spec.specs.Lines.{normal}
use Rattle.h5_tokenizer_spec.specs.States.{State}
use Rattle.h5_tokenizer_spec.specs.Turn.{Outcome, Consumed, Reconsumed, Emitted, Asks}
use Rattle.h5_tokenizer_spec.specs.References.{Reference}
use Rattle.h5_tokenizer_spec.specs.Machine.{turn}
use Rattle.h5_tokenizer_spec.specs.AtEnd.{at_end}
use Rattle.h5_tokenizer_spec.specs.Reading.{ReaderPlace, outcome, is_dropped, behind, behind_newline, in_state, after_token, Passes, Read}
use Rattle.h5_tokenizer_spec.specs.Told.{told_at}
use Rattle.h5_tokenizer_spec.specs.declared.position.Spot.{Spot}
use Rattle.h5_tokenizer_spec.specs.SeenAhead.{seen_ahead, told_of_row}
use Rattle.h5_tokenizer_spec.specs.Spots.{position, spot_behind, spot_past, spot_again}
use Rattle.h5_tokenizer_spec.specs.InputErrors.{InputErrors}

-- How far a reading got: the text that was emitted but not passed to the sink, and the line in which it began; the last reply;
-- the place; the sink's meaning; and the remaining input.
pub record Reached (M : Type 0) : Type 0 where
  pub text : List ℕ
  pub line : ℕ
  pub reply : Reply
  pub place : ReaderPlace
  pub spot : Spot
  pub meaning : M
  pub rest : List ℕ

-- nothing was read
abbrev pub at_first : {M : Type 0} → ReaderPlace → Spot → M → List ℕ → Reached M
at_first p s m xs = record { text = []; line = p.began; reply = Continues; place = p; spot = s; meaning = m; rest = xs }

-- the errors of the row at a byte, and those of the end
abbrev pub row_errors : List Reference → ReaderPlace → ℕ → List ParseError
row_errors table p x = (turn table p.last p.state (normal x)).errors

abbrev pub end_errors : List Reference → ReaderPlace → List ParseError
end_errors table p = (at_end table p.state).errors

-- the position of the reading
abbrev pub here : {M : Type 0} → Reached M → Position
here r = position r.place.line r.spot

-- the errors at a byte: those of the input and then those of the row; if bytes were seen ahead, first those of the row, which
-- are before it
abbrev pub in_order : ℕ → List LocatedError → List LocatedError → List LocatedError
in_order ahead input row = if ahead == 0 then input ++ row else row ++ input

abbrev pub told_at_byte : List Reference → ReaderPlace → Position → ℕ → List ParseError → List LocatedError
told_at_byte table p at x input = in_order (seen_ahead table p.state) (told_at at input) (told_of_row (seen_ahead table p.state) at (row_errors table p x))

-- the errors of the end
abbrev pub told_at_end : List Reference → ReaderPlace → Position → List LocatedError
told_at_end table p at = told_of_row (seen_ahead table p.state) at (end_errors table p)

-- A row handles the current byte, and tokenization may go on. The errors are those of the input there, if the byte is new, and
-- those of the row.
pub record MeetsByte (table : List Reference) {M : Type 0} (r : Reached M) (x : ℕ) (xs : List ℕ) (deed : Outcome) (errors : List LocatedError) : Type 0 where
  pub goes_on : goes_on r.reply ≡ true
  pub front : r.rest ≡ x ∷ xs
  pub not_dropped : is_dropped r.place x ≡ false
  pub outcome : outcome table r.place x ≡ deed
  pub input : List ParseError
  pub input_errors : InputErrors r.spot.is_new r.rest input
  pub errors_are : errors ≡ told_at_byte table r.place (here r) x input

-- after the current byte, which was consumed
abbrev pub consumed : {M : Type 0} → ℕ → List ℕ → State → Reached M → Reached M
consumed x xs state r = record r { reply = Continues; place = behind x state r.place; spot = spot_behind x r.spot; rest = xs }

abbrev pub reconsumed : {M : Type 0} → State → Reached M → Reached M
reconsumed state r = record r { reply = Continues; place = in_state state r.place; spot = spot_again r.spot }

-- after a LINE FEED that is dropped
abbrev pub dropped : {M : Type 0} → List ℕ → Reached M → Reached M
dropped xs r = record r { reply = Continues; place = behind_newline r.place; spot = spot_past r.spot; rest = xs }

-- a text is emitted, after what is held
abbrev pub emitting : {M : Type 0} → List ℕ → Reached M → Reached M
emitting text r = record r { text = r.text ++ text }

-- no text is held, and what is emitted next begins here
abbrev pub with_none : {M : Type 0} → Reached M → Reached M
with_none r = record r { text = []; line = r.place.began }

module _ {M : Type 0} (reply_to : M → TokenText → Reply) (after : M → TokenText → ℕ → M) where
  -- a token was passed to the sink, which began in this line
  abbrev pub handed : TokenText → ℕ → Reached M → Reached M
  handed token line r = with_none (record r { reply = reply_to r.meaning token; place = after_token token (reply_to r.meaning token) r.place; meaning = after r.meaning token line })

module _ (table : List Reference) {M : Type 0} (reply_to : M → TokenText → Reply) (after : M → TokenText → ℕ → M) (foreign : M → Bool) where
  -- Reading from `start` got to here, and reported these errors.
  pub data Reaches (start : Reached M) : Reached M → List LocatedError → Type 0 where
    begins : Reaches start start []
    drops : {r : Reached M} {told : List LocatedError} {x : ℕ} {xs : List ℕ} → Reaches start r told
        → goes_on r.reply ≡ true → r.rest ≡ x ∷ xs → is_dropped r.place x ≡ true → Reaches start (dropped xs r) told
    goes : {r : Reached M} {told : List LocatedError} {x : ℕ} {xs : List ℕ} {errors : List LocatedError} (text : List ℕ) (state : State) → Reaches start r told
        → MeetsByte table r x xs (Consumed text state) errors
        → Reaches start (emitting text (consumed x xs state r)) (told ++ errors)
    again : {r : Reached M} {told : List LocatedError} {x : ℕ} {xs : List ℕ} {errors : List LocatedError} (text : List ℕ) (state : State) → Reaches start r told
        → MeetsByte table r x xs (Reconsumed text state) errors
        → Reaches start (emitting text (reconsumed state r)) (told ++ errors)
    -- the held text is passed to the sink, at any byte
    hands_text : {r : Reached M} {told : List LocatedError} {x : ℕ} {text : List ℕ} → Reaches start r told
        → goes_on r.reply ≡ true → r.text ≡ x ∷ text → Reaches start (handed reply_to after (Characters r.text) r.line r) told
    -- no text is held
    hands_nothing : {r : Reached M} {told : List LocatedError} → Reaches start r told
        → goes_on r.reply ≡ true → r.text ≡ [] → Reaches start (at_first r.place r.spot r.meaning r.rest) told
    hands_token : {r : Reached M} {told : List LocatedError} {x : ℕ} {xs : List ℕ} {errors : List LocatedError} (token : TokenText) (state : State) → Reaches start r told
        → r.text ≡ [] → MeetsByte table r x xs (Emitted token state) errors
        → Reaches start (handed reply_to after token r.place.began (consumed x xs state r)) (told ++ errors)
    -- the adjusted current node is checked; if it is in the HTML namespace, that is an error
    asks : {r : Reached M} {told : List LocatedError} {x : ℕ} {xs : List ℕ} {errors : List LocatedError} (there : State) (error : ParseError) (elsewhere : State) → Reaches start r told
        → r.text ≡ [] → MeetsByte table r x xs (Asks there error elsewhere) errors
        → Reaches start (with_none (consumed x xs (if foreign r.meaning then there else elsewhere) r))
        (told ++ (if foreign r.meaning then errors else errors ++ told_at (here r) (error ∷ [])))

  -- An input was read up to a reply, and then bytes were passed up to here. What they emit is held, and began in this line.
  pub record IsHeld (p : ReaderPlace) (m : M) (xs : List ℕ) (r : Reached M) : Type 0 where
    pub tokens : List TokenText
    pub reply : Reply
    pub place : ReaderPlace
    pub rest : List ℕ
    pub read : Read table reply_to after foreign p m xs tokens reply place r.meaning rest
    pub goes_on : goes_on reply ≡ true
    pub passes : Passes table place rest r.text r.place r.rest
    pub began : r.line ≡ place.began

  -- An input was read up to here, with this reply. Nothing is held.
  pub record IsHanded (p : ReaderPlace) (m : M) (xs : List ℕ) (r : Reached M) : Type 0 where
    pub tokens : List TokenText
    pub read : Read table reply_to after foreign p m xs tokens r.reply r.place r.meaning r.rest
    pub none : r.text ≡ []
    pub began : r.line ≡ r.place.began

  abbrev pub IsReadSo : ReaderPlace → M → List ℕ → Reached M → Type 0
  IsReadSo p m xs r = ((r.reply ≡ Continues) × IsHeld p m xs r) ⊎ IsHanded p m xs r
