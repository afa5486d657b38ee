-- What steps of the tokenizer that reports errors did.
use Rattle.std.specs.List.{list_all}
use Rattle.std.specs.Prelude.{◌≡◌, ◌≤◌, ◌∷◌, ℕ, ◌+◌, ◌-◌, Bool, true, false, List, [], Result, Ok, Err, Option, Some, None, length, string_bytes}
use Rattle.std.specs.Io.Iter.{u64_saturate}
use Rattle.h5_token.specs.TokenText.{TokenText}
use Rattle.h5_token.specs.Reply.{Reply, Refuses, RunsScript, Indicates}
use Rattle.h5_token.specs.declared.fault.BuildFault.{BuildFault}
use Rattle.h5_token.specs.declared.fault.BuildFault.TheVariants as fault
use Rattle.h5_tokenizer_input.specs.Answers.{goes_on}
use Rattle.h5_tokenizer_input.specs.Stops.{stops_as}
use Rattle.h5_tokenizer_input.specs.declared.stop.Stop.{Stop}
use Rattle.h5_tokenizer_input.specs.declared.result.TokenizerResult.{TokenizerResult}
use Rattle.h5_tokenizer_input.specs.declared.result.TokenizerResult.TheVariants as result
use Rattle.h5_tokenizer_spec.specs.declared.errors.ParseError.{ParseError}
use Rattle.h5_tokenizer_spec.specs.declared.position.Spot.{Spot}
use Rattle.h5_tokenizer_spec.specs.declared.position.LocatedError.{LocatedError}
use Rattle.h5_tokenizer_spec.specs.InputErrors.{InputErrors}
use Rattle.h5_tokenizer_spec.specs.Reading.{ReaderPlace, is_dropped}
use Rattle.h5_tokenizer_spec.specs.ReferenceTable.{references}
use Rattle.h5_tokenizer_spec.specs.Spots.{is_inside, position}
use Rattle.h5_tokenizer_spec.specs.Telling.{Reached, Reaches, told_at_byte}
use Rattle.h5_tokenizer_spec.specs.Told.{Tells}
use Rattle.h5_standard_tokenizer.specs.Mark.{behind_mark}
use Rattle.h5_standard_tokenizer.specs.declared.steps.Progress.{Progress}
use Rattle.h5_standard_tokenizer.specs.declared.steps.Progress.TheVariants as progress
use Rattle.h5_standard_tokenizer.specs.declared.steps.Halt.{Halt}
use Rattle.h5_standard_tokenizer.specs.declared.steps.Halt.TheVariants as halt

-- At the current byte, the errors of the input, if the byte is new, and those of the row were reported.
pub record TellsRow {E : Type 0} (told : E → List LocatedError → Type 0) (old new : E) (p : ReaderPlace) (s : Spot) (xs : List ℕ) (x : ℕ) : Type 0 where
  pub input : List ParseError
  pub input_errors : InputErrors s.is_new xs input
  pub tells : Tells told old new (told_at_byte references p (position p.line s) x input)

-- a character outside ASCII; `others` are its bytes after the first
pub record IsWideCharacter (bytes : List ℕ) : Type 0 where
  pub first : ℕ
  pub others : List ℕ
  pub split : bytes ≡ first ∷ others
  pub wide : 128 ≤ first
  pub within : list_all is_inside others ≡ true

-- From a start, with this sink of errors, reading got to here, and reported its errors; `now` is the sink of errors afterwards.
module _ {M : Type 0} (reply_to : M → TokenText → Reply) (after : M → TokenText → ℕ → M) (foreign : M → Bool) {E : Type 0} (told : E → List LocatedError → Type 0) (start : Reached M) (first : E) where
  pub record Came (r : Reached M) (now : E) : Type 0 where
    pub errors : List LocatedError
    pub reaches : Reaches references reply_to after foreign start r errors
    pub tells : Tells told first now errors

  -- reading got to a reply, and nothing is held
  abbrev pub CameTo : Reply → ReaderPlace → Spot → M → List ℕ → E → Type 0
  CameTo reply p s m xs now = Came (record { text = []; line = p.began; reply = reply; place = p; spot = s; meaning = m; rest = xs }) now

  -- reading goes on, and this text is held, which began in this line
  pub record CameOn (text : List ℕ) (line : ℕ) (p : ReaderPlace) (s : Spot) (m : M) (xs : List ℕ) (now : E) : Type 0 where
    pub reply : Reply
    pub goes_on : goes_on reply ≡ true
    pub came : Came (record { text = text; line = line; reply = reply; place = p; spot = s; meaning = m; rest = xs }) now

  -- reading goes on, and the errors at the current byte were reported
  pub record CameBefore (text : List ℕ) (line : ℕ) (p : ReaderPlace) (s : Spot) (m : M) (xs : List ℕ) (x : ℕ) (now : E) : Type 0 where
    pub old : E
    pub on : CameOn text line p s m xs old
    pub row : TellsRow told old now p s xs x

  -- the sink refused the last token
  pub record CameRefused (m : M) (now : E) (refused : BuildFault) : Type 0 where
    pub place : ReaderPlace
    pub spot : Spot
    pub rest : List ℕ
    pub came : CameTo (Refuses refused) place spot m rest now

  -- Reading got somewhere, and the errors up to there were reported, or also those at the current byte, and no others.
  pub data CameSomewhere (now : E) : Type 0 where
    up_to : {r : Reached M} → Came r now → CameSomewhere now
    with_byte : {text : List ℕ} {line : ℕ} {p : ReaderPlace} {s : Spot} {m : M} {x : ℕ} {xs : List ℕ}
        → CameBefore text line p s m (x ∷ xs) x now → is_dropped p x ≡ false → CameSomewhere now

  -- the sink's error, or a failed allocation, after which nothing is known about the sink of tokens
  abbrev pub FailsTelling : M → E → BuildFault → Type 0
  FailsTelling m now fault.Memory = CameSomewhere now
  FailsTelling m now fault.AfterEnd = CameRefused m now fault.AfterEnd
  FailsTelling m now fault.NotInText = CameRefused m now fault.NotInText
  FailsTelling m now fault.Failed = CameRefused m now fault.Failed

  -- the effect of the sink's reply; if reading goes on, this text is held then, which began in this line
  abbrev pub LeadsTelling : {H : Type 0} → (H → ℕ) → List ℕ → ℕ → ReaderPlace → Spot → M → List ℕ → E → Result (Option (Stop H)) BuildFault → Type 0
  LeadsTelling node text line p s m xs now (Ok None) = CameOn text line p s m xs now
  LeadsTelling node text line p s m xs now (Ok (Some stop)) = CameTo (stops_as node stop) p s m xs now
  LeadsTelling node text line p s m xs now (Err f) = FailsTelling m now f

  -- what one step did
  abbrev pub MakesTelling : {H : Type 0} → (H → ℕ) → List ℕ → ℕ → ReaderPlace → Spot → M → E → Result (Progress H) BuildFault → Type 0
  MakesTelling node text line p s m now (Ok (progress.GoesOn rest)) = CameOn text line p s m rest.now now
  MakesTelling node text line p s m now (Ok (progress.Stops stop rest)) = CameTo (stops_as node stop) p s m rest.now now
  MakesTelling node text line p s m now (Err f) = FailsTelling m now f

  -- what was done with a chunk
  abbrev pub RunsTelling : {H : Type 0} → (H → ℕ) → ReaderPlace → Spot → M → E → Result (Halt H) BuildFault → Type 0
  RunsTelling node p s m now (Ok halt.Done) = CameOn [] p.began p s m [] now
  RunsTelling node p s m now (Ok (halt.Stops stop rest)) = CameTo (stops_as node stop) p s m rest.now now
  RunsTelling node p s m now (Err f) = FailsTelling m now f

  -- what `feed` reported, by its result
  abbrev pub FeedsTelling : {H : Type 0} → (H → ℕ) → ReaderPlace → Spot → M → List ℕ → E → Result (TokenizerResult H) BuildFault → Type 0
  FeedsTelling node p s m queue now (Ok result.Done) = CameOn [] p.began p s m [] now
  FeedsTelling node p s m queue now (Ok (result.Script handle)) = CameTo (RunsScript (node handle)) p s m queue now
  FeedsTelling node p s m queue now (Ok (result.EncodingIndicator encoding)) = CameTo (Indicates (string_bytes encoding)) p s m queue now
  FeedsTelling node p s m queue now (Err f) = FailsTelling m now f

-- where the input begins after a byte order mark, if there is one
abbrev pub spot_behind_mark : Bool → List ℕ → Spot → Spot
spot_behind_mark at_start xs s = record s { offset = u64_saturate (s.offset + (length xs - length (behind_mark at_start xs))) }
