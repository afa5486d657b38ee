-- What one step of the tokenizer did.
use Rattle.std.specs.Prelude.{◌≡◌, ℕ, ◌+◌, Bool, true, false, List, ◌++◌, length, ◌<◌, ◌≤◌, ◌⊎◌, take, Result, Ok, Err, Option, Some, None}
use Rattle.std.specs.Borrow.{Bor}
use Rattle.std.specs.Io.Iter.{u64_saturate}
use Rattle.h5_token.specs.TokenText.{TokenText}
use Rattle.h5_token.specs.Reply.{Reply, Refuses}
use Rattle.h5_token.specs.declared.fault.BuildFault.{BuildFault}
use Rattle.h5_token.specs.declared.fault.BuildFault.TheVariants as fault
use Rattle.h5_markup.specs.Matching.{Open, No, Found}
use Rattle.h5_markup.specs.Ending.{walk}
use Rattle.h5_tokenizer_input.specs.Answers.{goes_on}
use Rattle.h5_tokenizer_input.specs.Stops.{AnswersAs, stops_as}
use Rattle.h5_tokenizer_input.specs.declared.stop.Stop.{Stop}
use Rattle.h5_plain_tokenizer.specs.Front.{Begins, opening, ReaderPlace, front, mark}
use Rattle.h5_plain_tokenizer.specs.Tokens.{start_of}
use Rattle.h5_plain_tokenizer.specs.Read.{Bits, Step, Reads, next_place, started, IsUndecided}
use Rattle.h5_plain_tokenizer.specs.declared.front.Mode.{Mode}
use Rattle.h5_plain_tokenizer.specs.declared.front.Construct.{Construct}
use Rattle.h5_plain_tokenizer.specs.declared.state.State.{State}
use Rattle.h5_plain_tokenizer.specs.declared.state.Search.{Search}
use Rattle.h5_plain_tokenizer.specs.declared.state.Halt.{Halt}
use Rattle.h5_plain_tokenizer.specs.declared.state.Halt.TheVariants as halt
use Rattle.h5_plain_tokenizer.specs.declared.state.Turn.{Turn}
use Rattle.h5_plain_tokenizer.specs.declared.state.Turn.TheVariants.{Waits, Goes, Stops}

abbrev pub place_of : State → ReaderPlace
place_of state = record { at_start = state.at_start; mode = state.mode; last = state.last; line = state.line }

-- From `xs` up to `ys` there is text, and it was appended to `old`.
pub record TakesBits (mode : Mode) (last : List ℕ) (foreign : Bool) (xs ys old new : List ℕ) : Type 0 where
  pub text : List ℕ
  pub bits : Bits mode last foreign xs text ys
  pub put : new ≡ old ++ text
  pub shorter : length ys < length xs

abbrev pub TakesSome : Mode → List ℕ → Bool → List ℕ → Option (List ℕ) → List ℕ → List ℕ → Type 0
TakesSome mode last foreign xs None old new = new ≡ old
TakesSome mode last foreign xs (Some ys) old new = TakesBits mode last foreign xs ys old new

-- some text, or none
pub record TakesMany (mode : Mode) (last xs ys old new : List ℕ) : Type 0 where
  pub text : List ℕ
  pub bits : Bits mode last true xs text ys
  pub put : new ≡ old ++ text
  pub no_longer : length ys ≤ length xs

-- a construct begins at the start, and its end isn't in the bytes after its opening that were searched
pub record IsPending (search : Search) (mode : Mode) (last xs : List ℕ) : Type 0 where
  pub construct : Construct
  pub inner : List ℕ
  pub begins : opening mode last search.foreign xs ≡ Found (Begins construct) inner
  pub within : search.at ≤ length inner
  pub walked : walk (start_of construct) (take search.at inner) ≡ Some search.place

abbrev pub Pending : Option Search → Mode → List ℕ → List ℕ → Type 0
Pending None mode last xs = Unit {0}
Pending (Some search) mode last xs = IsPending search mode last xs

-- a search that hasn't looked at any bytes
abbrev pub fresh : Bool → Construct → Search
fresh foreign construct = record { foreign = foreign; at = 0; place = start_of construct }

-- After the byte order mark, if one is allowed and there. Nothing else is skipped.
abbrev pub IsBehindMark : ReaderPlace → List ℕ → List ℕ → Type 0
IsBehindMark p xs rest =
    ((p.at_start ≡ false) × (rest ≡ xs))
    ⊎ ((p.at_start ≡ true) × ((mark xs ≡ Found tt rest) ⊎ ((mark xs ≡ No) × (rest ≡ xs))))

pub record Skipped (p : ReaderPlace) (xs : List ℕ) (q : ReaderPlace) (rest : List ℕ) (search : Option Search) : Type 0 where
  pub place : q ≡ started p
  pub behind : IsBehindMark p xs rest
  pub pending : Pending search q.mode q.last rest

abbrev pub Skips : ReaderPlace → List ℕ → ReaderPlace → Option (Bor (List ℕ) × Option Search) → Type 0
Skips p xs q None = (q ≡ p) × (p.at_start ≡ true) × (mark xs ≡ Open)
Skips p xs q (Some x) = Skipped p xs q x.0.now x.1

abbrev pub turn_of : {H : Type 0} → Option (Stop H) → Bor (List ℕ) → ℕ → Turn H
turn_of None rest lines = Goes rest lines
turn_of (Some s) rest lines = Stops s rest lines

-- the place, after this number of newlines
abbrev pub further : ℕ → ReaderPlace → ReaderPlace
further lines p = record { at_start = p.at_start; mode = p.mode; last = p.last; line = u64_saturate (p.line + lines) }

module _ {M : Type 0} (reply_to : M → TokenText → Reply) (after : M → TokenText → ℕ → M) where
  -- a token was passed to the sink: the next place except for the line, whether reading stops, and the sink's meaning
  -- afterwards
  pub record HandedOn {H : Type 0} (node : H → ℕ) (p : ReaderPlace) (m : M) (t : TokenText) (q : ReaderPlace) (n : M) (stopped : Option (Stop H)) : Type 0 where
    pub place : q ≡ next_place p t (reply_to m t)
    pub meaning : n ≡ after m t p.line
    pub answer : AnswersAs node stopped (reply_to m t)

  abbrev pub HandsOn : {H : Type 0} → (H → ℕ) → ReaderPlace → M → TokenText → ReaderPlace → M → Result (Option (Stop H)) BuildFault → Type 0
  HandsOn node p m t q n (Ok stopped) = HandedOn node p m t q n stopped
  HandsOn node p m t q n (Err fault.Memory) = Unit {0}
  HandsOn node p m t q n (Err fault.AfterEnd) = (reply_to m t ≡ Refuses fault.AfterEnd) × (n ≡ after m t p.line)
  HandsOn node p m t q n (Err fault.NotInText) = (reply_to m t ≡ Refuses fault.NotInText) × (n ≡ after m t p.line)
  HandsOn node p m t q n (Err fault.Failed) = (reply_to m t ≡ Refuses fault.Failed) × (n ≡ after m t p.line)

module _ {M : Type 0} (reply_to : M → TokenText → Reply) (after : M → TokenText → ℕ → M) (foreign : M → Bool) where
  -- one step was taken, up to a reply
  pub record Moves (p : ReaderPlace) (m : M) (xs : List ℕ) (reply : Reply) (q : ReaderPlace) (n : M) (ys : List ℕ) : Type 0 where
    pub tokens : List TokenText
    pub step : Step reply_to after foreign p m xs tokens reply q n ys
    pub shorter : length ys < length xs

  -- one step was taken, after which tokenization goes on
  pub record MovesOn (p : ReaderPlace) (m : M) (xs : List ℕ) (q : ReaderPlace) (n : M) (ys : List ℕ) : Type 0 where
    pub reply : Reply
    pub goes_on : goes_on reply ≡ true
    pub moves : Moves p m xs reply q n ys

  -- no step can be taken, and nothing has changed
  pub record StandsStill (p : ReaderPlace) (m : M) (xs : List ℕ) (q : ReaderPlace) (n : M) (search : Option Search) : Type 0 where
    pub place : q ≡ p
    pub meaning : n ≡ m
    pub undecided : front p.mode p.last (foreign m) xs ≡ Open
    pub pending : Pending search p.mode p.last xs

  -- the sink refused the token of a step
  pub record MovesInto (p : ReaderPlace) (m : M) (xs : List ℕ) (fault : BuildFault) (n : M) : Type 0 where
    pub place : ReaderPlace
    pub rest : List ℕ
    pub moves : Moves p m xs (Refuses fault) place n rest

  -- what one step did; the place is still in the line in which the step began
  abbrev pub Makes : {H : Type 0} → (H → ℕ) → ReaderPlace → M → List ℕ → ReaderPlace → M → Result (Turn H) BuildFault → Type 0
  Makes node p m xs q n (Ok (Waits search)) = StandsStill p m xs q n search
  Makes node p m xs q n (Ok (Goes rest lines)) = MovesOn p m xs (further lines q) n rest.now
  Makes node p m xs q n (Ok (Stops s rest lines)) = Moves p m xs (stops_as node s) (further lines q) n rest.now
  Makes node p m xs q n (Err fault.Memory) = Unit {0}
  Makes node p m xs q n (Err fault.AfterEnd) = MovesInto p m xs fault.AfterEnd n
  Makes node p m xs q n (Err fault.NotInText) = MovesInto p m xs fault.NotInText n
  Makes node p m xs q n (Err fault.Failed) = MovesInto p m xs fault.Failed n

  -- Steps were taken until further input decides what comes next.
  pub record ComesTo (p : ReaderPlace) (m : M) (xs : List ℕ) (q : ReaderPlace) (n : M) (ys : List ℕ) (search : Option Search) : Type 0 where
    pub reply : Reply
    pub goes_on : goes_on reply ≡ true
    pub reads : Reads reply_to after foreign p m xs reply q n ys
    pub undecided : front q.mode q.last (foreign n) ys ≡ Open
    pub pending : Pending search q.mode q.last ys
    pub started : q.at_start ≡ false

  -- Steps were taken until a reply stopped the tokenizer.
  pub record HaltsAt (p : ReaderPlace) (m : M) (xs : List ℕ) (reply : Reply) (q : ReaderPlace) (n : M) (ys : List ℕ) : Type 0 where
    pub reads : Reads reply_to after foreign p m xs reply q n ys
    pub shorter : length ys < length xs

  -- Steps were taken until the sink refused a token.
  pub record RunsInto (p : ReaderPlace) (m : M) (xs : List ℕ) (fault : BuildFault) (n : M) : Type 0 where
    pub place : ReaderPlace
    pub rest : List ℕ
    pub reads : Reads reply_to after foreign p m xs (Refuses fault) place n rest

  abbrev pub Runs : {H : Type 0} → (H → ℕ) → ReaderPlace → M → List ℕ → ReaderPlace → M → Result (Halt H) BuildFault → Type 0
  Runs node p m xs q n (Ok (halt.Waits rest search)) = ComesTo p m xs q n rest.now search
  Runs node p m xs q n (Ok (halt.Stops s rest)) = HaltsAt p m xs (stops_as node s) q n rest.now
  Runs node p m xs q n (Err fault.Memory) = Unit {0}
  Runs node p m xs q n (Err fault.AfterEnd) = RunsInto p m xs fault.AfterEnd n
  Runs node p m xs q n (Err fault.NotInText) = RunsInto p m xs fault.NotInText n
  Runs node p m xs q n (Err fault.Failed) = RunsInto p m xs fault.Failed n

  -- As `ComesTo`, but a byte order mark may come first.
  pub record WaitsAt (p : ReaderPlace) (m : M) (xs : List ℕ) (q : ReaderPlace) (n : M) (ys : List ℕ) (search : Option Search) : Type 0 where
    pub reply : Reply
    pub goes_on : goes_on reply ≡ true
    pub reads : Reads reply_to after foreign p m xs reply q n ys
    pub undecided : IsUndecided q (foreign n) ys
    pub pending : Pending search q.mode q.last ys

  abbrev pub RunsFrom : {H : Type 0} → (H → ℕ) → ReaderPlace → M → List ℕ → ReaderPlace → M → Result (Halt H) BuildFault → Type 0
  RunsFrom node p m xs q n (Ok (halt.Waits rest search)) = WaitsAt p m xs q n rest.now search
  RunsFrom node p m xs q n (Ok (halt.Stops s rest)) = HaltsAt p m xs (stops_as node s) q n rest.now
  RunsFrom node p m xs q n (Err fault.Memory) = Unit {0}
  RunsFrom node p m xs q n (Err fault.AfterEnd) = RunsInto p m xs fault.AfterEnd n
  RunsFrom node p m xs q n (Err fault.NotInText) = RunsInto p m xs fault.NotInText n
  RunsFrom node p m xs q n (Err fault.Failed) = RunsInto p m xs fault.Failed n
