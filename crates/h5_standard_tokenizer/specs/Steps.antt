-- What steps of the tokenizer did. Texts are passed to the sink after them.
use Rattle.std.specs.Prelude.{◌≡◌, ◌<◌, ℕ, Bool, true, List, [], Result, Ok, Err, Option, Some, None}
use Rattle.std.specs.Borrow.{Bor}
use Rattle.h5_token.specs.TokenText.{TokenText}
use Rattle.h5_token.specs.Reply.{Reply, Refuses}
use Rattle.h5_token.specs.declared.fault.BuildFault.{BuildFault}
use Rattle.h5_token.specs.declared.fault.BuildFault.TheVariants as fault
use Rattle.h5_tokenizer_input.specs.Answers.{goes_on}
use Rattle.h5_tokenizer_input.specs.Stops.{AnswersAs, stops_as}
use Rattle.h5_tokenizer_input.specs.declared.stop.Stop.{Stop}
use Rattle.h5_tokenizer_spec.specs.ReferenceTable.{references}
use Rattle.h5_tokenizer_spec.specs.Reading.{ReaderPlace, Passes, Read, after_token}
use Rattle.h5_standard_tokenizer.specs.Weight.{weight}
use Rattle.h5_standard_tokenizer.specs.declared.steps.Progress.{Progress}
use Rattle.h5_standard_tokenizer.specs.declared.steps.Progress.TheVariants as progress
use Rattle.h5_standard_tokenizer.specs.declared.steps.Halt.{Halt}
use Rattle.h5_standard_tokenizer.specs.declared.steps.Halt.TheVariants as halt

module _ {M : Type 0} (reply_to : M → TokenText → Reply) (after : M → TokenText → ℕ → M) where
  -- A token was passed to the sink, with this line: the next place, whether reading stops, and the sink's meaning afterwards.
  pub record HandedOn {H : Type 0} (node : H → ℕ) (p : ReaderPlace) (m : M) (t : TokenText) (line : ℕ) (q : ReaderPlace) (n : M) (stopped : Option (Stop H)) : Type 0 where
    pub place : q ≡ after_token t (reply_to m t) p
    pub meaning : n ≡ after m t line
    pub answer : AnswersAs node stopped (reply_to m t)

  abbrev pub HandsOn : {H : Type 0} → (H → ℕ) → ReaderPlace → M → TokenText → ℕ → ReaderPlace → M → Result (Option (Stop H)) BuildFault → Type 0
  HandsOn node p m t line q n (Ok stopped) = HandedOn node p m t line q n stopped
  HandsOn node p m t line q n (Err fault.Memory) = Unit {0}
  HandsOn node p m t line q n (Err fault.AfterEnd) = (reply_to m t ≡ Refuses fault.AfterEnd) × (n ≡ after m t line)
  HandsOn node p m t line q n (Err fault.NotInText) = (reply_to m t ≡ Refuses fault.NotInText) × (n ≡ after m t line)
  HandsOn node p m t line q n (Err fault.Failed) = (reply_to m t ≡ Refuses fault.Failed) × (n ≡ after m t line)

module _ {M : Type 0} (reply_to : M → TokenText → Reply) (after : M → TokenText → ℕ → M) (foreign : M → Bool) where
  -- An input was read up to a reply.
  pub record Stopped (p : ReaderPlace) (m : M) (xs : List ℕ) (reply : Reply) (q : ReaderPlace) (n : M) (ys : List ℕ) : Type 0 where
    pub tokens : List TokenText
    pub read : Read references reply_to after foreign p m xs tokens reply q n ys

  -- An input was read up to a reply after which tokenization goes on.
  pub record ReadsOn (p : ReaderPlace) (m : M) (xs : List ℕ) (q : ReaderPlace) (n : M) (ys : List ℕ) : Type 0 where
    pub reply : Reply
    pub goes_on : goes_on reply ≡ true
    pub stopped : Stopped p m xs reply q n ys

  -- An input was read up to a place, and then bytes were passed up to another one. The text that they emit wasn't passed to the
  -- sink yet, and began in this line.
  pub record Holds (p : ReaderPlace) (m : M) (xs text : List ℕ) (line : ℕ) (q : ReaderPlace) (n : M) (ys : List ℕ) : Type 0 where
    pub place : ReaderPlace
    pub rest : List ℕ
    pub reads : ReadsOn p m xs place n rest
    pub passes : Passes references place rest text q ys
    pub began : line ≡ place.began

  -- The sink refused the last token.
  pub record RefusedAt (p : ReaderPlace) (m : M) (xs : List ℕ) (fault : BuildFault) (n : M) : Type 0 where
    pub place : ReaderPlace
    pub rest : List ℕ
    pub stopped : Stopped p m xs (Refuses fault) place n rest

  -- the sink's error, or a failed allocation, after which nothing is known
  abbrev pub Fails : ReaderPlace → M → List ℕ → M → BuildFault → Type 0
  Fails p m xs n fault.Memory = Unit {0}
  Fails p m xs n fault.AfterEnd = RefusedAt p m xs fault.AfterEnd n
  Fails p m xs n fault.NotInText = RefusedAt p m xs fault.NotInText n
  Fails p m xs n fault.Failed = RefusedAt p m xs fault.Failed n

  -- what was passed to the sink, from an input up to here, and the effect of its reply
  abbrev pub Leads : {H : Type 0} → (H → ℕ) → ReaderPlace → M → List ℕ → ReaderPlace → List ℕ → M → Result (Option (Stop H)) BuildFault → Type 0
  Leads node p m xs q ys n (Ok None) = ReadsOn p m xs q n ys
  Leads node p m xs q ys n (Ok (Some s)) = Stopped p m xs (stops_as node s) q n ys
  Leads node p m xs q ys n (Err f) = Fails p m xs n f

  -- what one step did
  abbrev pub Makes : {H : Type 0} → (H → ℕ) → ReaderPlace → M → List ℕ → List ℕ → ℕ → ReaderPlace → M → Result (Progress H) BuildFault → Type 0
  Makes node p m xs text line q n (Ok (progress.GoesOn rest)) = Holds p m xs text line q n rest.now
  Makes node p m xs text line q n (Ok (progress.Stops s rest)) = Stopped p m xs (stops_as node s) q n rest.now
  Makes node p m xs text line q n (Err f) = Fails p m xs n f

  -- what was done with a chunk
  abbrev pub Runs : {H : Type 0} → (H → ℕ) → ReaderPlace → M → List ℕ → ReaderPlace → M → Result (Halt H) BuildFault → Type 0
  Runs node p m xs q n (Ok halt.Done) = ReadsOn p m xs q n []
  Runs node p m xs q n (Ok (halt.Stops s rest)) = Stopped p m xs (stops_as node s) q n rest.now
  Runs node p m xs q n (Err f) = Fails p m xs n f

-- if tokenization goes on, less is left to do
abbrev pub IsLess : {H : Type 0} → ReaderPlace → List ℕ → ReaderPlace → Result (Progress H) BuildFault → Type 0
IsLess p xs q (Ok (progress.GoesOn rest)) = weight q rest.now < weight p xs
IsLess p xs q (Ok (progress.Stops s rest)) = Unit {0}
IsLess p xs q (Err f) = Unit {0}

abbrev pub progress_of : {H : Type 0} → Option (Stop H) → Bor (List ℕ) → Progress H
progress_of None rest = progress.GoesOn rest
progress_of (Some s) rest = progress.Stops s rest
