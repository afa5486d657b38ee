-- The results of the tokenizer's calls, and its state afterwards.
use Rattle.std.specs.Prelude.{◌≡◌, ℕ, Bool, List, [], Result, Ok, Err, string_bytes}
use Rattle.h5_token.specs.TokenText.{TokenText}
use Rattle.h5_token.specs.Reply.{Reply, RunsScript, Indicates}
use Rattle.h5_token.specs.declared.fault.BuildFault.{BuildFault}
use Rattle.h5_tokenizer_input.specs.declared.stage.Stage.TheVariants.{Reading, Ended, Failed}
use Rattle.h5_tokenizer_input.specs.declared.result.TokenizerResult.{TokenizerResult}
use Rattle.h5_tokenizer_input.specs.declared.result.TokenizerResult.TheVariants as result
use Rattle.h5_standard_tokenizer.specs.Mark.{behind_mark, still_at_start}
use Rattle.h5_standard_tokenizer.specs.ReaderText.{ReaderText}
use Rattle.h5_standard_tokenizer.specs.Steps.{Stopped, ReadsOn, Fails}

module _ {M : Type 0} (reply_to : M → TokenText → Reply) (after : M → TokenText → ℕ → M) (foreign : M → Bool) where
  -- All of an input was read, and everything that it emits was passed to the sink. Nothing is buffered.
  pub record ReadsAll (old : ReaderText) (m : M) (xs : List ℕ) (new : ReaderText) (n : M) (queue : List ℕ) : Type 0 where
    pub reads : ReadsOn reply_to after foreign old.place m (behind_mark old.at_start xs) new.place n []
    pub at_start : new.at_start ≡ still_at_start old.at_start xs
    pub empty : queue ≡ []
    pub stage : new.stage ≡ Reading

  -- Reading stopped at a token with this reply, and the remaining input is in the queue.
  pub record StopsAt (old : ReaderText) (m : M) (xs : List ℕ) (reply : Reply) (new : ReaderText) (n : M) (queue : List ℕ) : Type 0 where
    pub stopped : Stopped reply_to after foreign old.place m (behind_mark old.at_start xs) reply new.place n queue
    pub at_start : new.at_start ≡ still_at_start old.at_start xs
    pub stage : new.stage ≡ Reading

  -- The sink refused the last token, or an allocation failed.
  pub record FailsAt (old : ReaderText) (m : M) (xs : List ℕ) (fault : BuildFault) (new : ReaderText) (n : M) : Type 0 where
    pub fails : Fails reply_to after foreign old.place m (behind_mark old.at_start xs) n fault
    pub stage : new.stage ≡ Failed

  -- what `feed` did, by its result
  abbrev pub Feeds : {H : Type 0} → (H → ℕ) → ReaderText → M → List ℕ → ReaderText → M → List ℕ → Result (TokenizerResult H) BuildFault → Type 0
  Feeds node old m xs new n queue (Ok result.Done) = ReadsAll old m xs new n queue
  Feeds node old m xs new n queue (Ok (result.Script handle)) = StopsAt old m xs (RunsScript (node handle)) new n queue
  Feeds node old m xs new n queue (Ok (result.EncodingIndicator encoding)) = StopsAt old m xs (Indicates (string_bytes encoding)) new n queue
  Feeds node old m xs new n queue (Err fault) = FailsAt old m xs fault new n

-- the tokenizer has ended or failed, by the result of `end`
abbrev pub ClosedAs : ReaderText → Result (Unit {0}) BuildFault → Type 0
ClosedAs new (Ok done) = new.stage ≡ Ended
ClosedAs new (Err f) = new.stage ≡ Failed
