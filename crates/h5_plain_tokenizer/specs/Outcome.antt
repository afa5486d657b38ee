-- The results of the tokenizer's calls, and its state afterwards.
use Rattle.std.specs.Prelude.{◌≡◌, ℕ, Bool, true, List, [], length, ◌<◌, Result, Ok, Err, string_bytes}
use Rattle.h5_token.specs.TokenText.{TokenText}
use Rattle.h5_token.specs.Reply.{Reply, RunsScript, Indicates, Refuses}
use Rattle.h5_token.specs.declared.fault.BuildFault.{BuildFault}
use Rattle.h5_token.specs.declared.fault.BuildFault.TheVariants as fault
use Rattle.h5_tokenizer_input.specs.Answers.{goes_on}
use Rattle.h5_tokenizer_input.specs.declared.stage.Stage.TheVariants.{Reading, Failed}
use Rattle.h5_tokenizer_input.specs.declared.result.TokenizerResult.{TokenizerResult}
use Rattle.h5_tokenizer_input.specs.declared.result.TokenizerResult.TheVariants as result
use Rattle.h5_plain_tokenizer.specs.Front.{ReaderPlace}
use Rattle.h5_plain_tokenizer.specs.Read.{Reads, IsUndecided}
use Rattle.h5_plain_tokenizer.specs.ReaderText.{ReaderText}

module _ {M : Type 0} (reply_to : M → TokenText → Reply) (after : M → TokenText → ℕ → M) (foreign : M → Bool) where
  -- all was read except an undecided suffix
  pub record ReadsAll (p : ReaderPlace) (m : M) (xs : List ℕ) (new : ReaderText) (n : M) (queue : List ℕ) : Type 0 where
    pub reply : Reply
    pub goes_on : goes_on reply ≡ true
    pub reads : Reads reply_to after foreign p m xs reply new.place n new.held
    pub empty : queue ≡ []
    pub undecided : IsUndecided new.place (foreign n) new.held
    pub stage : new.stage ≡ Reading

  -- reading stopped at a token with this reply, and the remaining input is in the queue
  pub record StopsAt (p : ReaderPlace) (m : M) (xs : List ℕ) (reply : Reply) (new : ReaderText) (n : M) (queue : List ℕ) : Type 0 where
    pub reads : Reads reply_to after foreign p m xs reply new.place n queue
    pub nothing_held : new.held ≡ []
    pub shorter : length queue < length xs
    pub stage : new.stage ≡ Reading

  -- the sink refused the last token
  pub record RefusedAt (p : ReaderPlace) (m : M) (xs : List ℕ) (fault : BuildFault) (new : ReaderText) (n : M) : Type 0 where
    pub place : ReaderPlace
    pub rest : List ℕ
    pub reads : Reads reply_to after foreign p m xs (Refuses fault) place n rest
    pub stage : new.stage ≡ Failed

  -- what `feed` did, by its result
  abbrev pub Feeds : {H : Type 0} → (H → ℕ) → ReaderPlace → M → List ℕ → ReaderText → M → List ℕ → Result (TokenizerResult H) BuildFault → Type 0
  Feeds node p m xs new n queue (Ok result.Done) = ReadsAll p m xs new n queue
  Feeds node p m xs new n queue (Ok (result.Script handle)) = StopsAt p m xs (RunsScript (node handle)) new n queue
  Feeds node p m xs new n queue (Ok (result.EncodingIndicator encoding)) = StopsAt p m xs (Indicates (string_bytes encoding)) new n queue
  Feeds node p m xs new n queue (Err fault.Memory) = new.stage ≡ Failed
  Feeds node p m xs new n queue (Err fault.AfterEnd) = RefusedAt p m xs fault.AfterEnd new n
  Feeds node p m xs new n queue (Err fault.NotInText) = RefusedAt p m xs fault.NotInText new n
  Feeds node p m xs new n queue (Err fault.Failed) = RefusedAt p m xs fault.Failed new n
