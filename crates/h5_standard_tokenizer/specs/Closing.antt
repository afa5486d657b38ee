-- The end of the input: tokens that are passed to the sink one after another.
use Rattle.std.specs.Prelude.{◌≡◌, ◌⊎◌, ℕ, false, List, [], ◌∷◌, Result, Ok, Err}
use Rattle.h5_token.specs.TokenText.{TokenText}
use Rattle.h5_token.specs.Reply.{Reply}
use Rattle.h5_token.specs.declared.fault.BuildFault.{BuildFault}
use Rattle.h5_tokenizer_input.specs.Answers.{refuses}
use Rattle.h5_tokenizer_input.specs.Taking.{Takes}

module _ {M : Type 0} (reply_to : M → TokenText → Reply) (after : M → TokenText → ℕ → M) (ended : M → M) where
  -- These tokens are passed with one line. Nothing follows a token that the sink refuses.
  abbrev pub TakesAll : M → List TokenText → ℕ → M → Result (Unit {0}) BuildFault → Type 0
  TakesAll m [] line n (Ok done) = n ≡ m
  TakesAll m [] line n (Err f) = ⊥
  TakesAll m (t ∷ ts) line n (Ok done) = (refuses (reply_to m t) ≡ false) × TakesAll (after m t line) ts line n (Ok done)
  TakesAll m (t ∷ ts) line n (Err f) = Takes reply_to after ended m t line n (Err f) ⊎ ((refuses (reply_to m t) ≡ false) × TakesAll (after m t line) ts line n (Err f))
