-- The reply and the meaning of a token sink after a token, and at the end.
use Rattle.std.specs.Prelude.{◌≡◌, ◌⊎◌, ℕ, false, List, [], ◌∷◌, Result, Ok, Err}
use Rattle.h5_token.specs.TokenText.{TokenText, EndOfFile}
use Rattle.h5_token.specs.Reply.{Reply, Refuses, reply}
use Rattle.h5_token.specs.declared.fault.BuildFault.{BuildFault}
use Rattle.h5_token.specs.declared.fault.BuildFault.TheVariants as fault
use Rattle.h5_token.specs.declared.sink.TokenSinkResult.{TokenSinkResult}
use Rattle.h5_tokenizer_input.specs.Answers.{refuses}

module _ {M : Type 0} (reply_to : M → TokenText → Reply) (after : M → TokenText → ℕ → M) where
  -- the sink's reply to a token, and its meaning afterwards, unless an allocation failed
  abbrev pub Asks : {H : Type 0} → (H → ℕ) → M → TokenText → ℕ → M → Result (TokenSinkResult H) BuildFault → Type 0
  Asks node m t line n (Ok answer) = (reply_to m t ≡ reply node answer) × (n ≡ after m t line)
  Asks node m t line n (Err fault.Memory) = Unit {0}
  Asks node m t line n (Err fault.AfterEnd) = (reply_to m t ≡ Refuses fault.AfterEnd) × (n ≡ after m t line)
  Asks node m t line n (Err fault.NotInText) = (reply_to m t ≡ Refuses fault.NotInText) × (n ≡ after m t line)
  Asks node m t line n (Err fault.Failed) = (reply_to m t ≡ Refuses fault.Failed) × (n ≡ after m t line)

module _ {M : Type 0} (reply_to : M → TokenText → Reply) (after : M → TokenText → ℕ → M) (ended : M → M) where
  -- a token with this line was taken, with any other reply, or refused
  abbrev pub Takes : M → TokenText → ℕ → M → Result (Unit {0}) BuildFault → Type 0
  Takes m t line n (Ok done) = (refuses (reply_to m t) ≡ false) × (n ≡ after m t line)
  Takes m t line n (Err fault.Memory) = Unit {0}
  Takes m t line n (Err fault.AfterEnd) = (reply_to m t ≡ Refuses fault.AfterEnd) × (n ≡ after m t line)
  Takes m t line n (Err fault.NotInText) = (reply_to m t ≡ Refuses fault.NotInText) × (n ≡ after m t line)
  Takes m t line n (Err fault.Failed) = (reply_to m t ≡ Refuses fault.Failed) × (n ≡ after m t line)

  -- the end-of-file token was passed to the sink, and then its `end` was called
  abbrev pub Finishes : M → ℕ → M → Result (Unit {0}) BuildFault → Type 0
  Finishes m line n (Ok done) = (refuses (reply_to m EndOfFile) ≡ false) × (n ≡ ended (after m EndOfFile line))
  Finishes m line n (Err fault.Memory) = Unit {0}
  Finishes m line n (Err fault.AfterEnd) = (reply_to m EndOfFile ≡ Refuses fault.AfterEnd) × (n ≡ after m EndOfFile line)
  Finishes m line n (Err fault.NotInText) = (reply_to m EndOfFile ≡ Refuses fault.NotInText) × (n ≡ after m EndOfFile line)
  Finishes m line n (Err fault.Failed) = (reply_to m EndOfFile ≡ Refuses fault.Failed) × (n ≡ after m EndOfFile line)

  -- These tokens were passed with one line, and the end-of-file token with the last line. Nothing follows a token that the sink
  -- refuses.
  abbrev pub ClosesWith : M → List TokenText → ℕ → ℕ → M → Result (Unit {0}) BuildFault → Type 0
  ClosesWith m [] line last n result = Finishes m last n result
  ClosesWith m (t ∷ ts) line last n (Ok done) = (refuses (reply_to m t) ≡ false) × ClosesWith (after m t line) ts line last n (Ok done)
  ClosesWith m (t ∷ ts) line last n (Err f) = Takes m t line n (Err f) ⊎ ((refuses (reply_to m t) ≡ false) × ClosesWith (after m t line) ts line last n (Err f))
