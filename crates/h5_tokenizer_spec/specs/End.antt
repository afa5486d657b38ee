-- The end of the input: what is emitted then.
use Rattle.std.specs.Prelude.{ℕ, List, ◌++◌, Result}
use Rattle.h5_token.specs.TokenText.{TokenText}
use Rattle.h5_token.specs.Reply.{Reply}
use Rattle.h5_token.specs.declared.fault.BuildFault.{BuildFault}
use Rattle.h5_tokenizer_input.specs.Taking.{ClosesWith}
use Rattle.h5_tokenizer_input.specs.Told.{handed, told}
use Rattle.h5_tokenizer_spec.specs.References.{Reference}
use Rattle.h5_tokenizer_spec.specs.AtEnd.{at_end}
use Rattle.h5_tokenizer_spec.specs.Reading.{ReaderPlace}

-- what is emitted before the end-of-file token
abbrev pub last_tokens : List Reference → ReaderPlace → List TokenText
last_tokens table p = told (at_end table p.state).text ++ handed (at_end table p.state).token

module _ {M : Type 0} (reply_to : M → TokenText → Reply) (after : M → TokenText → ℕ → M) (ended : M → M) where
  -- The end, at a place. These tokens have the line in which they began, and the end-of-file token has the last line.
  abbrev pub Closes : List Reference → ReaderPlace → M → M → Result (Unit {0}) BuildFault → Type 0
  Closes table p m n result = ClosesWith reply_to after ended m (last_tokens table p) p.began p.line n result
