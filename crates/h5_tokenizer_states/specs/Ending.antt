-- What is left at the end of the input.
use Rattle.std.specs.Prelude.{◌≡◌, List, ℕ, ◌++◌, Option, Some, None}
use Rattle.h5_token.specs.TokenText.{TokenText}
use Rattle.h5_tokenizer_spec.specs.AtEnd.{at_end}
use Rattle.h5_tokenizer_spec.specs.ReferenceTable.{references}
use Rattle.h5_tokenizer_spec.specs.States.{State}
use Rattle.h5_tokenizer_states.specs.Parts.{Parts}
use Rattle.h5_tokenizer_states.specs.OutcomeOf.{made_of}
use Rattle.h5_tokenizer_states.specs.declared.transition.CurrentToken.{CurrentToken}

-- the token that is left to emit
abbrev pub left_of : Option CurrentToken → Parts → Option TokenText
left_of None parts = None
left_of (Some construct) parts = Some (made_of construct parts)

-- The end, in a state: its text was appended, and this token of what is being built is left to emit.
pub record Ends (state : State) (old new : List ℕ) (left : Option CurrentToken) (parts : Parts) : Type 0 where
  pub text : new ≡ old ++ (at_end references state).text
  pub token : left_of left parts ≡ (at_end references state).token
