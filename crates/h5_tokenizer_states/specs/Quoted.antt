-- Attributes written name="value" or name='value', without references.
use Rattle.std.specs.Prelude.{◌≡◌, ℕ, ◌<◌, true, false, List, ◌∷◌, ◌++◌, length}
use Rattle.h5_tokenizer_input.specs.Lines.{newlines}
use Rattle.h5_tokenizer_spec.specs.declared.kinds.Quote.{Quote}
use Rattle.h5_tokenizer_spec.specs.Signs.{equals_sign, sign_of}
use Rattle.h5_tokenizer_states.specs.Runs.{are_in}
use Rattle.h5_tokenizer_states.specs.declared.runs.Run.TheVariants as run

-- the text begins with such an attribute: a name, and its value, which has this number of newlines; `rest` follows
pub record IsQuoted (xs name value : List ℕ) (lines : ℕ) (rest : List ℕ) : Type 0 where
  pub quote : Quote
  pub split : xs ≡ name ++ equals_sign ∷ (sign_of quote ∷ (value ++ sign_of quote ∷ rest))
  pub some : 0 < length name
  pub named : are_in run.AttributeName name ≡ true
  pub valued : are_in (run.Quoted quote) value ≡ true
  pub counted : lines ≡ newlines false value
