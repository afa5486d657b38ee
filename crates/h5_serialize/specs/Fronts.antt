-- The contents of a writer after a call that writes a text, whether it succeeded or not.
use Rattle.std.specs.Prelude.{◌≡◌, ℕ, List, ◌++◌, MatchResult, Option, Result}
use Rattle.std.specs.Io.KnownBytes.{Appends}

-- known bytes grow by a prefix of the text, and by nothing else
pub record AppendsFront (old new : Option (List ℕ)) (text : List ℕ) : Type 0 where
  pub front : List ℕ
  pub rest : List ℕ
  pub splits : text ≡ front ++ rest
  pub appends : Appends old new front

-- on success known bytes grow by the whole text, on failure by a prefix of it
abbrev pub Writes : {T E : Type 0} → Result T E → Option (List ℕ) → Option (List ℕ) → List ℕ → Type 0
Writes result old new text = MatchResult result (λ _. Appends old new text) (λ _. AppendsFront old new text)
