-- The reply of a token sink to a part of a text.
use Rattle.std.specs.Prelude.{◌≡◌, ℕ, List, ◌∷◌, ◌++◌}
use Rattle.h5_token.specs.Reply.{Continues, Reply}
use Rattle.h5_token.specs.TokenText.{Characters, TokenText}

-- if it goes on after a text, it goes on after each prefix of the text
abbrev pub AnswersCuts : {M : Type 0} → (M → TokenText → Reply) → Type 0
AnswersCuts {M} reply_to = (m : M) (b : ℕ) (t u : List ℕ) → reply_to m (Characters ((b ∷ t) ++ u)) ≡ Continues → reply_to m (Characters (b ∷ t)) ≡ Continues
