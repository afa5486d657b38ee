-- Tokens as lists, and the meaning of a token sink after them.
use Rattle.std.specs.Prelude.{ℕ, List, [], ◌∷◌, Option, Some, None}
use Rattle.h5_token.specs.TokenText.{TokenText, Characters}

-- a text as a list of tokens; that of the empty text is empty
abbrev pub told : List ℕ → List TokenText
told [] = []
told (x ∷ xs) = Characters (x ∷ xs) ∷ []

abbrev pub handed : Option TokenText → List TokenText
handed None = []
handed (Some token) = token ∷ []

module _ {M : Type 0} (after : M → TokenText → ℕ → M) where
  -- the sink's meaning after a text; an empty text isn't passed
  abbrev pub after_text : M → List ℕ → ℕ → M
  after_text m [] line = m
  after_text m (x ∷ xs) line = after m (Characters (x ∷ xs)) line

  -- the sink's meaning after these tokens, each with this line
  abbrev pub after_all : M → List TokenText → ℕ → M
  after_all m [] line = m
  after_all m (t ∷ ts) line = after_all (after m t line) ts line
