-- Token sinks to which it doesn't matter how a text is split.
use Rattle.std.specs.Prelude.{◌≡◌, ℕ, Bool, List, ◌∷◌, ◌++◌}
use Rattle.h5_token.specs.TokenText.{TokenText, Characters}
use Rattle.h5_token.specs.Reply.{Reply}

module _ {M : Type 0} (reply_to : M → TokenText → Reply) (after : M → TokenText → ℕ → M) (foreign : M → Bool) (ended : M → M) where
  -- An equivalence of meanings. Equal tokens keep it, on any lines, and it doesn't matter how a text is split. Equivalent
  -- meanings give equal replies.
  pub record IsBlindToCuts (alike : M → M → Type 0) : Type 0 where
    pub reflexive : (m : M) → alike m m
    pub symmetric : (m n : M) → alike m n → alike n m
    pub transitive : (m n o : M) → alike m n → alike n o → alike m o
    pub replies : (m n : M) (t : TokenText) → alike m n → reply_to m t ≡ reply_to n t
    pub spaces : (m n : M) → alike m n → foreign m ≡ foreign n
    pub kept : (m n : M) (t : TokenText) (k l : ℕ) → alike m n → alike (after m t k) (after n t l)
    pub ends : (m n : M) → alike m n → alike (ended m) (ended n)
    pub cut : (m : M) (x y : ℕ) (xs ys : List ℕ) (j k l : ℕ)
        → alike (after m (Characters ((x ∷ xs) ++ y ∷ ys)) j) (after (after m (Characters (x ∷ xs)) k) (Characters (y ∷ ys)) l)
