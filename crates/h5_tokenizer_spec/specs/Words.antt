-- Words that the input is compared with.
use Rattle.std.specs.Prelude.{ℕ, Bool, true, false, List, [], ◌∷◌, ◌==◌, ◌&&◌}

-- a word begins with this; case matters or not
abbrev pub begins : (ℕ → ℕ) → List ℕ → List ℕ → Bool
begins fold [] word = true
begins fold (x ∷ xs) [] = false
begins fold (x ∷ xs) (c ∷ word) = fold x == fold c && begins fold xs word

-- this is all of a word
abbrev pub is_all : (ℕ → ℕ) → List ℕ → List ℕ → Bool
is_all fold xs word = begins fold xs word && begins fold word xs

-- case matters
abbrev pub same : ℕ → ℕ
same x = x
