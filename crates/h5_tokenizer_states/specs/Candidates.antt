-- The references whose names begin with what was seen.
use Rattle.std.specs.Prelude.{◌≡◌, ℕ, zero, suc, ◌<◌, ◌≤◌, true, false, List, [], ◌∷◌}
use Rattle.h5_tokenizer_spec.specs.Words.{begins, same}
use Rattle.h5_tokenizer_states.specs.Numbered.{how_many, name_of}

-- the range of their numbers
pub record AreCandidates (seen : List ℕ) (from to : ℕ) : Type 0 where
  pub inside : (k : ℕ) → from ≤ k → k < to → begins same seen (name_of k) ≡ true
  pub before : (k : ℕ) → k < from → begins same seen (name_of k) ≡ false
  pub behind : (k : ℕ) → to ≤ k → k < how_many → begins same seen (name_of k) ≡ false

-- how a name goes on after `depth` bytes: 0 if it ends there, else one more than the byte
abbrev pub key_at : List ℕ → ℕ → ℕ
key_at [] depth = 0
key_at (x ∷ name) zero = suc x
key_at (x ∷ name) (suc depth) = key_at name depth

-- names that go on in order
abbrev pub IsRising : ℕ → ℕ → ℕ → Type 0
IsRising depth from to = (i k : ℕ) → from ≤ i → i ≤ k → k < to → key_at (name_of i) depth ≤ key_at (name_of k) depth

-- an index before which keys are smaller than this one, and from which on none is
pub record IsCut (depth from at to key : ℕ) : Type 0 where
  pub low : from ≤ at
  pub high : at ≤ to
  pub below : (k : ℕ) → from ≤ k → k < at → key_at (name_of k) depth < key
  pub above : (k : ℕ) → at ≤ k → k < to → key ≤ key_at (name_of k) depth
