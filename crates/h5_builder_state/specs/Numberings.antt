-- The numbers of texts.
use Rattle.std.specs.BTreeMap.{BTreeMap, btree_map_len, get_by_text}
use Rattle.std.specs.Prelude.{◌≡◌, ◌+◌, ◌<◌, ◌≤◌, ℕ, List, Some, String}

-- the numbers begin at a base, and there are as many as texts; no two texts have the same number
pub record IsNumbering {Y : Type 0} (numbers : BTreeMap (String Y) ℕ) (base : ℕ) : Type 0 where
  pub known : (text : List ℕ) (number : ℕ) → get_by_text numbers text ≡ Some number → (base ≤ number) × (number < base + btree_map_len numbers)
  pub apart : (one other : List ℕ) (number : ℕ) → get_by_text numbers one ≡ Some number → get_by_text numbers other ≡ Some number → one ≡ other
