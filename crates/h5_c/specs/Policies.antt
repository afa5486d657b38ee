-- The result of a call with the text of a policy.
use Rattle.std.specs.Prelude.{◌≡◌, ◌<◌, ◌⊎◌, ℕ, List}
use Rattle.html_tree_builder.specs.AllowLists.{Table, table_rules}
use Rattle.html_tree_builder.specs.Cleaned.{IsCleaned}
use Rattle.h5_c.specs.Status.{HandsOutSuch}

-- what the rules of a table leave of a fragment
pub record IsCleanedByTable (html left : List ℕ) : Type 0 where
  pub table : Table
  pub is_cleaned : IsCleaned (table_rules table) html left

-- what a table leaves of the fragment is returned, or a message about the policy; or an allocation fails
abbrev pub CleansOrRefuses : (html : List ℕ) → (status count : ℕ) → Type 0
CleansOrRefuses html status count = ((status ≡ 6) × (0 < count)) ⊎ HandsOutSuch (IsCleanedByTable html) status count
