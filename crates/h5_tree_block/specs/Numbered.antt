-- The stored numbers of names.
use Rattle.std.specs.Prelude.{◌≡◌, ℕ, ◌<◌, List, get_or, length, true}
use Rattle.std.specs.BTreeMap.{BTreeMap, get}
use Rattle.std.specs.List.{position, position_or_len}
use Rattle.h5_names.specs.AttributeText.{is_same_name}
use Rattle.h5_names.specs.declared.qualified.QualName.{QualName}
use Rattle.h5_arena.specs.AttributeNames.{name_cmp}

-- the number of each name is its index, and no name has two
pub record AreNumbered (names : List QualName) (numbers : BTreeMap QualName ℕ) : Type 0 where
  pub kept : (name : QualName) → get name_cmp numbers name ≡ position (λ one. is_same_name one name) names
  pub once : (k : ℕ) (name : QualName) → k < length names → is_same_name (get_or names k name) name ≡ true → position_or_len (λ one. is_same_name one name) names ≡ k
