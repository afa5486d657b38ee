-- The names of attributes after the first few.
use Rattle.std.specs.Prelude.{◌≡◌, ℕ, List, drop}
use Rattle.std.specs.BTreeSet.{BTreeSet, contains}
use Rattle.h5_names.specs.AttributeText.{AttributeText}
use Rattle.h5_names.specs.Laws.{text_order}
use Rattle.h5_markup.specs.Attributes.{is_named_in}

-- the names are exactly those of the attributes after the first n
pub record AreNamesBehind (n : ℕ) (attributes : List AttributeText) (names : BTreeSet (List ℕ)) : Type 0 where
  pub each : (name : List ℕ) → contains text_order names name ≡ is_named_in name (drop n attributes)
