-- A list of the first errors that were reported, and the number of later ones.
use Rattle.std.specs.Prelude.{◌≡◌, ◌≤◌, ℕ, List, ◌++◌, length}
use Rattle.std.specs.Io.Iter.{u64_saturate}
use Rattle.h5_tokenizer_spec.specs.declared.position.LocatedError.{LocatedError}

-- at most `limit` errors are kept
pub record IsListOf (kept : List LocatedError) (limit more : ℕ) (told : List LocatedError) : Type 0 where
  pub rest : List LocatedError
  pub split : told ≡ kept ++ rest
  pub count : more ≡ u64_saturate (length rest)
  pub within : length kept ≤ limit
