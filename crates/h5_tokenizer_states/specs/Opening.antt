-- The beginning of a start tag.
use Rattle.std.specs.Prelude.{◌≡◌, ◌<◌, ◌++◌, ◌∷◌, ℕ, List, length, slice_index, true}
use Rattle.std.specs.Char.{is_ascii_alphabetic}
use Rattle.h5_tokenizer_states.specs.Runs.{are_in}
use Rattle.h5_tokenizer_states.specs.declared.runs.Run.TheVariants as run

-- the text begins with `<` and a name whose first byte is a letter; this follows them
pub record IsOpening (xs name behind : List ℕ) : Type 0 where
  pub split : xs ≡ 60 ∷ (name ++ behind)
  pub some : 0 < length name
  pub starts : is_ascii_alphabetic (slice_index name 0) ≡ true
  pub named : are_in run.Name name ≡ true
