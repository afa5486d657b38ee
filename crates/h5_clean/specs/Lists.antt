-- The lists that the code reads, as texts.
use Rattle.std.specs.Prelude.{ℕ, List, map}
use Rattle.std.specs.Borrow.{Bor}
use Rattle.h5_clean.specs.DefaultPolicy.{Keeping, keeping}

abbrev pub texts_of : List (Bor (List ℕ)) → List (List ℕ)
texts_of = map (λ text. text.now)

abbrev pub keepings_of : List (Bor (List ℕ) × Bor (List (Bor (List ℕ)))) → List Keeping
keepings_of = map (λ row. keeping row.0.now (texts_of row.1.now))
