-- The result of a call that returns bytes.
use Rattle.std.specs.Prelude.{◌≡◌, ◌⊎◌, ℕ, List, length}

-- bytes are returned, with their number; or an allocation fails
abbrev pub HandsOut : List ℕ → (status count : ℕ) → Type 0
HandsOut bytes status count = (status ≡ 1) ⊎ ((status ≡ 0) × (count ≡ length bytes))

-- as above, for bytes with a property
abbrev pub HandsOutSuch : (List ℕ → Type 0) → (status count : ℕ) → Type 0
HandsOutSuch Holds status count = (status ≡ 1) ⊎ ((bytes : List ℕ) × (Holds bytes × HandsOut bytes status count))
