-- The most frequent character references.
use Rattle.std.specs.Prelude.{◌≡◌, ◌<◌, ℕ, List, length}
use Rattle.h5_markup.specs.Matching.{Found}
use Rattle.h5_markup.specs.Text.{reference}

-- `xs` begins with one of the five, whose text is `text`; `behind` follows it, and isn't empty
abbrev pub IsCommon : List ℕ → List ℕ → List ℕ → Type 0
IsCommon xs text behind = (reference xs ≡ Found text behind) × (0 < length behind)
