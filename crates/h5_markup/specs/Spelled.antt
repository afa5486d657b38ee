-- The start of a text, compared with a needle ASCII case-insensitively.
use Rattle.std.specs.Prelude.{◌≡◌, ℕ, ◌≤◌, List, length, drop}
use Rattle.h5_markup.specs.Matching.{Open, No, Found, word}
use Rattle.h5_markup.specs.declared.needle.Spelled.{Spelled}
use Rattle.h5_markup.specs.declared.needle.Spelled.TheVariants.{Whole, Partly, Otherwise}

abbrev pub Spells : Spelled → List ℕ → List ℕ → Type 0
Spells Whole needle text = (length needle ≤ length text) × (word needle text ≡ Found tt (drop (length needle) text))
Spells Partly needle text = word needle text ≡ Open
Spells Otherwise needle text = word needle text ≡ No
