-- What contracts see of a numbering: the texts that have numbers, and these numbers.
use Rattle.std.specs.BTreeMap.{btree_map_len, get_by_text}
use Rattle.std.specs.Prelude.{◌≡◌, ◌+◌, ℕ, List, Option, Some}
use Rattle.h5_builder_state.specs.declared.numbering.Numbering.{Numbering}

abbrev pub number_of : Numbering → List ℕ → Option ℕ
number_of numbering text = get_by_text numbering.numbers text

-- the least number, and the next one
abbrev pub base_of : Numbering → ℕ
base_of numbering = numbering.base

abbrev pub next_of : Numbering → ℕ
next_of numbering = numbering.base + btree_map_len numbering.numbers

-- no two texts have the same number
abbrev pub KeepsApart : Numbering → Type 0
KeepsApart numbering = (one other : List ℕ) (number : ℕ) → number_of numbering one ≡ Some number → number_of numbering other ≡ Some number → one ≡ other
