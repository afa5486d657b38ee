-- A line as lines of at most some width in columns, as far as its words allow it.
use Rattle.std.specs.Prelude.{ℕ, ◌-◌, ◌==◌, nat_lt, if◌then◌else◌, List, [], ◌∷◌, ◌++◌, chars, false}
use Rattle.std.specs.List.{slice_split}
use Prim.Native.Nat.{zero, suc}
use Rattle.unicode_width.specs.Width.{str_width}

abbrev pub spaces : ℕ → List ℕ
spaces zero = []
spaces (suc n) = spaces n ++ 32 ∷ []

abbrev pub columns : List ℕ → ℕ
columns word = str_width false (chars word)

-- the texts between spaces are words
abbrev pub words : List ℕ → List (List ℕ)
words = slice_split (λ c. c == 32)

-- a word after others: in their line if it fits, or else on a new one; and the room that is left
abbrev pub put : (width hang room : ℕ) → List ℕ → List ℕ
put width hang room word = if nat_lt (columns word) room then 32 ∷ word else 10 ∷ spaces hang ++ word

abbrev pub left : (width hang room : ℕ) → List ℕ → ℕ
left width hang room word = if nat_lt (columns word) room then room - 1 - columns word else width - hang - columns word

abbrev pub filled : (width hang room : ℕ) → List (List ℕ) → List ℕ
filled width hang room [] = []
filled width hang room (word ∷ words) = put width hang room word ++ filled width hang (left width hang room word) words

abbrev pub wrapped_words : (width hang : ℕ) → List (List ℕ) → List ℕ
wrapped_words width hang [] = []
wrapped_words width hang (word ∷ words) = word ++ filled width hang (width - columns word) words

abbrev pub wrapped : (width hang : ℕ) → List ℕ → List ℕ
wrapped width hang line = wrapped_words width hang (words line)
