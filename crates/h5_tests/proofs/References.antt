-- Named character references: the longest name, and how far a name may continue.
use Rattle.std.proofs.Common.{◌≡◌, ℕ, Bool, true, false, List, [], ◌∷◌, ◌++◌, map, take, refl, codes, Option, Some, None}
use Rattle.h5_tokenizer_spec.specs.ReferenceTable.{references}
use Rattle.h5_tokenizer_spec.specs.References.{Longest, is_beginning, longest}

-- a name was found, and this text follows
abbrev found : (name text rest : List ℕ) → Option Longest
found name text rest = Some (record { name = name; text = text; rest = rest })

without_a_semicolon : longest references (codes "amp") ≡ found (codes "amp") (codes "&") []
unfolding references
without_a_semicolon = refl

with_a_semicolon : longest references (codes "amp;") ≡ found (codes "amp;") (codes "&") []
unfolding references
with_a_semicolon = refl

a_shorter_name : longest references (codes "notit;") ≡ found (codes "not") (194 ∷ 172 ∷ []) (codes "it;")
unfolding references
a_shorter_name = refl

a_longer_name : longest references (codes "notin;") ≡ found (codes "notin;") (226 ∷ 136 ∷ 137 ∷ []) []
unfolding references
a_longer_name = refl

two_characters : longest references (codes "NotEqualTilde;") ≡ found (codes "NotEqualTilde;") (226 ∷ 137 ∷ 130 ∷ 204 ∷ 184 ∷ []) []
unfolding references
two_characters = refl

the_longest_name : longest references (codes "CounterClockwiseContourIntegral;") ≡ found (codes "CounterClockwiseContourIntegral;") (226 ∷ 136 ∷ 179 ∷ []) []
unfolding references
the_longest_name = refl

no_name : longest references (codes "x") ≡ None
unfolding references
no_name = refl

-- the prefixes of a text with which a name begins, from the empty one on
abbrev begins : List ℕ → List ℕ → List ℕ → List Bool
begins seen text lengths = map (λ n. is_beginning references (seen ++ take n text)) lengths

seen : begins [] (codes "notit;") (0 ∷ 1 ∷ 2 ∷ 3 ∷ 4 ∷ 5 ∷ []) ≡ true ∷ true ∷ true ∷ true ∷ true ∷ false ∷ []
unfolding references
seen = refl

further : begins (codes "no") (codes "tin; a") (0 ∷ 1 ∷ 2 ∷ 3 ∷ 4 ∷ 5 ∷ []) ≡ true ∷ true ∷ true ∷ true ∷ true ∷ false ∷ []
unfolding references
further = refl
