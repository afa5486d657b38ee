-- Small stacks and lists, computed: 0 is the root, and a clone of the element n is 10 + n.
use Rattle.std.proofs.Common.{◌≡◌, ℕ, false, List, [], ◌∷◌, refl}
use Rattle.std.specs.Prelude.{◌==◌, codes}
use Rattle.h5_token.specs.TokenText.{TagText}
use Rattle.h5_token.specs.declared.tag.TagKind.TheVariants.{StartTag}
use Rattle.h5_builder_spec.specs.formatting.Adoption.{adopted, clones_wanted}
use Rattle.h5_builder_spec.specs.formatting.FormattingList.{ElementEntry, MarkerEntry, closed_front, is_alike, push_formatting, reconstructed}

abbrev named : List ℕ → TagText
named name = record { kind = StartTag; name = name; self_closing = false; attrs = []; had_duplicate_attributes = false }

abbrev b : TagText
b = named (codes "b")

abbrev i : TagText
i = named (codes "i")

-- <b><i><div></b>: i is cloned, and the clone of b stands in the div
misnested : adopted (λ n. n == 3) (record { node = 1; tag = b }) (12 ∷ []) 11 (3 ∷ 2 ∷ 1 ∷ 0 ∷ []) (ElementEntry 2 i ∷ ElementEntry 1 b ∷ [])
    ≡ record { stack = 11 ∷ 3 ∷ 12 ∷ 0 ∷ []; formatting = ElementEntry 11 b ∷ ElementEntry 12 i ∷ [] }
misnested = refl

-- <b><p><i></b>: nothing stands between, so the clone of b is listed where b was
beside : adopted (λ n. n == 2) (record { node = 1; tag = b }) [] 11 (3 ∷ 2 ∷ 1 ∷ 0 ∷ []) (ElementEntry 3 i ∷ ElementEntry 1 b ∷ MarkerEntry ∷ [])
    ≡ record { stack = 3 ∷ 11 ∷ 2 ∷ 0 ∷ []; formatting = ElementEntry 3 i ∷ ElementEntry 11 b ∷ MarkerEntry ∷ [] }
beside = refl

-- <b><i><i><i><i><div></b>: three are cloned, and the fourth is closed
four_wanted : clones_wanted (λ n. n == 6) (record { node = 1; tag = b }) (6 ∷ 5 ∷ 4 ∷ 3 ∷ 2 ∷ 1 ∷ 0 ∷ []) (ElementEntry 5 i ∷ ElementEntry 4 i ∷ ElementEntry 3 i ∷ ElementEntry 2 i ∷ ElementEntry 1 b ∷ [])
    ≡ 5 ∷ 4 ∷ 3 ∷ []
four_wanted = refl

four : adopted (λ n. n == 6) (record { node = 1; tag = b }) (15 ∷ 14 ∷ 13 ∷ []) 11 (6 ∷ 5 ∷ 4 ∷ 3 ∷ 2 ∷ 1 ∷ 0 ∷ []) (ElementEntry 5 i ∷ ElementEntry 4 i ∷ ElementEntry 3 i ∷ ElementEntry 2 i ∷ ElementEntry 1 b ∷ [])
    ≡ record { stack = 11 ∷ 6 ∷ 15 ∷ 14 ∷ 13 ∷ 0 ∷ []; formatting = ElementEntry 11 b ∷ ElementEntry 15 i ∷ ElementEntry 14 i ∷ ElementEntry 13 i ∷ [] }
four = refl

-- <b><i></b>: there is no furthest block, so both are popped, and b's entry is removed
popped : adopted (λ n. n == 9) (record { node = 1; tag = b }) [] 11 (2 ∷ 1 ∷ 0 ∷ []) (ElementEntry 2 i ∷ ElementEntry 1 b ∷ [])
    ≡ record { stack = 0 ∷ []; formatting = ElementEntry 2 i ∷ [] }
popped = refl

-- closed entries get new elements, down to an open one or to a marker
front : closed_front (1 ∷ 0 ∷ []) (ElementEntry 3 i ∷ ElementEntry 2 b ∷ ElementEntry 1 b ∷ []) ≡ ElementEntry 3 i ∷ ElementEntry 2 b ∷ []
front = refl

anew : reconstructed (13 ∷ 12 ∷ []) (0 ∷ []) (ElementEntry 3 i ∷ ElementEntry 2 b ∷ MarkerEntry ∷ ElementEntry 1 b ∷ [])
    ≡ ElementEntry 13 i ∷ ElementEntry 12 b ∷ MarkerEntry ∷ ElementEntry 1 b ∷ []
anew = refl

-- a fourth b goes onto the list, and the earliest after the marker leaves it
fourth : push_formatting 7 b (ElementEntry 6 b ∷ ElementEntry 5 i ∷ ElementEntry 4 b ∷ ElementEntry 3 b ∷ ElementEntry 2 i ∷ MarkerEntry ∷ ElementEntry 1 b ∷ [])
    ≡ ElementEntry 7 b ∷ ElementEntry 6 b ∷ ElementEntry 5 i ∷ ElementEntry 4 b ∷ ElementEntry 2 i ∷ MarkerEntry ∷ ElementEntry 1 b ∷ []
unfolding is_alike
fourth = refl
