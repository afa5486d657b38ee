-- Two lists have the same attributes exactly if they are equal once both are in order.
use Rattle.std.proofs.Common.{◌≡◌, ◌≢◌, ◌↔◌, ◌+◌, ◌<◌, ℕ, suc, Bool, true, false, cond, get_or, length, List, [], ◌∷◌, map, refl, sym, ◌∙◌, ap, subst, zero-add, arith}
use Rattle.std.specs.List.{remove, sum_by}
use Rattle.std.specs.List.Sorted.{IsPermutation, IsSorted}
use Rattle.std.specs.Ordering.{is_lt, ordering_reverse}
use Rattle.std.specs.declared.cmp.Ordering.{Ordering}
use Rattle.std.specs.declared.cmp.Ordering.TheVariants.{Less, Equal, Greater}
use Rattle.std.proofs.lemmas.List.{get_or-map, length-map}
use Rattle.std.proofs.lemmas.List.Recursion.{is_sum_by}
use Rattle.std.proofs.lemmas.List.Sorted.{IsPermutation-cons, IsPermutation-refl, IsPermutation-remove, IsPermutation-sym, IsPermutation-trans, length_permutation, ranks_by, sorted_far, sum_by-IsPermutation}
use Rattle.h5_names.specs.AttributeText.{AttributeText, is_same_attribute}
use Rattle.h5_names.specs.Laws.{attribute_order}
use Rattle.h5_names.proofs.AttributeLemmas.{same_attribute}
use Rattle.h5_token.specs.Occurrences.{occurrences, HaveSameAttributes}
use Rattle.h5_token.proofs.AttributeOrder.{attribute_order_is_total, attributes_tie}

-- one more
occurrences_here : (a : AttributeText) (xs : List AttributeText) → occurrences a (a ∷ xs) ≡ 1 + occurrences a xs
occurrences_here a xs = ap (λ b. cond b (1 + occurrences a xs) (occurrences a xs)) ((same_attribute a a).1 refl)

one_less : (a x : AttributeText) (xs ys : List AttributeText) → occurrences a (x ∷ xs) ≡ occurrences a (x ∷ ys) → occurrences a xs ≡ occurrences a ys
one_less a x xs ys = step (is_same_attribute x a) (occurrences a xs) (occurrences a ys)
  where
    step : (b : Bool) (m n : ℕ) → cond b (1 + m) m ≡ cond b (1 + n) n → m ≡ n
    step true m n e = omega (arith, e)
    step false m n e = e

-- a permutation changes no number of occurrences
abbrev once : AttributeText → AttributeText → ℕ
once a x = cond (is_same_attribute x a) 1 0

occurrences_sum : (a : AttributeText) (xs : List AttributeText) → occurrences a xs ≡ sum_by (once a) xs
occurrences_sum a = is_sum_by (λ xs. occurrences a xs) (once a) refl (λ x xs. each (is_same_attribute x a) (occurrences a xs))
  where
    each : (b : Bool) (n : ℕ) → cond b (1 + n) n ≡ cond b 1 0 + n
    each true n = refl
    each false n = sym (zero-add n)

pub occurrences-permuted : (a : AttributeText) (xs ys : List AttributeText) → IsPermutation xs ys → occurrences a ys ≡ occurrences a xs
occurrences-permuted a xs ys p = occurrences_sum a ys ∙ sum_by-IsPermutation (once a) xs ys p ∙ sym (occurrences_sum a xs)

-- an attribute that occurs has an index
record StandsIn (a : AttributeText) (xs : List AttributeText) : Type 0 where
  place : ℕ
  below : place < length xs
  is : a ≡ get_or xs place a

found_from : (a x : AttributeText) (xs : List AttributeText) → (occurrences a xs ≢ 0 → StandsIn a xs) → occurrences a (x ∷ xs) ≢ 0 → StandsIn a (x ∷ xs)
found_from a x xs later there = step (is_same_attribute x a) refl
  where
    step : (b : Bool) → is_same_attribute x a ≡ b → StandsIn a (x ∷ xs)
    step true e = record { place = 0; below = omega arith; is = sym ((same_attribute x a).0 e) }
    step false e =
        let rest = later (λ none. there (ap (λ b. cond b (1 + occurrences a xs) (occurrences a xs)) e ∙ none)) in
        record { place = suc rest.place; below = omega (arith, rest.below); is = rest.is }

found : (a : AttributeText) (xs : List AttributeText) → occurrences a xs ≢ 0 → StandsIn a xs
found a [] there = absurd (there refl)
found a (x ∷ xs) there = found_from a x xs (found a xs) there

first_found : (x : AttributeText) (xs ys : List AttributeText) → occurrences x (x ∷ xs) ≡ occurrences x ys → occurrences x ys ≢ 0
first_found x xs ys e none = let h = occurrences_here x xs in absurd (omega (arith, e, none, h))

-- lists with the same attributes are permutations of each other
pub permuted : (xs ys : List AttributeText) → HaveSameAttributes xs ys → IsPermutation xs ys
permuted [] [] h = IsPermutation-refl []
permuted [] (y ∷ ys) h = absurd (first_found y ys [] (sym (h y)) refl)
permuted (x ∷ xs) ys h =
    let at = found x ys (first_found x xs ys (h x)) in
    let rest : List AttributeText = remove ys at.place in
    let apart : IsPermutation ys (x ∷ rest) = IsPermutation-remove ys at.place x at.below at.is in
    let less : HaveSameAttributes xs rest = λ a. one_less a x xs rest (h a ∙ sym (occurrences-permuted a ys (x ∷ rest) apart)) in
    IsPermutation-trans (x ∷ xs) (x ∷ rest) ys (IsPermutation-cons x xs rest (permuted xs rest less)) (IsPermutation-sym ys (x ∷ rest) apart)

pub same_length : (xs ys : List AttributeText) → HaveSameAttributes xs ys → length ys ≡ length xs
same_length xs ys h = length_permutation xs ys (permuted xs ys h)

pub same_sum : (f : AttributeText → ℕ) (xs ys : List AttributeText) → HaveSameAttributes xs ys → sum_by f xs ≡ sum_by f ys
same_sum f xs ys h = sym (sum_by-IsPermutation f xs ys (permuted xs ys h))

-- no attribute that occurs in a sorted list is lower than the first
lowest : (x y : AttributeText) (ys : List AttributeText) → IsSorted attribute_order (y ∷ ys) → occurrences x (y ∷ ys) ≢ 0 → is_lt (attribute_order x y) ≡ false
lowest x y ys up there =
    let at = found x (y ∷ ys) there in
    let far = sorted_far (λ a b. is_lt (attribute_order a b)) (ranks_by attribute_order_is_total (λ (a : AttributeText). a)) (y ∷ ys) up 0 at.place x (omega arith) at.below in
    subst (λ z. is_lt (attribute_order z y) ≡ false) (sym at.is) far

level : (r : Ordering) → is_lt r ≡ false → is_lt (ordering_reverse r) ≡ false → r ≡ Equal
level Less h k = cc
level Equal h k = refl
level Greater h k = cc

after_first : (x : AttributeText) (xs : List AttributeText) → IsSorted attribute_order (x ∷ xs) → IsSorted attribute_order xs
after_first x xs up k d low high =
    let e : suc k + 1 ≡ suc (k + 1) = omega arith in
    subst (λ n. is_lt (attribute_order (get_or (x ∷ xs) n d) (get_or xs k d)) ≡ false) e (up (suc k) d (omega arith) (omega arith))

sorted_same : (xs ys : List AttributeText) → IsSorted attribute_order xs → IsSorted attribute_order ys → HaveSameAttributes xs ys → xs ≡ ys
sorted_same [] [] p q h = refl
sorted_same [] (y ∷ ys) p q h = absurd (first_found y ys [] (sym (h y)) refl)
sorted_same (x ∷ xs) [] p q h = absurd (first_found x xs [] (h x) refl)
sorted_same (x ∷ xs) (y ∷ ys) p q h =
    let above = lowest x y ys q (first_found x xs (y ∷ ys) (h x)) in
    let below = lowest y x xs p (first_found y ys (x ∷ xs) (sym (h y))) in
    let first : x ≡ y = attributes_tie x y (level (attribute_order x y) above (subst (λ r. is_lt r ≡ false) (attribute_order_is_total.antisymm y x) below)) in
    let less : HaveSameAttributes xs ys = λ a. one_less a x xs ys (h a ∙ ap (λ z. occurrences a (z ∷ ys)) (sym first)) in
    let rest : xs ≡ ys = sorted_same xs ys (after_first x xs p) (after_first y ys q) less in
    λ i. first i ∷ rest i

-- two lists have the same attributes exactly if they are equal, once both are in order
pub same_in_order : (xs ys us vs : List AttributeText) → IsPermutation xs us → IsPermutation ys vs → IsSorted attribute_order us → IsSorted attribute_order vs → (us ≡ vs) ↔ HaveSameAttributes xs ys
same_in_order xs ys us vs p q up down = (
  λ e a. sym (occurrences-permuted a xs us p) ∙ ap (λ zs. occurrences a zs) e ∙ occurrences-permuted a ys vs q,
  λ h. sorted_same us vs up down (λ a. occurrences-permuted a xs us p ∙ h a ∙ sym (occurrences-permuted a ys vs q)),
)

-- a list in the order of the views of its elements
pub sorted_seen : {A : Type 0} (seen : A → AttributeText) (xs : List A) → IsSorted (λ x y. attribute_order (seen x) (seen y)) xs → IsSorted attribute_order (map seen xs)
sorted_seen seen [] up k d low high = absurd (omega arith)
sorted_seen seen (x ∷ xs) up k d low high =
    let long = length-map (x ∷ xs) seen in
    let later = get_or-map seen (x ∷ xs) (k + 1) x d (omega (arith, high, long)) in
    let sooner = get_or-map seen (x ∷ xs) k x d (omega (arith, high, long)) in
    subst (λ z. is_lt (attribute_order z (get_or (map seen (x ∷ xs)) k d)) ≡ false) (sym later)
    (subst (λ z. is_lt (attribute_order (seen (get_or (x ∷ xs) (k + 1) x)) z) ≡ false) (sym sooner) (up k x low (omega (arith, high, long))))
