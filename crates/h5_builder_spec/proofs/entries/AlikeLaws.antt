-- The test `is_alike` holds exactly for alike tags; so the same entries are alike to two tags that are alike.
use Rattle.std.proofs.Common.{◌≡◌, ◌≢◌, ◌==◌, ◌↔◌, ◌&&◌, IsTrue, ℕ, ◌+◌, Bool, true, false, cond, List, [], ◌∷◌, ◌++◌, refl, sym, ◌∙◌, subst, zero, suc, arith, rules}
use Rattle.std.specs.List.{list_all}
use Rattle.std.proofs.lemmas.Bool.{eq-eqb, eqb-true}
use Rattle.h5_names.specs.AttributeText.{AttributeText, is_same_attribute, is_same_text}
use Rattle.h5_names.proofs.AttributeLemmas.{same_attribute}
use Rattle.h5_token.specs.Occurrences.{occurrences, HaveSameAttributes}
use Rattle.h5_token.specs.TokenText.{IsAlike, TagText}
use Rattle.h5_token.specs.declared.tag.TagKind.{TagKind}
use Rattle.h5_token.specs.declared.tag.TagKind.TheVariants.{StartTag, EndTag}
use Rattle.h5_builder_spec.specs.formatting.FormattingList.{has_same_attributes, is_alike, is_same_kind}
use Rattle.h5_builder_spec.proofs.BoolLaws.{and_both}

occurrences-append : (a : AttributeText) (xs ys : List AttributeText) → occurrences a (xs ++ ys) ≡ occurrences a xs + occurrences a ys
occurrences-append a [] ys = omega arith
occurrences-append a (x ∷ xs) ys = at (is_same_attribute x a) (occurrences a xs) (occurrences a (xs ++ ys)) (occurrences a ys) (occurrences-append a xs ys)
  where
    at : (b : Bool) (i j k : ℕ) → j ≡ i + k → cond b (1 + j) j ≡ cond b (1 + i) i + k
    at true i j k e = omega (arith, e)
    at false i j k e = e

-- an attribute that stands in a list, each of which stands as often in and_both, does so too
listed : (a : AttributeText) (these xs ys : List AttributeText) → list_all (λ x. occurrences x xs == occurrences x ys) these ≡ true → occurrences a these ≢ 0 → occurrences a xs ≡ occurrences a ys
listed a [] xs ys all there = absurd (there refl)
listed a (x ∷ these) xs ys all there = step (is_same_attribute x a) refl (listed a these xs ys (and_both _ _ all).1)
  where
    step : (b : Bool) → is_same_attribute x a ≡ b → (occurrences a these ≢ 0 → occurrences a xs ≡ occurrences a ys) → occurrences a xs ≡ occurrences a ys
    step true same again =
        let P : AttributeText → Type 0 = λ t. occurrences t xs ≡ occurrences t ys in
        subst P ((same_attribute x a).0 same) (eqb-true _ _ (and_both _ _ all).0)
    step false other again = again (λ none. there (rw other none))

same_told : (xs ys : List AttributeText) → has_same_attributes xs ys ≡ true → HaveSameAttributes xs ys
same_told xs ys all a = cases (occurrences a xs) (occurrences a ys) refl refl
  where
    cases : (m n : ℕ) → occurrences a xs ≡ m → occurrences a ys ≡ n → occurrences a xs ≡ occurrences a ys
    cases zero zero p q = p ∙ sym q
    cases (suc m) n p q = listed a (xs ++ ys) xs ys all (λ none. let e : occurrences a xs + occurrences a ys ≡ 0 = sym (occurrences-append a xs ys) ∙ none in absurd (omega (arith, e, p)))
    cases m (suc n) p q = listed a (xs ++ ys) xs ys all (λ none. let e : occurrences a xs + occurrences a ys ≡ 0 = sym (occurrences-append a xs ys) ∙ none in absurd (omega (arith, e, q)))

same_telling : (xs ys these : List AttributeText) → HaveSameAttributes xs ys → list_all (λ x. occurrences x xs == occurrences x ys) these ≡ true
same_telling xs ys [] h = refl
same_telling xs ys (x ∷ these) h = rw (eq-eqb _ _ (h x)) (same_telling xs ys these h)

kind_told : (x y : TagKind) → is_same_kind x y ≡ true → x ≡ y
kind_told StartTag StartTag h = refl
kind_told EndTag EndTag h = refl
kind_told StartTag EndTag h = absurd (cc)
kind_told EndTag StartTag h = absurd (cc)

kind_telling : (x y : TagKind) → x ≡ y → is_same_kind x y ≡ true
kind_telling x y e = subst (λ z. is_same_kind x z ≡ true) e (same x)
  where
    same : (z : TagKind) → is_same_kind z z ≡ true
    same StartTag = refl
    same EndTag = refl

pub same_text : (x y : List ℕ) → IsTrue (is_same_text x y) ↔ (x ≡ y)
same_text x y = search rules

-- the test is likeness
pub alike_told : (x y : TagText) → is_alike x y ≡ true → IsAlike x y
unfolding is_alike
alike_told x y h =
    let k = and_both (is_same_kind x.kind y.kind) (is_same_text x.name y.name && has_same_attributes x.attrs y.attrs) h in
    let n = and_both (is_same_text x.name y.name) (has_same_attributes x.attrs y.attrs) k.1 in
    record { kind = kind_told x.kind y.kind k.0; name = (same_text x.name y.name).0 n.0; attrs = same_told x.attrs y.attrs n.1 }

pub alike_telling : (x y : TagText) → IsAlike x y → is_alike x y ≡ true
unfolding is_alike
alike_telling x y h = rw (kind_telling x.kind y.kind h.kind) (rw ((same_text x.name y.name).1 h.name) (same_telling x.attrs y.attrs (x.attrs ++ y.attrs) h.attrs))

-- alike tags have the same ones alike to them
pub alike_same : (x y z : TagText) → is_alike x y ≡ true → is_alike x z ≡ is_alike y z
alike_same x y z h = at (is_alike x z) (is_alike y z) refl refl
  where
    first : IsAlike x y
    first = alike_told x y h

    at : (a b : Bool) → is_alike x z ≡ a → is_alike y z ≡ b → a ≡ b
    at true true p q = refl
    at false false p q = refl
    at true false p q =
        let k = alike_told x z p in
        let v : is_alike y z ≡ true = alike_telling y z (record { kind = sym first.kind ∙ k.kind; name = sym first.name ∙ k.name; attrs = λ a. sym (first.attrs a) ∙ k.attrs a }) in
        sym (sym q ∙ v)
    at false true p q =
        let k = alike_told y z q in
        let v : is_alike x z ≡ true = alike_telling x z (record { kind = first.kind ∙ k.kind; name = first.name ∙ k.name; attrs = λ a. first.attrs a ∙ k.attrs a }) in
        sym p ∙ v
