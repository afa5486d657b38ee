-- What is found of the entries that are alike to a tag.
use Rattle.std.proofs.Common.{◌≡◌, ◌+◌, ◌<◌, ◌≤◌, ◌==◌, ℕ, suc, Bool, true, false, cond, List, [], ◌∷◌, ◌↔◌, IsTrue, length, refl, ap, sym, subst, ◌∙◌, arith}
use Rattle.std.proofs.lemmas.Bool.{eq-eqb, eqb-true, eqb-false, ne_eqb}
use Rattle.h5_token.specs.TokenText.{IsAlike, TagText}
use Rattle.h5_builder_spec.specs.formatting.FormattingList.{ElementEntry, Entry, MarkerEntry, count_alike, is_alike, without_earliest}
use Rattle.h5_builder_spec.proofs.entries.AlikeLaws.{alike_telling, alike_told}
use Rattle.h5_builder_state.specs.declared.surplus.Alike.{Alike}
use Rattle.h5_builder_state.specs.Listed.{alike_from, none_found, without_place}

-- what is found of those alike
pub found_count : (t : TagText) (l : List Entry) (found : Alike) → (alike_from t l found).count ≡ found.count + count_alike t l
found_count t [] found = omega arith
found_count t (MarkerEntry ∷ l) found = omega arith
found_count t (ElementEntry n u ∷ l) found = at (is_alike t u) (found_count t l)
  where
    at : (b : Bool) → ((f : Alike) → (alike_from t l f).count ≡ f.count + count_alike t l)
        → (cond b (alike_from t l (record { count = suc found.count; earliest = length l })) (alike_from t l found)).count ≡ found.count + cond b (suc (count_alike t l)) (count_alike t l)
    at true go = let more = go (record { count = suc found.count; earliest = length l }) in omega (arith, more)
    at false go = go found

found_none : (t : TagText) (l : List Entry) (found : Alike) → count_alike t l ≡ 0 → (alike_from t l found).earliest ≡ found.earliest
found_none t [] found h = refl
found_none t (MarkerEntry ∷ l) found h = refl
found_none t (ElementEntry n u ∷ l) found h = at (is_alike t u) h (found_none t l found)
  where
    at : (b : Bool) → cond b (suc (count_alike t l)) (count_alike t l) ≡ 0 → (count_alike t l ≡ 0 → (alike_from t l found).earliest ≡ found.earliest)
        → (cond b (alike_from t l (record { count = suc found.count; earliest = length l })) (alike_from t l found)).earliest ≡ found.earliest
    at true k go = absurd (omega (arith, k))
    at false k go = go k

-- the earliest of them is the one that goes, if there is one
pub record IsEarliest (t : TagText) (l : List Entry) (i : ℕ) : Type 0 where
  pub within : i < length l
  pub goes : without_place i l ≡ without_earliest t l

-- so it is with what is found
pub found_earliest : (t : TagText) (l : List Entry) (found : Alike) → 0 < count_alike t l → IsEarliest t l (alike_from t l found).earliest
found_earliest t [] found h = absurd (omega arith)
found_earliest t (MarkerEntry ∷ l) found h = absurd (omega arith)
found_earliest t (ElementEntry n u ∷ l) found h = at (is_alike t u) refl h (count_alike t l == 0) refl (found_earliest t l)
  where
    -- those after it have one
    later : (f : Alike) → (count_alike t l == 0) ≡ false → IsEarliest t l (alike_from t l f).earliest → IsEarliest t (ElementEntry n u ∷ l) (alike_from t l f).earliest
    later f none k = record {
      within = let w = k.within in omega (arith, w);
      goes = ap (λ b. cond b l (ElementEntry n u ∷ without_place (alike_from t l f).earliest l)) (ne_eqb (length l) (alike_from t l f).earliest (λ s. let w = k.within in omega (arith, w, s)))
          ∙ ap (λ r. ElementEntry n u ∷ r) k.goes
          ∙ sym (ap (λ b. cond b (cond (is_alike t u) l (ElementEntry n u ∷ l)) (ElementEntry n u ∷ without_earliest t l)) none);
    }

    some : (count_alike t l == 0) ≡ false → 0 < count_alike t l
    some none = let k = eqb-false (count_alike t l) 0 none in omega (arith, k)

    at : (b : Bool) → is_alike t u ≡ b → 0 < cond b (suc (count_alike t l)) (count_alike t l) → (z : Bool) → (count_alike t l == 0) ≡ z → ((f : Alike) → 0 < count_alike t l → IsEarliest t l (alike_from t l f).earliest)
        → IsEarliest t (ElementEntry n u ∷ l) (cond b (alike_from t l (record { count = suc found.count; earliest = length l })) (alike_from t l found)).earliest
    at true v k true none go =
        let f : Alike = record { count = suc found.count; earliest = length l } in
        let same : (alike_from t l f).earliest ≡ length l = found_none t l f (eqb-true (count_alike t l) 0 none) in
        subst (IsEarliest t (ElementEntry n u ∷ l)) (sym same) (record {
          within = omega arith;
          goes = ap (λ b. cond b l (ElementEntry n u ∷ without_place (length l) l)) (eq-eqb (length l) (length l) refl)
              ∙ sym (ap (λ b. cond b (cond (is_alike t u) l (ElementEntry n u ∷ l)) (ElementEntry n u ∷ without_earliest t l)) none ∙ ap (λ b. cond b l (ElementEntry n u ∷ l)) v);
        })
    at true v k false none go = let f : Alike = record { count = suc found.count; earliest = length l } in later f none (go f (some none))
    at false v k true none go = let z = eqb-true (count_alike t l) 0 none in absurd (omega (arith, z, k))
    at false v k false none go = later found none (go found (some none))

-- the test of the code
pub alike_test : (b : Bool) (t u : TagText) → IsTrue b ↔ IsAlike t u → is_alike t u ≡ b
alike_test true t u h = alike_telling t u (h.0 refl)
alike_test false t u h = at (is_alike t u) refl
  where
    at : (b : Bool) → is_alike t u ≡ b → b ≡ false
    at true e = absurd (let k = h.1 (alike_told t u e) in cc)
    at false e = refl

-- a step of the walk over those alike
pub found_step : (t u : TagText) (n : ℕ) (l : List Entry) (count earliest i : ℕ) → is_alike t u ≡ true → length l ≡ i
    → alike_from t (ElementEntry n u ∷ l) (record { count = count; earliest = earliest }) ≡ alike_from t l (record { count = count + 1; earliest = i })
found_step t u n l count earliest i alike many =
    ap (λ b. cond b (alike_from t l (record { count = suc count; earliest = length l })) (alike_from t l (record { count = count; earliest = earliest }))) alike
    ∙ ap (λ c. alike_from t l (record { count = c; earliest = length l })) (omega arith)
    ∙ ap (λ j. alike_from t l (record { count = count + 1; earliest = j })) many

-- one that isn't alike
pub found_other : (t u : TagText) (n : ℕ) (l : List Entry) (found : Alike) → is_alike t u ≡ false → alike_from t (ElementEntry n u ∷ l) found ≡ alike_from t l found
found_other t u n l found other = ap (λ b. cond b (alike_from t l (record { count = suc found.count; earliest = length l })) (alike_from t l found)) other

-- and what it found
pub all_counted : (t : TagText) (l : List Entry) (found : Alike) → found ≡ alike_from t l none_found → found.count ≡ count_alike t l
all_counted t l found e = let all = found_count t l none_found in let same = ap (λ (f : Alike). f.count) e in omega (arith, all, same)

pub earliest_found : (t : TagText) (l : List Entry) (found : Alike) → found ≡ alike_from t l none_found → 3 ≤ found.count → IsEarliest t l found.earliest
earliest_found t l found e many =
    let all = all_counted t l found e in
    subst (IsEarliest t l) (sym (ap (λ (f : Alike). f.earliest) e)) (found_earliest t l none_found (omega (arith, many, all)))
