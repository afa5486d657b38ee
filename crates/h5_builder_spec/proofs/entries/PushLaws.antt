-- What a new formatting element leaves of the stack and the list.
use Rattle.std.proofs.Common.{◌≡◌, ◌≤◌, ◌<◌, inl, inr, ℕ, suc, Bool, true, false, cond, List, [], ◌∷◌, ◌++◌, refl, ap, sym, subst, arith}
use Rattle.std.specs.Prelude.{◌==◌, nat_le}
use Rattle.std.proofs.lemmas.Bool.{eqb-true, eqb-false, leb-true, leb-false}
use Rattle.h5_token.specs.TokenText.{TagText}
use Rattle.h5_builder_spec.specs.formatting.FormattingList.{ElementEntry, Entry, MarkerEntry, after_marker, count_alike, is_alike, nodes_of, push_formatting, without_earliest}
use Rattle.h5_builder_spec.specs.inner.Lists.{Agrees, Beside, FewAlike, Lists}
use Rattle.h5_builder_spec.specs.stack.Order.{Before, IsIn}
use Rattle.h5_builder_spec.proofs.entries.AlikeLaws.{alike_same}
use Rattle.h5_builder_spec.proofs.entries.EntryLaws.{few_unlisted, nodes_of-append, after_marker_more}
use Rattle.h5_builder_spec.proofs.entries.KeptListsLaws.{lists_unlisted}
use Rattle.h5_builder_spec.proofs.entries.PairLaws.{before_first, before_second, in_one_more}

-- a list without one of its entries, or the list
pub data IsFewer : List Entry → List Entry → Type 0 where
  same : {l : List Entry} → IsFewer l l
  without : (p : List Entry) (n : ℕ) (t : TagText) (r : List Entry) → IsFewer (p ++ r) (p ++ ElementEntry n t ∷ r)

fewer_head : (e : Entry) (m l : List Entry) → IsFewer m l → IsFewer (e ∷ m) (e ∷ l)
fewer_head e m l same = same
fewer_head e m l (without p n t r) = without (e ∷ p) n t r

earliest_fewer : (t : TagText) (l : List Entry) → IsFewer (without_earliest t l) l
earliest_fewer t [] = same
earliest_fewer t (MarkerEntry ∷ l) = same
earliest_fewer t (ElementEntry n u ∷ l) = at (count_alike t l == 0) (is_alike t u) (earliest_fewer t l)
  where
    at : (a b : Bool) → IsFewer (without_earliest t l) l → IsFewer (cond a (cond b l (ElementEntry n u ∷ l)) (ElementEntry n u ∷ without_earliest t l)) (ElementEntry n u ∷ l)
    at true true go = without [] n u l
    at true false go = same
    at false b go = fewer_head (ElementEntry n u) (without_earliest t l) l go

earliest_count : (t : TagText) (l : List Entry) → 0 < count_alike t l → suc (count_alike t (without_earliest t l)) ≡ count_alike t l
earliest_count t [] h = absurd (omega arith)
earliest_count t (MarkerEntry ∷ l) h = absurd (omega arith)
earliest_count t (ElementEntry n u ∷ l) h = at (count_alike t l == 0) (is_alike t u) refl refl h (λ k. earliest_count t l k)
  where
    step : (b : Bool) (i j : ℕ) → suc i ≡ j → suc (cond b (suc i) i) ≡ cond b (suc j) j
    step true i j e = ap suc e
    step false i j e = e

    at : (a b : Bool) → (count_alike t l == 0) ≡ a → is_alike t u ≡ b → 0 < cond b (suc (count_alike t l)) (count_alike t l) → (0 < count_alike t l → suc (count_alike t (without_earliest t l)) ≡ count_alike t l)
        → suc (count_alike t (cond a (cond b l (ElementEntry n u ∷ l)) (ElementEntry n u ∷ without_earliest t l))) ≡ cond b (suc (count_alike t l)) (count_alike t l)
    at true true e v k go = refl
    at true false e v k go = let z : count_alike t l ≡ 0 = eqb-true _ _ e in absurd (omega (arith, z, k))
    at false b e v k go =
        let z : 0 < count_alike t l = positive (count_alike t l) (eqb-false _ _ e) in
        rw v (step b (count_alike t (without_earliest t l)) (count_alike t l) (go z))
      where
        positive : (i : ℕ) → ¬ (i ≡ 0) → 0 < i
        positive i h = omega (arith, h)

pub few_top : (t : TagText) (l : List Entry) → FewAlike t l → count_alike t l ≤ 3
few_top t [] h = omega arith
few_top t (MarkerEntry ∷ l) h = omega arith
few_top t (ElementEntry n u ∷ l) h = h.0

-- two tags that are alike have as many alike to them
pub same_count : (t u : TagText) (l : List Entry) → is_alike t u ≡ true → count_alike t l ≡ count_alike u l
same_count t u [] e = refl
same_count t u (MarkerEntry ∷ l) e = refl
same_count t u (ElementEntry n v ∷ l) e = rw (alike_same t u v e) (ap (λ i. cond (is_alike u v) (suc i) i) (same_count t u l e))

-- the list before the new entry
before_push : TagText → List Entry → List Entry
before_push t l = cond (nat_le 3 (count_alike t l)) (without_earliest t l) l

before_push_fewer : (t : TagText) (l : List Entry) → IsFewer (before_push t l) l
unfolding before_push
before_push_fewer t l = at (nat_le 3 (count_alike t l))
  where
    at : (b : Bool) → IsFewer (cond b (without_earliest t l) l) l
    at true = earliest_fewer t l
    at false = same

before_push_count : (t : TagText) (l : List Entry) → FewAlike t l → count_alike t (before_push t l) ≤ 2
unfolding before_push
before_push_count t l k = at (nat_le 3 (count_alike t l)) refl
  where
    at : (b : Bool) → nat_le 3 (count_alike t l) ≡ b → count_alike t (cond b (without_earliest t l) l) ≤ 2
    at true e =
        let few = few_top t l k in
        let some : 3 ≤ count_alike t l = leb-true _ _ e in
        let c = earliest_count t l (omega (arith, some)) in
        omega (arith, few, c)
    at false e = let less = leb-false _ _ e in omega (arith, less)

lists_fewer : (s : List ℕ) (m l : List Entry) → IsFewer m l → Lists s l → Lists s m
lists_fewer s m l same k = k
lists_fewer s m l (without p n t r) k = lists_unlisted s n t p r k

fewer_listed : (x : ℕ) (m l : List Entry) → IsFewer m l → IsIn x (nodes_of m) → IsIn x (nodes_of l)
fewer_listed x m l same h = h
fewer_listed x m l (without p n t r) h =
    subst (IsIn x) (sym (nodes_of-append p (ElementEntry n t ∷ r))) (in_one_more x n (nodes_of p) (nodes_of r) (subst (IsIn x) (nodes_of-append p r) h))

fewer_after_marker : (x : ℕ) (m l : List Entry) → IsFewer m l → IsIn x (nodes_of (after_marker m)) → IsIn x (nodes_of (after_marker l))
fewer_after_marker x m l same h = h
fewer_after_marker x m l (without p n t r) h = after_marker_more x n t p r h

-- an element is the newest of both, where every entry after the last marker is open
pub agrees_both_pushed : (n : ℕ) (t : TagText) (s : List ℕ) (l : List Entry) → ((x : ℕ) → IsIn x (nodes_of (after_marker l)) → IsIn x s) → ¬ (IsIn n (nodes_of l)) → Agrees s l → Agrees (n ∷ s) (ElementEntry n t ∷ l)
agrees_both_pushed n t s l all out k = record { once = once; order = order; open_first = open_first }
  where
    old : (x : ℕ) → IsIn x (nodes_of l) → IsIn x (n ∷ s) → IsIn x s
    old x i (inl e) = absurd (out (subst (λ z. IsIn z (nodes_of l)) e i))
    old x i (inr j) = j

    once : (x : ℕ) → ¬ (Before (n ∷ nodes_of l) x x)
    once x (inl h) = out (subst (λ z. IsIn z (nodes_of l)) h.0 h.1)
    once x (inr h) = k.once x h

    order : (x y : ℕ) → IsIn x (n ∷ s) → IsIn y (n ∷ s) → Before (n ∷ nodes_of l) x y → Before (n ∷ s) x y
    order x y u v (inl h) = inl (h.0, old y h.1 v)
    order x y u v (inr h) = inr (k.order x y (old x (before_first x y (nodes_of l) h) u) (old y (before_second x y (nodes_of l) h) v) h)

    open_first : (x y : ℕ) → Beside (ElementEntry n t ∷ l) x y → IsIn x (n ∷ s) → IsIn y (n ∷ s)
    open_first x y (inl h) u = inr (all y h.1)
    open_first x y (inr h) u = inr (k.open_first x y h (old x (first x y l h) u))
      where
        first : (x y : ℕ) (l : List Entry) → Beside l x y → IsIn x (nodes_of l)
        first x y [] i = absurd i
        first x y (MarkerEntry ∷ r) i = first x y r i
        first x y (ElementEntry m v ∷ r) (inl i) = inl i.0
        first x y (ElementEntry m v ∷ r) (inr i) = inr (first x y r i)

-- at most three stay alike
few_head : (n : ℕ) (t : TagText) (l : List Entry) → ((u : TagText) → FewAlike u l) → ((u : TagText) → FewAlike u (before_push t l)) → (u : TagText) → FewAlike u (ElementEntry n t ∷ before_push t l)
few_head n t l k kept u = (head (is_alike u t) refl (few_top u (before_push t l) (kept u)), kept u)
  where
    head : (b : Bool) → is_alike u t ≡ b → count_alike u (before_push t l) ≤ 3 → cond (is_alike u t) (suc (count_alike u (before_push t l))) (count_alike u (before_push t l)) ≤ 3
    head true e few = rw e (let c = before_push_count t l (k t) in let v = same_count u t (before_push t l) e in omega (arith, c, v))
    head false e few = rw e few

few_fewer : (u : TagText) (m l : List Entry) → IsFewer m l → FewAlike u l → FewAlike u m
few_fewer u m l same k = k
few_fewer u m l (without p n t r) k = few_unlisted u n t p r k

pub few_pushed : (n : ℕ) (t : TagText) (l : List Entry) → ((u : TagText) → FewAlike u l) → (u : TagText) → FewAlike u (push_formatting n t l)
unfolding before_push
few_pushed n t l k u = few_head n t l k (λ v. few_fewer v (before_push t l) l (before_push_fewer t l) (k v)) u

-- an element is pushed onto both
pub lists_push_formatting : (n : ℕ) (t : TagText) (s : List ℕ) (l : List Entry) → ((x : ℕ) → IsIn x (nodes_of (after_marker l)) → IsIn x s) → ¬ (IsIn n (nodes_of l)) → Lists s l → Lists (n ∷ s) (push_formatting n t l)
unfolding before_push
lists_push_formatting n t s l all out k =
    let fewer = before_push_fewer t l in
    let kept = lists_fewer s (before_push t l) l fewer k in
    record {
      agrees = agrees_both_pushed n t s (before_push t l) (λ x h. all x (fewer_after_marker x (before_push t l) l fewer h)) (λ h. out (fewer_listed n (before_push t l) l fewer h)) kept.agrees;
      alike = few_head n t l k.alike kept.alike;
    }

-- where three or more are alike the earliest goes, else none
pub push_full : (n : ℕ) (t : TagText) (l : List Entry) → 3 ≤ count_alike t l → push_formatting n t l ≡ ElementEntry n t ∷ without_earliest t l
push_full n t l h = at (nat_le 3 (count_alike t l)) refl
  where
    at : (b : Bool) → nat_le 3 (count_alike t l) ≡ b → ElementEntry n t ∷ cond b (without_earliest t l) l ≡ ElementEntry n t ∷ without_earliest t l
    at true e = refl
    at false e = let less = leb-false _ _ e in absurd (omega (arith, h, less))

pub push_free : (n : ℕ) (t : TagText) (l : List Entry) → count_alike t l < 3 → push_formatting n t l ≡ ElementEntry n t ∷ l
push_free n t l h = at (nat_le 3 (count_alike t l)) refl
  where
    at : (b : Bool) → nat_le 3 (count_alike t l) ≡ b → ElementEntry n t ∷ cond b (without_earliest t l) l ≡ ElementEntry n t ∷ l
    at true e = let some : 3 ≤ count_alike t l = leb-true _ _ e in absurd (omega (arith, h, some))
    at false e = refl
