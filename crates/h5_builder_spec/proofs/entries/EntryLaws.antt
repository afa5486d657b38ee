-- Entries of the list, one beside the other.
use Rattle.std.proofs.Common.{◌≡◌, ◌≤◌, ◌⊎◌, inl, inr, ℕ, suc, Bool, true, false, cond, List, [], ◌∷◌, ◌++◌, refl, ap, arith}
use Rattle.h5_token.specs.TokenText.{TagText}
use Rattle.h5_builder_spec.specs.formatting.FormattingList.{ElementEntry, Entry, MarkerEntry, after_marker, clear_to_marker, count_alike, is_alike, nodes_of}
use Rattle.h5_builder_spec.specs.inner.Lists.{Beside, FewAlike}
use Rattle.h5_builder_spec.specs.stack.Order.{Before, IsIn}

pub nodes_of-append : (l r : List Entry) → nodes_of (l ++ r) ≡ nodes_of l ++ nodes_of r
nodes_of-append [] r = refl
nodes_of-append (MarkerEntry ∷ l) r = nodes_of-append l r
nodes_of-append (ElementEntry n t ∷ l) r = ap (λ z. n ∷ z) (nodes_of-append l r)

-- what is after the last marker is listed
pub after_marker_listed : (x : ℕ) (l : List Entry) → IsIn x (nodes_of (after_marker l)) → IsIn x (nodes_of l)
after_marker_listed x [] h = h
after_marker_listed x (MarkerEntry ∷ l) h = absurd h
after_marker_listed x (ElementEntry n t ∷ l) (inl e) = inl e
after_marker_listed x (ElementEntry n t ∷ l) (inr h) = inr (after_marker_listed x l h)

pub beside_before : (x y : ℕ) (l : List Entry) → Beside l x y → Before (nodes_of l) x y
beside_before x y [] h = h
beside_before x y (MarkerEntry ∷ l) h = beside_before x y l h
beside_before x y (ElementEntry n t ∷ l) (inl h) = inl (h.0, after_marker_listed y l h.1)
beside_before x y (ElementEntry n t ∷ l) (inr h) = inr (beside_before x y l h)

-- an entry more, or less
pub after_marker_more : (x n : ℕ) (t : TagText) (p r : List Entry) → IsIn x (nodes_of (after_marker (p ++ r))) → IsIn x (nodes_of (after_marker (p ++ ElementEntry n t ∷ r)))
after_marker_more x n t [] r h = inr h
after_marker_more x n t (MarkerEntry ∷ p) r h = h
after_marker_more x n t (ElementEntry m u ∷ p) r (inl e) = inl e
after_marker_more x n t (ElementEntry m u ∷ p) r (inr h) = inr (after_marker_more x n t p r h)

pub after_marker_less : (x n : ℕ) (t : TagText) (p r : List Entry) → IsIn x (nodes_of (after_marker (p ++ ElementEntry n t ∷ r))) → (x ≡ n) ⊎ IsIn x (nodes_of (after_marker (p ++ r)))
after_marker_less x n t [] r h = h
after_marker_less x n t (MarkerEntry ∷ p) r h = absurd h
after_marker_less x n t (ElementEntry m u ∷ p) r (inl e) = inr (inl e)
after_marker_less x n t (ElementEntry m u ∷ p) r (inr h) = elim (after_marker_less x n t p r h) [ inl e ↦ inl e | inr k ↦ inr (inr k) ]

pub beside_more : (x y n : ℕ) (t : TagText) (p r : List Entry) → Beside (p ++ r) x y → Beside (p ++ ElementEntry n t ∷ r) x y
beside_more x y n t [] r h = inr h
beside_more x y n t (MarkerEntry ∷ p) r h = beside_more x y n t p r h
beside_more x y n t (ElementEntry m u ∷ p) r (inl h) = inl (h.0, after_marker_more y n t p r h.1)
beside_more x y n t (ElementEntry m u ∷ p) r (inr h) = inr (beside_more x y n t p r h)

pub beside_less : (x y n : ℕ) (t : TagText) (p r : List Entry) → Beside (p ++ ElementEntry n t ∷ r) x y → Beside (p ++ r) x y ⊎ (((x ≡ n) × IsIn y (nodes_of (after_marker r))) ⊎ (y ≡ n))
beside_less x y n t [] r (inl h) = inr (inl h)
beside_less x y n t [] r (inr h) = inl h
beside_less x y n t (MarkerEntry ∷ p) r h = beside_less x y n t p r h
beside_less x y n t (ElementEntry m u ∷ p) r (inl h) = elim (after_marker_less y n t p r h.1) [ inl e ↦ inr (inr e) | inr k ↦ inl (inl (h.0, k)) ]
beside_less x y n t (ElementEntry m u ∷ p) r (inr h) = elim (beside_less x y n t p r h) [ inl k ↦ inl (inr k) | inr k ↦ inr k ]

-- what is older than the entry of n in its stretch
pub beside_at : (y n : ℕ) (t : TagText) (p r : List Entry) → IsIn y (nodes_of (after_marker r)) → Beside (p ++ ElementEntry n t ∷ r) n y
beside_at y n t [] r h = inl (refl, h)
beside_at y n t (MarkerEntry ∷ p) r h = beside_at y n t p r h
beside_at y n t (ElementEntry m u ∷ p) r h = inr (beside_at y n t p r h)

-- without the newest stretch
pub before_cleared : (x y : ℕ) (l : List Entry) → Before (nodes_of (clear_to_marker l)) x y → Before (nodes_of l) x y
before_cleared x y [] h = h
before_cleared x y (MarkerEntry ∷ l) h = h
before_cleared x y (ElementEntry n t ∷ l) h = inr (before_cleared x y l h)

pub beside_cleared : (x y : ℕ) (l : List Entry) → Beside (clear_to_marker l) x y → Beside l x y
beside_cleared x y [] h = h
beside_cleared x y (MarkerEntry ∷ l) h = h
beside_cleared x y (ElementEntry n t ∷ l) h = inr (beside_cleared x y l h)

pub few_cleared : (t : TagText) (l : List Entry) → FewAlike t l → FewAlike t (clear_to_marker l)
few_cleared t [] h = h
few_cleared t (MarkerEntry ∷ l) h = h
few_cleared t (ElementEntry n u ∷ l) h = few_cleared t l h.1

-- how many are alike
pub count_step : (b : Bool) (i j : ℕ) → i ≤ j → cond b (suc i) i ≤ cond b (suc j) j
count_step true i j h = omega arith
count_step false i j h = h

pub count_more : (b : Bool) (i : ℕ) → i ≤ cond b (suc i) i
count_more true i = omega arith
count_more false i = omega arith

pub fewer_alike : (t : TagText) (n : ℕ) (u : TagText) (p r : List Entry) → count_alike t (p ++ r) ≤ count_alike t (p ++ ElementEntry n u ∷ r)
fewer_alike t n u [] r = count_more (is_alike t u) (count_alike t r)
fewer_alike t n u (MarkerEntry ∷ p) r = omega arith
fewer_alike t n u (ElementEntry m v ∷ p) r = count_step (is_alike t v) (count_alike t (p ++ r)) (count_alike t (p ++ ElementEntry n u ∷ r)) (fewer_alike t n u p r)

pub few_unlisted : (t : TagText) (n : ℕ) (u : TagText) (p r : List Entry) → FewAlike t (p ++ ElementEntry n u ∷ r) → FewAlike t (p ++ r)
few_unlisted t n u [] r h = h.1
few_unlisted t n u (MarkerEntry ∷ p) r h = few_unlisted t n u p r h
few_unlisted t n u (ElementEntry m v ∷ p) r h = (le_trans _ _ _ (fewer_alike t n u (ElementEntry m v ∷ p) r) h.0, few_unlisted t n u p r h.1)
  where
    le_trans : (a b c : ℕ) → a ≤ b → b ≤ c → a ≤ c
    le_trans a b c h k = omega arith
