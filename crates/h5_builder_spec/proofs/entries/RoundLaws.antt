-- What a round of the adoption agency leaves of the stack and the list.
use Rattle.std.proofs.Common.{◌≡◌, ◌≤◌, ◌⊎◌, inl, inr, ℕ, zero, suc, Bool, true, false, cond, List, [], ◌∷◌, ◌++◌, append_assoc, length, take, filter, Some, None, refl, ap, sym, subst, ◌∙◌, arith}
use Rattle.std.proofs.lemmas.List.{append-nil}
use Rattle.std.specs.Prelude.{◌==◌}
use Rattle.std.proofs.lemmas.Bool.{eqb-true, eq-eqb, ne_eqb}
use Rattle.h5_token.specs.TokenText.{TagText}
use Rattle.h5_builder_spec.specs.formatting.Adoption.{IsCloneOf, inserted_after, replaced_by}
use Rattle.h5_builder_spec.specs.formatting.FormattingList.{ElementEntry, Entry, MarkerEntry, count_alike, is_alike, nodes_of, without_entry}
use Rattle.h5_builder_spec.specs.inner.Lists.{Agrees, Beside, FewAlike}
use Rattle.h5_builder_spec.specs.stack.Order.{Before, Distinct, IsIn, is_in}
use Rattle.h5_builder_spec.specs.formatting.Places.{NoMarker}
use Rattle.h5_builder_spec.proofs.entries.EntryLaws.{nodes_of-append, beside_less, beside_at, beside_before, count_more}
use Rattle.h5_builder_spec.proofs.entries.PushLaws.{few_top}
use Rattle.h5_builder_spec.proofs.entries.KeptListsLaws.{entry_cut}
use Rattle.h5_builder_spec.proofs.entries.PairLaws.{in_left, in_right, in_split, in_one_more, in_one_less, before_first, before_second, before_across, before_right, before_one_more, before_one_less, older, newer, is_in_false, is_in_telling}
use Rattle.h5_builder_spec.proofs.entries.ReplaceLaws.{node_as, replaced_nodes, replaced_same}

-- who is replaced by whom
pub replaced_by_result : (B xs ys : List ℕ) (n z : ℕ) → replaced_by B xs ys n ≡ Some z → (z ≡ n) ⊎ IsIn z ys
replaced_by_result B [] ys n z e = at (is_in n B) e
  where
    at : (b : Bool) → cond b None (Some n) ≡ Some z → (z ≡ n) ⊎ IsIn z ys
    at true h = absurd (cc)
    at false h = inl (cc)
replaced_by_result B (x ∷ xs) [] n z e = at (is_in n B) e
  where
    at : (b : Bool) → cond b None (Some n) ≡ Some z → (z ≡ n) ⊎ IsIn z []
    at true h = absurd (cc)
    at false h = inl (cc)
replaced_by_result B (x ∷ xs) (y ∷ ys) n z e = at (n == x) e (λ h. replaced_by_result B xs ys n z h)
  where
    at : (b : Bool) → cond b (Some y) (replaced_by B xs ys n) ≡ Some z → (replaced_by B xs ys n ≡ Some z → (z ≡ n) ⊎ IsIn z ys) → (z ≡ n) ⊎ IsIn z (y ∷ ys)
    at true h go = inr (inl (cc))
    at false h go = elim (go h) [ inl i ↦ inl i | inr i ↦ inr (inr i) ]

-- so it stays, or it is a clone's original
pub replaced_by_which : (B xs ys : List ℕ) (n z : ℕ) → replaced_by B xs ys n ≡ Some z → (z ≡ n) ⊎ IsCloneOf xs ys z n
replaced_by_which B [] ys n z e = at (is_in n B) e
  where
    at : (b : Bool) → cond b None (Some n) ≡ Some z → (z ≡ n) ⊎ IsCloneOf [] ys z n
    at true h = absurd (cc)
    at false h = inl (cc)
replaced_by_which B (x ∷ xs) [] n z e = at (is_in n B) e
  where
    at : (b : Bool) → cond b None (Some n) ≡ Some z → (z ≡ n) ⊎ IsCloneOf (x ∷ xs) [] z n
    at true h = absurd (cc)
    at false h = inl (cc)
replaced_by_which B (x ∷ xs) (y ∷ ys) n z e = at (n == x) refl e (λ h. replaced_by_which B xs ys n z h)
  where
    at : (b : Bool) → (n == x) ≡ b → cond b (Some y) (replaced_by B xs ys n) ≡ Some z → (replaced_by B xs ys n ≡ Some z → (z ≡ n) ⊎ IsCloneOf xs ys z n) → (z ≡ n) ⊎ IsCloneOf (x ∷ xs) (y ∷ ys) z n
    at true u h go = inr (inl (eqb-true n x u, cc))
    at false u h go = elim (go h) [ inl i ↦ inl i | inr i ↦ inr (inr i) ]

at_end : (B : List ℕ) (n m z : ℕ) (a b : Bool) → cond a None (Some n) ≡ Some z → cond b None (Some m) ≡ Some z → n ≡ m
at_end B n m z true b h k = absurd (cc)
at_end B n m z false true h k = absurd (cc)
at_end B n m z false false h k = cc

pub replaced_by_apart : (B xs ys : List ℕ) (n m z : ℕ) → Distinct ys → ¬ (IsIn n ys) → ¬ (IsIn m ys) → replaced_by B xs ys n ≡ Some z → replaced_by B xs ys m ≡ Some z → n ≡ m
replaced_by_apart B [] ys n m z d o p e v = at_end B n m z (is_in n B) (is_in m B) e v
replaced_by_apart B (x ∷ xs) [] n m z d o p e v = at_end B n m z (is_in n B) (is_in m B) e v
replaced_by_apart B (x ∷ xs) (y ∷ ys) n m z d o p e v =
    at (n == x) (m == x) refl refl e v (λ h k. replaced_by_apart B xs ys n m z (λ u h. d u (inr h)) (λ i. o (inr i)) (λ i. p (inr i)) h k)
  where
    -- the others aren't replaced by y
    not_y : (k : ℕ) → ¬ (IsIn k (y ∷ ys)) → replaced_by B xs ys k ≡ Some y → ⊥
    not_y k out h = elim (replaced_by_result B xs ys k y h) [ inl i ↦ out (inl (sym i)) | inr i ↦ d y (inl (refl, i)) ]

    at : (a b : Bool) → (n == x) ≡ a → (m == x) ≡ b → cond a (Some y) (replaced_by B xs ys n) ≡ Some z → cond b (Some y) (replaced_by B xs ys m) ≡ Some z → (replaced_by B xs ys n ≡ Some z → replaced_by B xs ys m ≡ Some z → n ≡ m) → n ≡ m
    at true true u w h k go = eqb-true n x u ∙ sym (eqb-true m x w)
    at true false u w h k go = absurd (not_y m p (k ∙ sym h))
    at false true u w h k go = absurd (not_y n o (h ∙ sym k))
    at false false u w h k go = go h k

pub replaced_by_kept : (B xs ys : List ℕ) (n : ℕ) → ¬ (IsIn n B) → ¬ (IsIn n xs) → replaced_by B xs ys n ≡ Some n
replaced_by_kept B [] ys n h k = rw (is_in_false n B h) refl
replaced_by_kept B (x ∷ xs) [] n h k = rw (is_in_false n B h) refl
replaced_by_kept B (x ∷ xs) (y ∷ ys) n h k = rw (ne_eqb n x (λ e. k (inl e))) (replaced_by_kept B xs ys n h (λ i. k (inr i)))

pub replaced_by_gone : (B xs ys : List ℕ) (n : ℕ) → IsIn n B → ¬ (IsIn n xs) → replaced_by B xs ys n ≡ None
replaced_by_gone B [] ys n h k = rw (is_in_telling n B h) refl
replaced_by_gone B (x ∷ xs) [] n h k = rw (is_in_telling n B h) refl
replaced_by_gone B (x ∷ xs) (y ∷ ys) n h k = rw (ne_eqb n x (λ e. k (inl e))) (replaced_by_gone B xs ys n h (λ i. k (inr i)))

-- some members of a list, in its order
pub data IsPart : List ℕ → List ℕ → Type 0 where
  none : IsPart [] []
  takes : {x : ℕ} {xs s : List ℕ} → IsPart xs s → IsPart (x ∷ xs) (x ∷ s)
  skips : {x : ℕ} {xs s : List ℕ} → IsPart xs s → IsPart xs (x ∷ s)

part_empty : (s : List ℕ) → IsPart [] s
part_empty [] = none
part_empty (x ∷ s) = skips (part_empty s)

pub part_to_clone : (p : ℕ → Bool) (k : ℕ) (s : List ℕ) → IsPart (filter p (take k s)) s
part_to_clone p zero s = part_empty s
part_to_clone p (suc k) [] = none
part_to_clone p (suc k) (x ∷ s) = at (p x) (part_to_clone p k s)
  where
    at : (b : Bool) → IsPart (filter p (take k s)) s → IsPart (cond b (x ∷ filter p (take k s)) (filter p (take k s))) (x ∷ s)
    at true k = takes k
    at false k = skips k

pub part_in : (n : ℕ) (xs s : List ℕ) → IsPart xs s → IsIn n xs → IsIn n s
part_in n xs s none h = h
part_in n xs s (takes k) (inl e) = inl e
part_in n xs s (takes {xs = ys} {s = r} k) (inr h) = inr (part_in n ys r k h)
part_in n xs s (skips {xs = ys} {s = r} k) h = inr (part_in n ys r k h)

-- the elements between are replaced by the clones
pub part_replaced : (B xs s ys : List ℕ) → IsPart xs s → length ys ≡ length xs → Distinct s → ((n : ℕ) → IsIn n s → IsIn n B) → replaced_nodes (replaced_by B xs ys) s ≡ ys
part_replaced B xs s [] none e d h = refl
part_replaced B xs s (y ∷ ys) none e d h = absurd (omega arith)
part_replaced B xs s [] (takes k) e d h = absurd (omega arith)
part_replaced B xs s (y ∷ ys) (takes {x = x} {xs = zs} {s = r} k) e d h =
    let first : replaced_by B (x ∷ zs) (y ∷ ys) x ≡ Some y = rw (eq-eqb x x refl) refl in
    let w = replaced_by B (x ∷ zs) (y ∷ ys) in
    ap (λ o. node_as o (replaced_nodes w r)) first
    ∙ ap (λ z. y ∷ z) (replaced_same w (replaced_by B zs ys) r (λ n i. rw (ne_eqb n x (λ v. d x (inl (refl, subst (λ z. IsIn z r) v i)))) refl)
    ∙ part_replaced B zs r ys k (omega (arith, e)) (λ n v. d n (inr v)) (λ n i. h n (inr i)))
part_replaced B xs s ys (skips {x = x} {s = r} k) e d h =
    ap (λ o. node_as o (replaced_nodes (replaced_by B xs ys) r)) (replaced_by_gone B xs ys x (h x (inl refl)) (λ i. d x (inl (refl, part_in x xs r k i))))
    ∙ part_replaced B xs r ys k e (λ n v. d n (inr v)) (λ n i. h n (inr i))

-- the clone of f comes right after b in the stack and right after a in the list, where a stands right
-- before b in the stack, and b isn't listed
pub agrees_clone_inserted : (z q : List ℕ) (a b c : ℕ) (ta tc : TagText) (p r : List Entry) → Distinct (z ++ b ∷ a ∷ q) → ¬ (IsIn c (nodes_of (p ++ ElementEntry a ta ∷ r))) → ¬ (IsIn b (nodes_of (p ++ ElementEntry a ta ∷ r)))
    → Agrees (z ++ b ∷ a ∷ q) (p ++ ElementEntry a ta ∷ r) → Agrees (z ++ c ∷ b ∷ a ∷ q) (p ++ ElementEntry c tc ∷ ElementEntry a ta ∷ r)
agrees_clone_inserted z q a b c ta tc p r d out unlisted k = record { once = once; order = order; open_first = open_first }
  where
    split : (x y : ℕ) → Before (nodes_of (p ++ ElementEntry c tc ∷ ElementEntry a ta ∷ r)) x y → Before (nodes_of (p ++ ElementEntry a ta ∷ r)) x y ⊎ (((x ≡ c) × IsIn y (a ∷ nodes_of r)) ⊎ ((y ≡ c) × IsIn x (nodes_of p)))
    split x y h =
        elim (before_one_less x y c (nodes_of p) (a ∷ nodes_of r) (subst (λ v. Before v x y) (nodes_of-append p (ElementEntry c tc ∷ ElementEntry a ta ∷ r)) h)) [
          | inl i ↦ inl (subst (λ v. Before v x y) (sym (nodes_of-append p (ElementEntry a ta ∷ r))) i)
          | inr i ↦ inr i
        ]

    at_front : (x : ℕ) → IsIn x (nodes_of p) → IsIn x (nodes_of (p ++ ElementEntry a ta ∷ r))
    at_front x i = subst (IsIn x) (sym (nodes_of-append p (ElementEntry a ta ∷ r))) (in_left x (nodes_of p) (a ∷ nodes_of r) i)

    at_back : (x : ℕ) → IsIn x (a ∷ nodes_of r) → IsIn x (nodes_of (p ++ ElementEntry a ta ∷ r))
    at_back x i = subst (IsIn x) (sym (nodes_of-append p (ElementEntry a ta ∷ r))) (in_right x (nodes_of p) (a ∷ nodes_of r) i)

    before_a : (x : ℕ) → IsIn x (nodes_of p) → Before (nodes_of (p ++ ElementEntry a ta ∷ r)) x a
    before_a x i = subst (λ v. Before v x a) (sym (nodes_of-append p (ElementEntry a ta ∷ r))) (before_across x a (nodes_of p) (a ∷ nodes_of r) i (inl refl))

    after_a : (x : ℕ) → IsIn x (nodes_of r) → Before (nodes_of (p ++ ElementEntry a ta ∷ r)) a x
    after_a x i = subst (λ v. Before v a x) (sym (nodes_of-append p (ElementEntry a ta ∷ r))) (before_right a x (nodes_of p) (a ∷ nodes_of r) (inl (refl, i)))

    old : (x : ℕ) → IsIn x (nodes_of (p ++ ElementEntry a ta ∷ r)) → IsIn x (z ++ c ∷ b ∷ a ∷ q) → IsIn x (z ++ b ∷ a ∷ q)
    old x i h = elim (in_one_less x c z (b ∷ a ∷ q) h) [ inl e ↦ absurd (out (subst (λ v. IsIn v (nodes_of (p ++ ElementEntry a ta ∷ r))) e i)) | inr j ↦ j ]

    a_open : IsIn a (z ++ b ∷ a ∷ q)
    a_open = in_right a z (b ∷ a ∷ q) (inr (inl refl))

    assoc : (z ++ b ∷ []) ++ a ∷ q ≡ z ++ b ∷ a ∷ q
    assoc = append_assoc z (b ∷ []) (a ∷ q)

    dist : Distinct ((z ++ b ∷ []) ++ a ∷ q)
    dist x h = d x (subst (λ v. Before v x x) assoc h)

    once : (x : ℕ) → ¬ (Before (nodes_of (p ++ ElementEntry c tc ∷ ElementEntry a ta ∷ r)) x x)
    once x h = elim (split x x h) [
      | inl i ↦ k.once x i
      | inr i ↦ elim i [
        | inl j ↦ out (subst (λ v. IsIn v (nodes_of (p ++ ElementEntry a ta ∷ r))) j.0 (at_back x j.1))
        | inr j ↦ out (subst (λ v. IsIn v (nodes_of (p ++ ElementEntry a ta ∷ r))) j.0 (at_front x j.1))
      ]
    ]

    -- what is older than c in the list and open, is a or older than a
    back : (y : ℕ) → IsIn y (a ∷ nodes_of r) → IsIn y (z ++ c ∷ b ∷ a ∷ q) → IsIn y (a ∷ q)
    back y (inl e) v = inl e
    back y (inr i) v =
        let w = k.order a y a_open (old y (at_back y (inr i)) v) (after_a y i) in
        inr (older (z ++ b ∷ []) q a y dist (subst (λ v. Before v a y) (sym assoc) w))

    -- what is newer and open, is newer than b
    front : (x : ℕ) → IsIn x (nodes_of p) → IsIn x (z ++ c ∷ b ∷ a ∷ q) → IsIn x z
    front x i u =
        let w = k.order x a (old x (at_front x i) u) a_open (before_a x i) in
        elim (in_split x z (b ∷ []) (newer (z ++ b ∷ []) q a x dist (subst (λ v. Before v x a) (sym assoc) w))) [
          | inl j ↦ j
          | inr j ↦ elim j [ inl e ↦ absurd (unlisted (subst (λ v. IsIn v (nodes_of (p ++ ElementEntry a ta ∷ r))) e (at_front x i))) | inr v ↦ absurd v ]
        ]

    order : (x y : ℕ) → IsIn x (z ++ c ∷ b ∷ a ∷ q) → IsIn y (z ++ c ∷ b ∷ a ∷ q) → Before (nodes_of (p ++ ElementEntry c tc ∷ ElementEntry a ta ∷ r)) x y → Before (z ++ c ∷ b ∷ a ∷ q) x y
    order x y u v h = elim (split x y h) [
      | inl i ↦
          let j = old x (before_first x y (nodes_of (p ++ ElementEntry a ta ∷ r)) i) u in
          let m = old y (before_second x y (nodes_of (p ++ ElementEntry a ta ∷ r)) i) v in
          before_one_more x y c z (b ∷ a ∷ q) (k.order x y j m i)
      | inr i ↦ elim i [
        | inl j ↦ before_right x y z (c ∷ b ∷ a ∷ q) (inl (j.0, inr (back y j.1 v)))
        | inr j ↦ before_across x y z (c ∷ b ∷ a ∷ q) (front x j.1 u) (inl j.0)
      ]
    ]

    more : (x : ℕ) → IsIn x (z ++ b ∷ a ∷ q) → IsIn x (z ++ c ∷ b ∷ a ∷ q)
    more x i = in_one_more x c z (b ∷ a ∷ q) i

    open_first : (x y : ℕ) → Beside (p ++ ElementEntry c tc ∷ ElementEntry a ta ∷ r) x y → IsIn x (z ++ c ∷ b ∷ a ∷ q) → IsIn y (z ++ c ∷ b ∷ a ∷ q)
    open_first x y h u = elim (beside_less x y c tc p (ElementEntry a ta ∷ r) h) [
      | inl i ↦
          let j = old x (before_first x y (nodes_of (p ++ ElementEntry a ta ∷ r)) (beside_before x y (p ++ ElementEntry a ta ∷ r) i)) u in
          more y (k.open_first x y i j)
      | inr i ↦ elim i [
        | inl j ↦ elim j.1 [
          | inl e ↦ more y (subst (λ v. IsIn v (z ++ b ∷ a ∷ q)) (sym e) a_open)
          | inr m ↦ more y (k.open_first a y (beside_at y a ta p r m) a_open)
        ]
        | inr e ↦ in_right y z (c ∷ b ∷ a ∷ q) (inl e)
      ]
    ]

-- tags: an entry of f's tag comes in between two markers, and f's goes
few_back : (t : TagText) (p r : List Entry) → FewAlike t (p ++ r) → FewAlike t r
few_back t [] r h = h
few_back t (MarkerEntry ∷ p) r h = few_back t p r h
few_back t (ElementEntry n u ∷ p) r h = few_back t p r h.1

few_front : (t : TagText) (p r : List Entry) → NoMarker p → count_alike t (p ++ r) ≤ 3 → FewAlike t r → FewAlike t (p ++ r)
few_front t [] r h few k = k
few_front t (MarkerEntry ∷ p) r h few k = absurd h
few_front t (ElementEntry n u ∷ p) r h few k =
    let more = count_more (is_alike t u) (count_alike t (p ++ r)) in
    (few, few_front t p r h (le_trans _ _ _ more few) k)
  where
    le_trans : (a b c : ℕ) → a ≤ b → b ≤ c → a ≤ c
    le_trans a b c h k = omega arith

same_front : (t : TagText) (p x y : List Entry) → count_alike t x ≡ count_alike t y → count_alike t (p ++ x) ≡ count_alike t (p ++ y)
same_front t [] x y e = e
same_front t (MarkerEntry ∷ p) x y e = refl
same_front t (ElementEntry n u ∷ p) x y e = ap (λ i. cond (is_alike t u) (suc i) i) (same_front t p x y e)

count_moved : (t u : TagText) (c f : ℕ) (q r : List Entry) → NoMarker q → count_alike t (ElementEntry c u ∷ (q ++ r)) ≡ count_alike t (q ++ ElementEntry f u ∷ r)
count_moved t u c f [] r h = refl
count_moved t u c f (MarkerEntry ∷ q) r h = absurd h
count_moved t u c f (ElementEntry n v ∷ q) r h = at (is_alike t u) (is_alike t v) (count_alike t (q ++ r)) (count_alike t (q ++ ElementEntry f u ∷ r)) (count_moved t u c f q r h)
  where
    at : (a b : Bool) (i j : ℕ) → cond a (suc i) i ≡ j → cond a (suc (cond b (suc i) i)) (cond b (suc i) i) ≡ cond b (suc j) j
    at true true i j e = ap suc e
    at true false i j e = e
    at false true i j e = ap suc e
    at false false i j e = e

pub few_moved : (t u : TagText) (c f : ℕ) (p q r : List Entry) → NoMarker p → NoMarker q → FewAlike t (p ++ (q ++ ElementEntry f u ∷ r)) → FewAlike t (p ++ (ElementEntry c u ∷ (q ++ r)))
few_moved t u c f p q r np nq h =
    let back = few_back t p (q ++ ElementEntry f u ∷ r) h in
    let few = few_top t (q ++ ElementEntry f u ∷ r) back in
    let all = few_top t (p ++ (q ++ ElementEntry f u ∷ r)) h in
    let e = count_moved t u c f q r nq in
    few_front t p (ElementEntry c u ∷ (q ++ r)) np (subst (λ i. i ≤ 3) (sym (same_front t p (ElementEntry c u ∷ (q ++ r)) (q ++ ElementEntry f u ∷ r) e)) all)
    (few_front t (ElementEntry c u ∷ q) r nq (subst (λ i. i ≤ 3) (sym e) few) (few_back t q (ElementEntry f u ∷ r) back).1)

-- places in the list
pub inserted_after_at : (a : ℕ) (e : Entry) (t : TagText) (p r : List Entry) → ¬ (IsIn a (nodes_of p)) → inserted_after a e (p ++ ElementEntry a t ∷ r) ≡ p ++ (e ∷ ElementEntry a t ∷ r)
inserted_after_at a e t [] r out = rw (eq-eqb a a refl) refl
inserted_after_at a e t (MarkerEntry ∷ p) r out = ap (λ z. MarkerEntry ∷ z) (inserted_after_at a e t p r out)
inserted_after_at a e t (ElementEntry n u ∷ p) r out = rw (ne_eqb n a (λ v. out (inl (sym v)))) (ap (λ z. ElementEntry n u ∷ z) (inserted_after_at a e t p r (λ i. out (inr i))))

pub without_entry_at : (f : ℕ) (t : TagText) (p r : List Entry) → ¬ (IsIn f (nodes_of p)) → without_entry f (p ++ ElementEntry f t ∷ r) ≡ p ++ r
without_entry_at f t [] r out = rw (eq-eqb f f refl) refl
without_entry_at f t (MarkerEntry ∷ p) r out = ap (λ z. MarkerEntry ∷ z) (without_entry_at f t p r out)
without_entry_at f t (ElementEntry n u ∷ p) r out = rw (ne_eqb n f (λ v. out (inl (sym v)))) (ap (λ z. ElementEntry n u ∷ z) (without_entry_at f t p r (λ i. out (inr i))))

-- where the clone of f is put in: at a, the newest of the clones or f
pub record Spot (a f : ℕ) (t : TagText) (p r : List Entry) : Type 0 where
  pub front : List Entry
  pub middle : List Entry
  pub tag : TagText
  pub rest : List Entry
  pub cut : p ≡ front ++ middle
  pub here : middle ++ ElementEntry f t ∷ r ≡ ElementEntry a tag ∷ rest
  pub first : ¬ (IsIn a (nodes_of front))

pub spot_f : (f : ℕ) (t : TagText) (p r : List Entry) → ¬ (IsIn f (nodes_of p)) → Spot f f t p r
spot_f f t p r out = record { front = p; middle = []; tag = t; rest = r; cut = sym (append-nil p); here = refl; first = out }

pub spot_clone : (a f : ℕ) (t : TagText) (p r : List Entry) → IsIn a (nodes_of p) → Spot a f t p r
spot_clone a f t p r i =
    let c = entry_cut a p i in
    record { front = c.front; middle = ElementEntry a c.tag ∷ c.rest; tag = c.tag; rest = c.rest ++ ElementEntry f t ∷ r; cut = c.cut; here = refl; first = c.first }
