-- The laws that single steps meet: new elements one by one, the earliest of those alike, and the elements between
-- a formatting element and its furthest block, one by one.
use Rattle.std.proofs.Common.{◌≡◌, ◌≢◌, ◌<◌, ◌≤◌, inl, inr, ℕ, suc, Bool, true, false, cond, List, [], ◌∷◌, Option, Some, refl, ap, sym, subst, ◌∙◌, arith}
use Rattle.std.specs.Prelude.{◌==◌}
use Rattle.std.proofs.lemmas.Bool.{eqb-true, eqb-false, eq-eqb, ne_eqb}
use Rattle.h5_token.specs.TokenText.{TagText}
use Rattle.h5_builder_spec.specs.formatting.Adoption.{entry_as, replaced, replaced_by}
use Rattle.h5_builder_spec.specs.formatting.FormattingList.{ElementEntry, Entry, MarkerEntry, count_alike, is_alike, nodes_of, push_formatting, without_earliest, without_entry}
use Rattle.h5_builder_spec.specs.stack.Order.{Distinct, IsIn}
use Rattle.h5_builder_spec.specs.formatting.InnerLoop.{swapped}
use Rattle.h5_builder_spec.specs.formatting.Places.{EarliestGoes}
use Rattle.h5_builder_spec.proofs.entries.AlikeLaws.{alike_told}
use Rattle.h5_builder_spec.proofs.entries.PushLaws.{push_full}
use Rattle.h5_builder_spec.proofs.entries.RoundLaws.{replaced_by_gone, replaced_by_kept}

-- the earliest of those alike to a tag: where it stands
pub earliest_goes : (t : TagText) (l : List Entry) → 0 < count_alike t l → EarliestGoes t l (without_earliest t l)
earliest_goes t [] h = absurd (omega arith)
earliest_goes t (MarkerEntry ∷ l) h = absurd (omega arith)
earliest_goes t (ElementEntry n u ∷ l) h = at (count_alike t l == 0) (is_alike t u) refl refl h (earliest_goes t l)
  where
    at : (a b : Bool) → (count_alike t l == 0) ≡ a → is_alike t u ≡ b → 0 < cond b (suc (count_alike t l)) (count_alike t l) → (0 < count_alike t l → EarliestGoes t l (without_earliest t l)) → EarliestGoes t (ElementEntry n u ∷ l) (without_earliest t (ElementEntry n u ∷ l))
    at true true e v k go = record {
      newer = [];
      node = n;
      tag = u;
      older = l;
      cut = refl;
      gone = rw e (rw v refl);
      unmarked = tt;
      alike = alike_told t u v;
      is_earliest = eqb-true _ _ e;
    }
    at true false e v k go = let z : count_alike t l ≡ 0 = eqb-true _ _ e in absurd (omega (arith, z, k))
    at false b e v k go =
        let g = go (positive (count_alike t l) (eqb-false _ _ e)) in
        record {
          newer = ElementEntry n u ∷ g.newer;
          node = g.node;
          tag = g.tag;
          older = g.older;
          cut = ap (λ z. ElementEntry n u ∷ z) g.cut;
          gone = rw e (ap (λ z. ElementEntry n u ∷ z) g.gone);
          unmarked = g.unmarked;
          alike = g.alike;
          is_earliest = g.is_earliest;
        }
      where
        positive : (i : ℕ) → ¬ (i ≡ 0) → 0 < i
        positive i h = omega (arith, h)

-- so a push gives up the earliest of three or more
pub push_gives_up : (n : ℕ) (t : TagText) (l : List Entry) → 3 ≤ count_alike t l → (left : List Entry) × ((push_formatting n t l ≡ ElementEntry n t ∷ left) × EarliestGoes t l left)
push_gives_up n t l h = (without_earliest t l, (push_full n t l h, earliest_goes t l (some (count_alike t l) h)))
  where
    some : (i : ℕ) → 3 ≤ i → 0 < i
    some i h = omega (arith, h)

-- of the elements between, the newest alone
pub replaced_agree : (w v : ℕ → Option ℕ) (l : List Entry) → ((n : ℕ) → IsIn n (nodes_of l) → w n ≡ v n) → replaced w l ≡ replaced v l
replaced_agree w v [] h = refl
replaced_agree w v (MarkerEntry ∷ l) h = ap (λ z. MarkerEntry ∷ z) (replaced_agree w v l h)
replaced_agree w v (ElementEntry n t ∷ l) h = ap (λ o. entry_as o t (replaced w l)) (h n (inl refl)) ∙ ap (entry_as (v n) t) (replaced_agree w v l (λ m i. h m (inr i)))

-- a node other than the newest between
replaced_by_other : (m n : ℕ) (B xs ys : List ℕ) → n ≢ m → replaced_by (m ∷ B) xs ys n ≡ replaced_by B xs ys n
replaced_by_other m n B [] ys h = rw (ne_eqb n m h) refl
replaced_by_other m n B (x ∷ xs) [] h = rw (ne_eqb n m h) refl
replaced_by_other m n B (x ∷ xs) (y ∷ ys) h = ap (λ o. cond (n == x) (Some y) o) (replaced_by_other m n B xs ys h)

not_second : (m n : ℕ) (s : List ℕ) → ¬ (IsIn m s) → IsIn n s → n ≢ m
not_second m n s out i e = out (subst (λ z. IsIn z s) e i)

-- it isn't listed: nothing
pub replaced_by_unlisted : (m : ℕ) (B xs ys : List ℕ) (l : List Entry) → ¬ (IsIn m (nodes_of l)) → replaced (replaced_by (m ∷ B) xs ys) l ≡ replaced (replaced_by B xs ys) l
replaced_by_unlisted m B xs ys l out = replaced_agree (replaced_by (m ∷ B) xs ys) (replaced_by B xs ys) l (λ n i. replaced_by_other m n B xs ys (not_second m n (nodes_of l) out i))

-- it gets no clone: its entry is removed
pub replaced_by_without : (m : ℕ) (B xs ys : List ℕ) (l : List Entry) → Distinct (nodes_of l) → ¬ (IsIn m xs) → replaced (replaced_by (m ∷ B) xs ys) l ≡ replaced (replaced_by B xs ys) (without_entry m l)
replaced_by_without m B xs ys [] d out = refl
replaced_by_without m B xs ys (MarkerEntry ∷ l) d out = ap (λ z. MarkerEntry ∷ z) (replaced_by_without m B xs ys l d out)
replaced_by_without m B xs ys (ElementEntry n t ∷ l) d out = at (n == m) refl (replaced_by_without m B xs ys l (λ x h. d x (inr h)) out)
  where
    at : (b : Bool) → (n == m) ≡ b → replaced (replaced_by (m ∷ B) xs ys) l ≡ replaced (replaced_by B xs ys) (without_entry m l)
        → entry_as (replaced_by (m ∷ B) xs ys n) t (replaced (replaced_by (m ∷ B) xs ys) l) ≡ replaced (replaced_by B xs ys) (cond b l (ElementEntry n t ∷ without_entry m l))
    at true e go =
        let same = eqb-true n m e in
        ap (λ o. entry_as o t (replaced (replaced_by (m ∷ B) xs ys) l)) (ap (replaced_by (m ∷ B) xs ys) same ∙ replaced_by_gone (m ∷ B) xs ys m (inl refl) out)
        ∙ replaced_by_unlisted m B xs ys l (λ i. d n (inl (refl, subst (λ z. IsIn z (nodes_of l)) (sym same) i)))
    at false e go =
        ap (λ o. entry_as o t (replaced (replaced_by (m ∷ B) xs ys) l)) (replaced_by_other m n B xs ys (eqb-false n m e))
        ∙ ap (entry_as (replaced_by B xs ys n) t) go

-- it gets the clone y: its entry is y's now
pub replaced_by_swapped : (m y : ℕ) (B xs ys : List ℕ) (l : List Entry) → Distinct (nodes_of l) → ¬ (IsIn y B) → ¬ (IsIn y xs) → replaced (replaced_by (m ∷ B) (m ∷ xs) (y ∷ ys)) l ≡ replaced (replaced_by B xs ys) (swapped m y l)
replaced_by_swapped m y B xs ys [] d out new = refl
replaced_by_swapped m y B xs ys (MarkerEntry ∷ l) d out new = ap (λ z. MarkerEntry ∷ z) (replaced_by_swapped m y B xs ys l d out new)
replaced_by_swapped m y B xs ys (ElementEntry n t ∷ l) d out new = at (n == m) refl (replaced_by_swapped m y B xs ys l (λ x h. d x (inr h)) out new)
  where
    other : (k : ℕ) → k ≢ m → replaced_by (m ∷ B) (m ∷ xs) (y ∷ ys) k ≡ replaced_by B xs ys k
    other k h = rw (ne_eqb k m h) (replaced_by_other m k B xs ys h)

    first : replaced_by (m ∷ B) (m ∷ xs) (y ∷ ys) m ≡ Some y
    first = rw (eq-eqb m m refl) refl

    at : (b : Bool) → (n == m) ≡ b → replaced (replaced_by (m ∷ B) (m ∷ xs) (y ∷ ys)) l ≡ replaced (replaced_by B xs ys) (swapped m y l)
        → entry_as (replaced_by (m ∷ B) (m ∷ xs) (y ∷ ys) n) t (replaced (replaced_by (m ∷ B) (m ∷ xs) (y ∷ ys)) l) ≡ replaced (replaced_by B xs ys) (cond b (ElementEntry y t ∷ l) (ElementEntry n t ∷ swapped m y l))
    at true e go =
        let same = eqb-true n m e in
        let rest = replaced_agree (replaced_by (m ∷ B) (m ∷ xs) (y ∷ ys)) (replaced_by B xs ys) l (λ k i. other k (not_second m k (nodes_of l) (λ j. d n (inl (refl, subst (λ z. IsIn z (nodes_of l)) (sym same) j))) i)) in
        ap (λ o. entry_as o t (replaced (replaced_by (m ∷ B) (m ∷ xs) (y ∷ ys)) l)) (ap (replaced_by (m ∷ B) (m ∷ xs) (y ∷ ys)) same ∙ first ∙ sym (replaced_by_kept B xs ys y out new))
        ∙ ap (entry_as (replaced_by B xs ys y) t) rest
    at false e go =
        ap (λ o. entry_as o t (replaced (replaced_by (m ∷ B) (m ∷ xs) (y ∷ ys)) l)) (other n (eqb-false n m e))
        ∙ ap (entry_as (replaced_by B xs ys n) t) go
