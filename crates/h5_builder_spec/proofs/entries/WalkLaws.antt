-- To go over the elements between, the one nearest to the furthest block first, is to replace them all at once.
use Rattle.std.proofs.Common.{◌≡◌, ◌≢◌, ◌⊎◌, inl, inr, ℕ, zero, suc, Bool, true, false, cond, List, [], ◌∷◌, length, Option, Some, refl, ap, sym, subst, ◌∙◌, arith}
use Rattle.std.specs.Prelude.{◌==◌}
use Rattle.std.proofs.lemmas.Bool.{eqb-true, ne_eqb}
use Rattle.h5_builder_spec.specs.formatting.Adoption.{entry_as, replaced, replaced_by, to_clone}
use Rattle.h5_builder_spec.specs.formatting.FormattingList.{ElementEntry, Entry, MarkerEntry, nodes_of, without_entry}
use Rattle.h5_builder_spec.specs.stack.Order.{Distinct, IsIn, is_in}
use Rattle.h5_builder_spec.specs.formatting.InnerLoop.{MayWalk, picked, swapped, walked}
use Rattle.h5_builder_spec.proofs.entries.PairLaws.{is_in_telling}
use Rattle.h5_builder_spec.proofs.entries.RoundLaws.{part_to_clone, part_in}
use Rattle.h5_builder_spec.proofs.entries.StepLaws.{replaced_by_without, replaced_by_swapped, replaced_by_unlisted}

picked_same : (k : ℕ) (a l : List Entry) (ms : List ℕ) → ((n : ℕ) → IsIn n ms → is_in n (nodes_of a) ≡ is_in n (nodes_of l)) → picked k a ms ≡ picked k l ms
picked_same zero a l ms h = refl
picked_same (suc k) a l [] h = refl
picked_same (suc k) a l (m ∷ ms) h =
    ap (λ b. cond b (m ∷ picked k a ms) (picked k a ms)) (h m (inl refl))
    ∙ ap (λ z. cond (is_in m (nodes_of l)) (m ∷ z) z) (picked_same k a l ms (λ n i. h n (inr i)))

swapped_in : (m y n : ℕ) (l : List Entry) → n ≢ m → n ≢ y → is_in n (nodes_of (swapped m y l)) ≡ is_in n (nodes_of l)
swapped_in m y n [] h k = refl
swapped_in m y n (MarkerEntry ∷ l) h k = swapped_in m y n l h k
swapped_in m y n (ElementEntry x t ∷ l) h k = at (x == m) refl (swapped_in m y n l h k)
  where
    at : (b : Bool) → (x == m) ≡ b → is_in n (nodes_of (swapped m y l)) ≡ is_in n (nodes_of l)
        → is_in n (nodes_of (cond b (ElementEntry y t ∷ l) (ElementEntry x t ∷ swapped m y l))) ≡ cond (n == x) true (is_in n (nodes_of l))
    at true e go = rw (ne_eqb n y k) (rw (ne_eqb n x (λ v. h (v ∙ eqb-true x m e))) refl)
    at false e go = ap (λ b. cond (n == x) true b) go

swapped_listed : (m y n : ℕ) (l : List Entry) → IsIn n (nodes_of (swapped m y l)) → (n ≡ y) ⊎ IsIn n (nodes_of l)
swapped_listed m y n [] h = absurd h
swapped_listed m y n (MarkerEntry ∷ l) h = swapped_listed m y n l h
swapped_listed m y n (ElementEntry x t ∷ l) h = at (x == m) h (swapped_listed m y n l)
  where
    at : (b : Bool) → IsIn n (nodes_of (cond b (ElementEntry y t ∷ l) (ElementEntry x t ∷ swapped m y l))) → (IsIn n (nodes_of (swapped m y l)) → (n ≡ y) ⊎ IsIn n (nodes_of l)) → (n ≡ y) ⊎ IsIn n (x ∷ nodes_of l)
    at true (inl e) go = inl e
    at true (inr i) go = inr (inr i)
    at false (inl e) go = inr (inl e)
    at false (inr i) go = elim (go i) [ inl e ↦ inl e | inr j ↦ inr (inr j) ]

swapped_distinct : (m y : ℕ) (l : List Entry) → Distinct (nodes_of l) → ¬ (IsIn y (nodes_of l)) → Distinct (nodes_of (swapped m y l))
swapped_distinct m y [] d out = d
swapped_distinct m y (MarkerEntry ∷ l) d out = swapped_distinct m y l d out
swapped_distinct m y (ElementEntry n t ∷ l) d out = at (n == m) (swapped_distinct m y l (λ x h. d x (inr h)) (λ i. out (inr i)))
  where
    at : (b : Bool) → Distinct (nodes_of (swapped m y l)) → Distinct (nodes_of (cond b (ElementEntry y t ∷ l) (ElementEntry n t ∷ swapped m y l)))
    at true go x (inl h) = out (inr (subst (λ z. IsIn z (nodes_of l)) h.0 h.1))
    at true go x (inr h) = d x (inr h)
    at false go x (inl h) = elim (swapped_listed m y x l h.1) [ inl e ↦ out (inl (sym e ∙ h.0)) | inr i ↦ d x (inl (h.0, i)) ]
    at false go x (inr h) = go x h

without_entry_listed : (m n : ℕ) (l : List Entry) → IsIn n (nodes_of (without_entry m l)) → IsIn n (nodes_of l)
without_entry_listed m n [] h = h
without_entry_listed m n (MarkerEntry ∷ l) h = without_entry_listed m n l h
without_entry_listed m n (ElementEntry x t ∷ l) h = at (x == m) h (without_entry_listed m n l)
  where
    at : (b : Bool) → IsIn n (nodes_of (cond b l (ElementEntry x t ∷ without_entry m l))) → (IsIn n (nodes_of (without_entry m l)) → IsIn n (nodes_of l)) → IsIn n (x ∷ nodes_of l)
    at true i go = inr i
    at false (inl e) go = inl e
    at false (inr i) go = inr (go i)

without_entry_distinct : (m : ℕ) (l : List Entry) → Distinct (nodes_of l) → Distinct (nodes_of (without_entry m l))
without_entry_distinct m [] d = d
without_entry_distinct m (MarkerEntry ∷ l) d = without_entry_distinct m l d
without_entry_distinct m (ElementEntry n t ∷ l) d = at (n == m) (without_entry_distinct m l (λ x h. d x (inr h)))
  where
    at : (b : Bool) → Distinct (nodes_of (without_entry m l)) → Distinct (nodes_of (cond b l (ElementEntry n t ∷ without_entry m l)))
    at true go x h = d x (inr h)
    at false go x (inl h) = d x (inl (h.0, without_entry_listed m x l h.1))
    at false go x (inr h) = go x h

replaced_all : (w : ℕ → Option ℕ) (l : List Entry) → ((n : ℕ) → w n ≡ Some n) → replaced w l ≡ l
replaced_all w [] h = refl
replaced_all w (MarkerEntry ∷ l) h = ap (λ z. MarkerEntry ∷ z) (replaced_all w l h)
replaced_all w (ElementEntry n t ∷ l) h = ap (λ o. entry_as o t (replaced w l)) (h n) ∙ ap (λ z. ElementEntry n t ∷ z) (replaced_all w l h)

-- one by one is all at once
pub replaced_walked : (k : ℕ) (ms ys : List ℕ) (l : List Entry) → MayWalk k ms ys l → replaced (replaced_by ms (picked k l ms) ys) l ≡ walked k ms ys l
replaced_walked zero [] ys l may = replaced_all (replaced_by [] [] ys) l (λ n. refl)
replaced_walked (suc k) [] ys l may = replaced_all (replaced_by [] [] ys) l (λ n. refl)
replaced_walked zero (m ∷ ms) ys l may =
    replaced_by_without m ms [] ys l may.listed (λ v. v)
    ∙ replaced_walked zero ms ys (without_entry m l)
    (record {
      between = λ x h. may.between x (inr h);
      listed = without_entry_distinct m l may.listed;
      as_many = may.as_many;
      clones = may.clones;
      apart = λ y i h. may.apart y i (inr h);
      new = λ y i h. may.new y i (without_entry_listed m y l h);
    })
replaced_walked (suc k) (m ∷ ms) ys l may =
    at (is_in m (nodes_of l)) refl ys may.as_many may.clones may.apart may.new (λ zs a go. replaced_walked k ms zs a go)
  where
    none : is_in m (nodes_of l) ≡ false → ¬ (IsIn m (nodes_of l))
    none e i = let v : true ≡ false = sym (is_in_telling m (nodes_of l) i) ∙ e in cc

    at : (b : Bool) → is_in m (nodes_of l) ≡ b → (ys : List ℕ) → length ys ≡ length (cond (is_in m (nodes_of l)) (m ∷ picked k l ms) (picked k l ms)) → Distinct ys → ((y : ℕ) → IsIn y ys → ¬ (IsIn y (m ∷ ms))) → ((y : ℕ) → IsIn y ys → ¬ (IsIn y (nodes_of l)))
        → ((zs : List ℕ) (a : List Entry) → MayWalk k ms zs a → replaced (replaced_by ms (picked k a ms) zs) a ≡ walked k ms zs a)
        → replaced (replaced_by (m ∷ ms) (cond (is_in m (nodes_of l)) (m ∷ picked k l ms) (picked k l ms)) ys) l ≡ walked (suc k) (m ∷ ms) ys l
    at true e [] many c p q go = let v : 0 ≡ length (cond true (m ∷ picked k l ms) (picked k l ms)) = many ∙ ap (λ b. length (cond b (m ∷ picked k l ms) (picked k l ms))) e in absurd (omega (arith, v))
    at true e (y ∷ ys) many c p q go =
        let v : suc (length ys) ≡ suc (length (picked k l ms)) = many ∙ ap (λ b. length (cond b (m ∷ picked k l ms) (picked k l ms))) e in
        let same = picked_same k (swapped m y l) l ms (λ n i. swapped_in m y n l (λ h. may.between m (inl (refl, subst (λ z. IsIn z ms) h i))) (λ h. p y (inl refl) (inr (subst (λ z. IsIn z ms) h i)))) in
        let not_picked : ¬ (IsIn y (picked k l ms)) = λ i. p y (inl refl) (inr (part_in y (picked k l ms) ms (part_to_clone (λ n. is_in n (nodes_of l)) k ms) i)) in
        ap (λ b. replaced (replaced_by (m ∷ ms) (cond b (m ∷ picked k l ms) (picked k l ms)) (y ∷ ys)) l) e
        ∙ replaced_by_swapped m y ms (picked k l ms) ys l may.listed (λ i. p y (inl refl) (inr i)) not_picked
        ∙ ap (λ z. replaced (replaced_by ms z ys) (swapped m y l)) (sym same)
        ∙ go ys (swapped m y l)
        (record {
          between = λ x h. may.between x (inr h);
          listed = swapped_distinct m y l may.listed (q y (inl refl));
          as_many = let w : length ys ≡ length (picked k l ms) = omega (arith, v) in w ∙ ap length (sym same);
          clones = λ x h. c x (inr h);
          apart = λ x i h. p x (inr i) (inr h);
          new = λ x i h. elim (swapped_listed m y x l h) [ inl j ↦ c y (inl (refl, subst (λ z. IsIn z ys) j i)) | inr j ↦ q x (inr i) j ];
        })
        ∙ ap (λ b. cond b (walked k ms ys (swapped m y l)) (walked k ms (y ∷ ys) l)) (sym e)
    at false e ys many c p q go =
        ap (λ b. replaced (replaced_by (m ∷ ms) (cond b (m ∷ picked k l ms) (picked k l ms)) ys) l) e
        ∙ replaced_by_unlisted m ms (picked k l ms) ys l (none e)
        ∙ go ys l
        (record {
          between = λ x h. may.between x (inr h);
          listed = may.listed;
          as_many = many ∙ ap (λ b. length (cond b (m ∷ picked k l ms) (picked k l ms))) e;
          clones = c;
          apart = λ x i h. p x i (inr h);
          new = q;
        })
        ∙ last ys
      where
        last : (ys : List ℕ) → walked k ms ys l ≡ walked (suc k) (m ∷ ms) ys l
        last [] = refl
        last (y ∷ ys) = ap (λ b. cond b (walked k ms ys (swapped m y l)) (walked k ms (y ∷ ys) l)) (sym e)

-- so it is for the three that are nearest
pub to_clone_walked : (between clones : List ℕ) (l : List Entry) → MayWalk 3 between clones l → replaced (replaced_by between (to_clone l between) clones) l ≡ walked 3 between clones l
to_clone_walked between clones l may = replaced_walked 3 between clones l may
