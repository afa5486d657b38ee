-- The list of active formatting elements while a round walks over it.
use Rattle.std.proofs.Common.{◌≡◌, ◌≢◌, inl, inr, ℕ, zero, suc, Bool, true, false, cond, List, [], ◌∷◌, ◌++◌, append_assoc, length, filter, Some, refl, ap, sym, subst, ◌∙◌, arith}
use Rattle.std.specs.Prelude.{◌==◌}
use Rattle.std.proofs.lemmas.Bool.{eq-eqb, ne_eqb}
use Rattle.h5_token.specs.TokenText.{TagText}
use Rattle.h5_builder_spec.specs.formatting.Adoption.{inserted_after, replaced, replaced_by, round_list, to_clone}
use Rattle.h5_builder_spec.specs.formatting.FormattingList.{EachEntry, ElementEntry, Entry, MarkerEntry, nodes_of, without_entry}
use Rattle.h5_builder_spec.specs.formatting.InnerLoop.{MayWalk, swapped, walked}
use Rattle.h5_builder_spec.specs.stack.Order.{Distinct, IsIn, first_or, is_in}
use Rattle.h5_builder_spec.proofs.entries.EachLaws.{each_without_entry}
use Rattle.h5_builder_spec.proofs.entries.EntryLaws.{nodes_of-append}
use Rattle.h5_builder_spec.proofs.entries.PairLaws.{in_left, in_right, in_split, is_in_true, not_beside}
use Rattle.h5_builder_spec.proofs.entries.ReplaceLaws.{nodes_replaced, now_in}
use Rattle.h5_builder_spec.proofs.entries.RoundLaws.{inserted_after_at, without_entry_at}
use Rattle.h5_builder_spec.proofs.entries.WalkLaws.{to_clone_walked}

-- where an entry is exchanged
pub swapped_at : (m y : ℕ) (t : TagText) (p r : List Entry) → ¬ (IsIn m (nodes_of p)) → swapped m y (p ++ ElementEntry m t ∷ r) ≡ p ++ ElementEntry y t ∷ r
swapped_at m y t [] r out = rw (eq-eqb m m refl) refl
swapped_at m y t (MarkerEntry ∷ p) r out = ap (λ z. MarkerEntry ∷ z) (swapped_at m y t p r out)
swapped_at m y t (ElementEntry n u ∷ p) r out = rw (ne_eqb n m (λ v. out (inl (sym v)))) (ap (λ z. ElementEntry n u ∷ z) (swapped_at m y t p r (λ i. out (inr i))))

-- what is listed below all of them stays as it is
without_above : (m : ℕ) (p r : List Entry) → ¬ (IsIn m (nodes_of r)) → without_entry m (p ++ r) ≡ without_entry m p ++ r
without_above m [] [] out = refl
without_above m [] (MarkerEntry ∷ r) out = ap (λ z. MarkerEntry ∷ z) (without_above m [] r out)
without_above m [] (ElementEntry n t ∷ r) out = rw (ne_eqb n m (λ v. out (inl (sym v)))) (ap (λ z. ElementEntry n t ∷ z) (without_above m [] r (λ i. out (inr i))))
without_above m (MarkerEntry ∷ p) r out = ap (λ z. MarkerEntry ∷ z) (without_above m p r out)
without_above m (ElementEntry n t ∷ p) r out = at (n == m) (without_above m p r out)
  where
    at : (b : Bool) → without_entry m (p ++ r) ≡ without_entry m p ++ r → cond b (p ++ r) (ElementEntry n t ∷ without_entry m (p ++ r)) ≡ cond b p (ElementEntry n t ∷ without_entry m p) ++ r
    at true e = refl
    at false e = ap (λ z. ElementEntry n t ∷ z) e

swapped_above : (m y : ℕ) (p r : List Entry) → ¬ (IsIn m (nodes_of r)) → swapped m y (p ++ r) ≡ swapped m y p ++ r
swapped_above m y [] [] out = refl
swapped_above m y [] (MarkerEntry ∷ r) out = ap (λ z. MarkerEntry ∷ z) (swapped_above m y [] r out)
swapped_above m y [] (ElementEntry n t ∷ r) out = rw (ne_eqb n m (λ v. out (inl (sym v)))) (ap (λ z. ElementEntry n t ∷ z) (swapped_above m y [] r (λ i. out (inr i))))
swapped_above m y (MarkerEntry ∷ p) r out = ap (λ z. MarkerEntry ∷ z) (swapped_above m y p r out)
swapped_above m y (ElementEntry n t ∷ p) r out = at (n == m) (swapped_above m y p r out)
  where
    at : (b : Bool) → swapped m y (p ++ r) ≡ swapped m y p ++ r → cond b (ElementEntry y t ∷ (p ++ r)) (ElementEntry n t ∷ swapped m y (p ++ r)) ≡ cond b (ElementEntry y t ∷ p) (ElementEntry n t ∷ swapped m y p) ++ r
    at true e = refl
    at false e = ap (λ z. ElementEntry n t ∷ z) e

listed_above : (m : ℕ) (p r : List Entry) → ¬ (IsIn m (nodes_of r)) → is_in m (nodes_of (p ++ r)) ≡ is_in m (nodes_of p)
listed_above m [] [] out = refl
listed_above m [] (MarkerEntry ∷ r) out = listed_above m [] r out
listed_above m [] (ElementEntry n t ∷ r) out = rw (ne_eqb m n (λ v. out (inl v))) (listed_above m [] r (λ i. out (inr i)))
listed_above m (MarkerEntry ∷ p) r out = listed_above m p r out
listed_above m (ElementEntry n t ∷ p) r out = ap (λ b. cond (m == n) true b) (listed_above m p r out)

pub walked_above : (k : ℕ) (ms ys : List ℕ) (p r : List Entry) → ((m : ℕ) → IsIn m ms → ¬ (IsIn m (nodes_of r))) → walked k ms ys (p ++ r) ≡ walked k ms ys p ++ r
walked_above zero [] ys p r out = refl
walked_above (suc k) [] ys p r out = refl
walked_above zero (m ∷ ms) ys p r out = ap (walked zero ms ys) (without_above m p r (out m (inl refl))) ∙ walked_above zero ms ys (without_entry m p) r (λ n i. out n (inr i))
walked_above (suc k) (m ∷ ms) [] p r out = walked_above k ms [] p r (λ n i. out n (inr i))
walked_above (suc k) (m ∷ ms) (y ∷ ys) p r out =
    ap (λ b. cond b (walked k ms ys (swapped m y (p ++ r))) (walked k ms (y ∷ ys) (p ++ r))) (listed_above m p r (out m (inl refl)))
    ∙ at (is_in m (nodes_of p)) (ap (walked k ms ys) (swapped_above m y p r (out m (inl refl))) ∙ walked_above k ms ys (swapped m y p) r (λ n i. out n (inr i))) (walked_above k ms (y ∷ ys) p r (λ n i. out n (inr i)))
  where
    at : (b : Bool) → walked k ms ys (swapped m y (p ++ r)) ≡ walked k ms ys (swapped m y p) ++ r → walked k ms (y ∷ ys) (p ++ r) ≡ walked k ms (y ∷ ys) p ++ r
        → cond b (walked k ms ys (swapped m y (p ++ r))) (walked k ms (y ∷ ys) (p ++ r)) ≡ cond b (walked k ms ys (swapped m y p)) (walked k ms (y ∷ ys) p) ++ r
    at true e d = e
    at false e d = d

-- what holds for each entry and for the clones holds after the walk
each_swapped : (P : ℕ → TagText → Type 0) (m y : ℕ) (l : List Entry) → ((t : TagText) → P y t) → EachEntry P l → EachEntry P (swapped m y l)
each_swapped P m y [] new h = h
each_swapped P m y (MarkerEntry ∷ l) new h = each_swapped P m y l new h
each_swapped P m y (ElementEntry n t ∷ l) new h = at (n == m) (each_swapped P m y l new h.1)
  where
    at : (b : Bool) → EachEntry P (swapped m y l) → EachEntry P (cond b (ElementEntry y t ∷ l) (ElementEntry n t ∷ swapped m y l))
    at true k = (new t, h.1)
    at false k = (h.0, k)

each_walked : (P : ℕ → TagText → Type 0) (k : ℕ) (ms ys : List ℕ) (l : List Entry) → ((y : ℕ) → IsIn y ys → (t : TagText) → P y t) → EachEntry P l → EachEntry P (walked k ms ys l)
each_walked P zero [] ys l new h = h
each_walked P (suc k) [] ys l new h = h
each_walked P zero (m ∷ ms) ys l new h = each_walked P zero ms ys (without_entry m l) new (each_without_entry P m l h)
each_walked P (suc k) (m ∷ ms) [] l new h = each_walked P k ms [] l new h
each_walked P (suc k) (m ∷ ms) (y ∷ ys) l new h =
    at (is_in m (nodes_of l)) (each_walked P k ms ys (swapped m y l) (λ z i. new z (inr i)) (each_swapped P m y l (new y (inl refl)) h)) (each_walked P k ms (y ∷ ys) l new h)
  where
    at : (b : Bool) → EachEntry P (walked k ms ys (swapped m y l)) → EachEntry P (walked k ms (y ∷ ys) l) → EachEntry P (cond b (walked k ms ys (swapped m y l)) (walked k ms (y ∷ ys) l))
    at true e d = e
    at false e d = d

pub each_apart : (x : ℕ) (l : List Entry) → ¬ (IsIn x (nodes_of l)) → EachEntry (λ n t. n ≢ x) l
each_apart x [] out = tt
each_apart x (MarkerEntry ∷ l) out = each_apart x l out
each_apart x (ElementEntry n t ∷ l) out = (λ e. out (inl (sym e)), each_apart x l (λ i. out (inr i)))

pub none_apart : (x : ℕ) (l : List Entry) → EachEntry (λ n t. n ≢ x) l → ¬ (IsIn x (nodes_of l))
none_apart x [] h i = i
none_apart x (MarkerEntry ∷ l) h i = none_apart x l h i
none_apart x (ElementEntry n t ∷ l) h (inl e) = h.0 (sym e)
none_apart x (ElementEntry n t ∷ l) h (inr i) = none_apart x l h.1 i

pub unlisted_walked : (x k : ℕ) (ms ys : List ℕ) (l : List Entry) → ¬ (IsIn x ys) → ¬ (IsIn x (nodes_of l)) → ¬ (IsIn x (nodes_of (walked k ms ys l)))
unlisted_walked x k ms ys l apart out = none_apart x (walked k ms ys l) (each_walked (λ n t. n ≢ x) k ms ys l (λ y i t e. apart (subst (λ z. IsIn z ys) e i)) (each_apart x l out))

-- the first clone is listed then
picked_listed : (l : List Entry) (ms : List ℕ) (x : ℕ) → IsIn x (filter (λ n. is_in n (nodes_of l)) ms) → IsIn x (nodes_of l)
picked_listed l [] x h = absurd h
picked_listed l (m ∷ ms) x h = at (is_in m (nodes_of l)) refl h (picked_listed l ms x)
  where
    at : (b : Bool) → is_in m (nodes_of l) ≡ b → IsIn x (cond b (m ∷ filter (λ n. is_in n (nodes_of l)) ms) (filter (λ n. is_in n (nodes_of l)) ms)) → (IsIn x (filter (λ n. is_in n (nodes_of l)) ms) → IsIn x (nodes_of l)) → IsIn x (nodes_of l)
    at true e (inl v) go = subst (λ z. IsIn z (nodes_of l)) (sym v) (is_in_true m (nodes_of l) e)
    at true e (inr i) go = go i
    at false e i go = go i

pub first_clone_listed : (between : List ℕ) (y : ℕ) (ys : List ℕ) (l : List Entry) → MayWalk 3 between (y ∷ ys) l → IsIn y (nodes_of (walked 3 between (y ∷ ys) l))
first_clone_listed between y ys l may = subst (λ z. IsIn y (nodes_of z)) (to_clone_walked between (y ∷ ys) l may) (at (to_clone l between) refl may.as_many)
  where
    at : (xs : List ℕ) → to_clone l between ≡ xs → length (y ∷ ys) ≡ length xs → IsIn y (nodes_of (replaced (replaced_by between (to_clone l between) (y ∷ ys)) l))
    at [] e h = absurd (omega (arith, h))
    at (x ∷ xs) e h =
        let w = replaced_by between (to_clone l between) (y ∷ ys) in
        let listed : IsIn x (nodes_of l) = picked_listed l _ x (subst (IsIn x) (sym e) (inl refl)) in
        let gives : w x ≡ Some y = ap (λ z. replaced_by between z (y ∷ ys) x) e ∙ ap (λ b. cond b (Some y) (replaced_by between xs ys x)) (eq-eqb x x refl) in
        subst (IsIn y) (sym (nodes_replaced w l)) (now_in w (nodes_of l) x y listed gives)

-- an element's newest entry stands at one place
pub same_first : (a : ℕ) (t u : TagText) (p r q s : List Entry) → ¬ (IsIn a (nodes_of p)) → ¬ (IsIn a (nodes_of q)) → p ++ ElementEntry a t ∷ r ≡ q ++ ElementEntry a u ∷ s → length r ≡ length s
same_first a t u [] r [] s np nq e = let same : r ≡ s = cc in ap length same
same_first a t u [] r (MarkerEntry ∷ q) s np nq e = absurd (cc)
same_first a t u [] r (ElementEntry n v ∷ q) s np nq e = let same : a ≡ n = cc in absurd (nq (inl same))
same_first a t u (MarkerEntry ∷ p) r [] s np nq e = absurd (cc)
same_first a t u (ElementEntry n v ∷ p) r [] s np nq e = let same : a ≡ n = cc in absurd (np (inl same))
same_first a t u (MarkerEntry ∷ p) r (MarkerEntry ∷ q) s np nq e = let tail : p ++ ElementEntry a t ∷ r ≡ q ++ ElementEntry a u ∷ s = cc in same_first a t u p r q s np nq tail
same_first a t u (MarkerEntry ∷ p) r (ElementEntry m v ∷ q) s np nq e = absurd (cc)
same_first a t u (ElementEntry m v ∷ p) r (MarkerEntry ∷ q) s np nq e = absurd (cc)
same_first a t u (ElementEntry n v ∷ p) r (ElementEntry m x ∷ q) s np nq e = let tail : p ++ ElementEntry a t ∷ r ≡ q ++ ElementEntry a u ∷ s = cc in same_first a t u p r q s (λ i. np (inr i)) (λ i. nq (inr i)) tail

pub walked_none : (k : ℕ) (ys : List ℕ) (l : List Entry) → walked k [] ys l ≡ l
walked_none zero ys l = refl
walked_none (suc k) ys l = refl

pub walked_onto : (k n y : ℕ) (ns ys zs : List ℕ) (l : List Entry) → zs ≡ y ∷ ys → is_in n (nodes_of l) ≡ true → walked (suc k) (n ∷ ns) zs l ≡ walked k ns ys (swapped n y l)
walked_onto k n y ns ys zs l e h = ap (λ z. walked (suc k) (n ∷ ns) z l) e ∙ ap (λ b. cond b (walked k ns ys (swapped n y l)) (walked k ns (y ∷ ys) l)) h

-- The list after a round, where the formatting element's entry stands above `older` and below `newer`.
module _ (f c : ℕ) (t : TagText) (between clones : List ℕ) (newer older : List Entry) where
  abbrev list : List Entry
  list = newer ++ ElementEntry f t ∷ older

  abbrev walk : List Entry
  walk = walked 3 between clones newer

  module _ (may : MayWalk 3 between clones list) (above : (n : ℕ) → IsIn n between → ¬ (IsIn n (nodes_of (ElementEntry f t ∷ older)))) (new : ¬ (IsIn c (nodes_of list))) where
    listed : IsIn f (nodes_of list)
    listed = subst (IsIn f) (sym (nodes_of-append newer (ElementEntry f t ∷ older))) (in_right f (nodes_of newer) (f ∷ nodes_of older) (inl refl))

    not_newer : ¬ (IsIn f (nodes_of newer))
    not_newer i =
        let distinct : Distinct (nodes_of newer ++ f ∷ nodes_of older) = subst Distinct (nodes_of-append newer (ElementEntry f t ∷ older)) may.listed in
        not_beside (nodes_of newer) (nodes_of older) f distinct (in_left f (nodes_of newer) (nodes_of older) i)

    pub none_walked : ¬ (IsIn f (nodes_of walk))
    none_walked = unlisted_walked f 3 between clones newer (λ i. may.new f i listed) not_newer

    pub list_walked : walked 3 between clones list ≡ walk ++ ElementEntry f t ∷ older
    list_walked = walked_above 3 between clones newer (ElementEntry f t ∷ older) above

    is_other : c ≢ f
    is_other e = new (subst (λ z. IsIn z (nodes_of list)) (sym e) listed)

    all_replaced : replaced (replaced_by between (to_clone list between) clones) list ≡ walk ++ ElementEntry f t ∷ older
    all_replaced = to_clone_walked between clones list may ∙ list_walked

    -- without clones it takes the place of that entry
    pub round_alone : clones ≡ [] → round_list f t between clones c list ≡ walk ++ ElementEntry c t ∷ older
    round_alone none =
        let high = walk ++ ElementEntry c t ∷ [] in
        let out : ¬ (IsIn f (nodes_of high)) = λ i. elim (in_split f (nodes_of walk) (c ∷ []) (subst (IsIn f) (nodes_of-append walk (ElementEntry c t ∷ [])) i)) [
          | inl j ↦ none_walked j
          | inr j ↦ elim j [ inl e ↦ is_other (sym e) | inr v ↦ v ]
        ] in
        ap (λ z. without_entry f (inserted_after (first_or f z) (ElementEntry c t) (replaced (replaced_by between (to_clone list between) clones) list))) none
        ∙ ap (λ z. without_entry f (inserted_after f (ElementEntry c t) z)) all_replaced
        ∙ ap (without_entry f) (inserted_after_at f (ElementEntry c t) t walk older none_walked ∙ sym (append_assoc walk (ElementEntry c t ∷ []) (ElementEntry f t ∷ older)))
        ∙ without_entry_at f t high older out
        ∙ append_assoc walk (ElementEntry c t ∷ []) older

    -- and else it comes right above the entry of the first one
    pub round_above : (y : ℕ) (ys : List ℕ) (u : TagText) (front middle : List Entry) → clones ≡ y ∷ ys → walk ≡ front ++ ElementEntry y u ∷ middle → ¬ (IsIn y (nodes_of front))
        → round_list f t between clones c list ≡ front ++ ElementEntry c t ∷ ElementEntry y u ∷ (middle ++ older)
    round_above y ys u front middle some cut first =
        let low = ElementEntry y u ∷ middle in
        let high = front ++ ElementEntry c t ∷ low in
        let parts : (nodes_of walk) ≡ nodes_of front ++ nodes_of low = ap nodes_of cut ∙ nodes_of-append front low in
        let out : ¬ (IsIn f (nodes_of high)) = λ i. elim (in_split f (nodes_of front) (c ∷ nodes_of low) (subst (IsIn f) (nodes_of-append front (ElementEntry c t ∷ low)) i)) [
          | inl j ↦ none_walked (subst (IsIn f) (sym parts) (in_left f (nodes_of front) (nodes_of low) j))
          | inr j ↦ elim j [ inl e ↦ is_other (sym e) | inr v ↦ none_walked (subst (IsIn f) (sym parts) (in_right f (nodes_of front) (nodes_of low) v)) ]
        ] in
        ap (λ z. without_entry f (inserted_after (first_or f z) (ElementEntry c t) (replaced (replaced_by between (to_clone list between) clones) list))) some
        ∙ ap (λ z. without_entry f (inserted_after y (ElementEntry c t) z)) (all_replaced ∙ ap (λ z. z ++ ElementEntry f t ∷ older) cut ∙ append_assoc front low (ElementEntry f t ∷ older))
        ∙ ap (without_entry f) (inserted_after_at y (ElementEntry c t) u front (middle ++ ElementEntry f t ∷ older) first ∙ sym (append_assoc front (ElementEntry c t ∷ low) (ElementEntry f t ∷ older)))
        ∙ without_entry_at f t high older out
        ∙ append_assoc front (ElementEntry c t ∷ low) older

    -- which is among the newer ones
    pub first_walked : (y : ℕ) (ys : List ℕ) → clones ≡ y ∷ ys → IsIn y (nodes_of walk)
    first_walked y ys some =
        let whole : IsIn y (nodes_of (walk ++ ElementEntry f t ∷ older)) =
        subst (λ z. IsIn y (nodes_of z)) (ap (λ z. walked 3 between z list) (sym some) ∙ list_walked) (first_clone_listed between y ys list (subst (λ z. MayWalk 3 between z list) some may)) in
        let unlisted : ¬ (IsIn y (nodes_of list)) = may.new y (subst (IsIn y) (sym some) (inl refl)) in
        elim (in_split y (nodes_of walk) (f ∷ nodes_of older) (subst (IsIn y) (nodes_of-append walk (ElementEntry f t ∷ older)) whole)) [
          | inl i ↦ i
          | inr i ↦ absurd (unlisted (subst (IsIn y) (sym (nodes_of-append newer (ElementEntry f t ∷ older))) (in_right y (nodes_of newer) (f ∷ nodes_of older) i)))
        ]
