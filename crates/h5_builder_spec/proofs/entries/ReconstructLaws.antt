-- What reconstructing leaves of the stack and the list.
use Rattle.std.proofs.Common.{◌≡◌, ◌≤◌, ◌⊎◌, inl, inr, ℕ, suc, Bool, true, false, cond, List, [], ◌∷◌, ◌++◌, length, refl, ap, sym, subst, ◌∙◌, arith}
use Rattle.std.proofs.lemmas.Bool.{eq-eqb}
use Rattle.h5_token.specs.TokenText.{TagText}
use Rattle.h5_builder_spec.specs.formatting.FormattingList.{ElementEntry, Entry, MarkerEntry, after_marker, closed_front, count_alike, is_alike, made_anew, nodes_of, open_rest, reconstructed}
use Rattle.h5_builder_spec.specs.formatting.Fresh.{AreFresh}
use Rattle.h5_builder_spec.specs.inner.Lists.{Beside, FewAlike, Lists, OpenFirst}
use Rattle.h5_builder_spec.specs.formatting.Places.{NoMarker, RewindsTo, StartsOpen}
use Rattle.h5_builder_spec.specs.stack.Order.{Before, IsIn, is_in}
use Rattle.h5_builder_spec.proofs.entries.EntryLaws.{nodes_of-append}
use Rattle.h5_builder_spec.proofs.entries.PairLaws.{in_left, in_right, in_split, before_first, before_second, before_split, before_across, before_left, before_right, is_in_false, is_in_telling, is_in_true}

-- the closed prefix and the remainder are the list
pub front_split : (s : List ℕ) (l : List Entry) → l ≡ closed_front s l ++ open_rest s l
front_split s [] = refl
front_split s (MarkerEntry ∷ l) = refl
front_split s (ElementEntry n t ∷ l) = at (is_in n s) (front_split s l)
  where
    at : (b : Bool) → l ≡ closed_front s l ++ open_rest s l → ElementEntry n t ∷ l ≡ cond b [] (ElementEntry n t ∷ closed_front s l) ++ cond b (ElementEntry n t ∷ l) (open_rest s l)
    at true go = refl
    at false go = ap (λ z. ElementEntry n t ∷ z) go

-- what is after the last marker is so among that, too
after_twice : (x : ℕ) (l : List Entry) → IsIn x (nodes_of (after_marker l)) → IsIn x (nodes_of (after_marker (after_marker l)))
after_twice x [] h = h
after_twice x (MarkerEntry ∷ l) h = h
after_twice x (ElementEntry n t ∷ l) (inl e) = inl e
after_twice x (ElementEntry n t ∷ l) (inr h) = inr (after_twice x l h)

beside_after : (x y : ℕ) (l : List Entry) → Beside (after_marker l) x y → Beside l x y
beside_after x y [] h = h
beside_after x y (MarkerEntry ∷ l) h = absurd h
beside_after x y (ElementEntry n t ∷ l) (inl h) = inl (h.0, after_marker_inside y l h.1)
  where
    after_marker_inside : (x : ℕ) (l : List Entry) → IsIn x (nodes_of (after_marker (after_marker l))) → IsIn x (nodes_of (after_marker l))
    after_marker_inside x [] i = i
    after_marker_inside x (MarkerEntry ∷ l) i = i
    after_marker_inside x (ElementEntry n t ∷ l) (inl e) = inl e
    after_marker_inside x (ElementEntry n t ∷ l) (inr i) = inr (after_marker_inside x l i)
beside_after x y (ElementEntry n t ∷ l) (inr h) = inr (beside_after x y l h)

pub open_after : (s : List ℕ) (l : List Entry) → OpenFirst s l → OpenFirst s (after_marker l)
open_after s l k x y h = k x y (beside_after x y l h)

-- in the rest all entries after the last marker are open
pub rest_open : (s : List ℕ) (l : List Entry) → OpenFirst s (after_marker l) → (y : ℕ) → IsIn y (nodes_of (after_marker (open_rest s l))) → IsIn y s
rest_open s [] k y h = absurd h
rest_open s (MarkerEntry ∷ l) k y h = absurd h
rest_open s (ElementEntry n t ∷ l) k y h = at (is_in n s) refl h (λ i. rest_open s l (λ x z b. k x z (inr b)) y i)
  where
    at : (b : Bool) → is_in n s ≡ b → IsIn y (nodes_of (after_marker (cond b (ElementEntry n t ∷ l) (open_rest s l)))) → (IsIn y (nodes_of (after_marker (open_rest s l))) → IsIn y s) → IsIn y s
    at true e (inl i) go = subst (λ z. IsIn z s) (sym i) (is_in_true n s e)
    at true e (inr i) go = k n y (inl (refl, after_twice y l i)) (is_in_true n s e)
    at false e i go = go i

-- the closed prefix is what the standard's rewinding passes
pub rewinds_to : (s : List ℕ) (l : List Entry) → RewindsTo s l (closed_front s l) (open_rest s l)
rewinds_to s [] = record { cut = refl; unmarked = tt; none_open = λ n h. absurd h; stops = tt }
rewinds_to s (MarkerEntry ∷ l) = record { cut = refl; unmarked = tt; none_open = λ n h. absurd h; stops = tt }
rewinds_to s (ElementEntry n t ∷ l) = at (is_in n s) refl (rewinds_to s l)
  where
    at : (b : Bool) → is_in n s ≡ b → RewindsTo s l (closed_front s l) (open_rest s l) → RewindsTo s (ElementEntry n t ∷ l) (cond b [] (ElementEntry n t ∷ closed_front s l)) (cond b (ElementEntry n t ∷ l) (open_rest s l))
    at true e k = record { cut = refl; unmarked = tt; none_open = λ m h. absurd h; stops = is_in_true n s e }
    at false e k = record { cut = ap (λ z. ElementEntry n t ∷ z) k.cut; unmarked = k.unmarked; none_open = closed; stops = k.stops }
      where
        closed : (m : ℕ) → IsIn m (n ∷ nodes_of (closed_front s l)) → ¬ (IsIn m s)
        closed m (inl v) i = let w : false ≡ true = sym e ∙ is_in_telling n s (subst (λ z. IsIn z s) v i) in cc
        closed m (inr h) i = k.none_open m h i

pub rewinds_alone : (s : List ℕ) (l front rest : List Entry) → RewindsTo s l front rest → front ≡ closed_front s l
rewinds_alone s l front rest k = sym (ap (closed_front s) k.cut ∙ over front k.unmarked k.none_open)
  where
    stopped : (r : List Entry) → StartsOpen s r → closed_front s r ≡ []
    stopped [] h = refl
    stopped (MarkerEntry ∷ r) h = refl
    stopped (ElementEntry n t ∷ r) h = rw (is_in_telling n s h) refl

    over : (f : List Entry) → NoMarker f → ((n : ℕ) → IsIn n (nodes_of f) → ¬ (IsIn n s)) → closed_front s (f ++ rest) ≡ f
    over [] u h = stopped rest k.stops
    over (MarkerEntry ∷ f) u h = absurd u
    over (ElementEntry n t ∷ f) u h = rw (is_in_false n s (h n (inl refl))) (ap (λ z. ElementEntry n t ∷ z) (over f u (λ m i. h m (inr i))))

pub nodes_anew : (s : List ℕ) (l : List Entry) (ms : List ℕ) → length ms ≡ length (closed_front s l) → nodes_of (made_anew ms (closed_front s l)) ≡ ms
nodes_anew s [] [] e = refl
nodes_anew s [] (m ∷ ms) e = absurd (omega arith)
nodes_anew s (MarkerEntry ∷ l) [] e = refl
nodes_anew s (MarkerEntry ∷ l) (m ∷ ms) e = absurd (omega arith)
nodes_anew s (ElementEntry n t ∷ l) ms e = at (is_in n s) ms e (λ ks h. nodes_anew s l ks h)
  where
    at : (b : Bool) (ms : List ℕ) → length ms ≡ length (cond b [] (ElementEntry n t ∷ closed_front s l))
        → ((ks : List ℕ) → length ks ≡ length (closed_front s l) → nodes_of (made_anew ks (closed_front s l)) ≡ ks)
        → nodes_of (made_anew ms (cond b [] (ElementEntry n t ∷ closed_front s l))) ≡ ms
    at true [] h go = refl
    at true (m ∷ ms) h go = absurd (omega arith)
    at false [] h go = refl
    at false (m ∷ ms) h go = ap (λ z. m ∷ z) (go ms (omega (arith, h)))

pub after_marker_anew : (ms : List ℕ) (f r : List Entry) (y : ℕ) → IsIn y (nodes_of (after_marker (made_anew ms f ++ r))) → IsIn y ms ⊎ IsIn y (nodes_of (after_marker r))
after_marker_anew [] f r y h = inr h
after_marker_anew (m ∷ ms) [] r y h = inr h
after_marker_anew (m ∷ ms) (MarkerEntry ∷ f) r y h = inr h
after_marker_anew (m ∷ ms) (ElementEntry n t ∷ f) r y (inl e) = inl (inl e)
after_marker_anew (m ∷ ms) (ElementEntry n t ∷ f) r y (inr h) = elim (after_marker_anew ms f r y h) [ inl i ↦ inl (inr i) | inr i ↦ inr i ]

beside_anew : (ms : List ℕ) (f r : List Entry) (x y : ℕ) → Beside (made_anew ms f ++ r) x y → (IsIn y ms ⊎ IsIn y (nodes_of (after_marker r))) ⊎ Beside r x y
beside_anew [] f r x y h = inr h
beside_anew (m ∷ ms) [] r x y h = inr h
beside_anew (m ∷ ms) (MarkerEntry ∷ f) r x y h = inr h
beside_anew (m ∷ ms) (ElementEntry n t ∷ f) r x y (inl h) = inl (elim (after_marker_anew ms f r y h.1) [ inl i ↦ inl (inr i) | inr i ↦ inr i ])
beside_anew (m ∷ ms) (ElementEntry n t ∷ f) r x y (inr h) =
    elim (beside_anew ms f r x y h) [ inl i ↦ inl (elim i [ inl j ↦ inl (inr j) | inr j ↦ inr j ]) | inr b ↦ inr b ]

-- the tags are the same
abbrev new_at : ℕ → TagText → List ℕ → List Entry → Bool → List ℕ → List Entry
new_at n u s l b ms = made_anew ms (cond b [] (ElementEntry n u ∷ closed_front s l)) ++ cond b (ElementEntry n u ∷ l) (open_rest s l)

alike_anew : (t : TagText) (s : List ℕ) (l : List Entry) (ms : List ℕ) → length ms ≡ length (closed_front s l)
    → (count_alike t (reconstructed ms s l) ≡ count_alike t l) × (FewAlike t l → FewAlike t (reconstructed ms s l))
alike_anew t s [] [] e = (refl, λ h. h)
alike_anew t s [] (m ∷ ms) e = absurd (omega arith)
alike_anew t s (MarkerEntry ∷ l) [] e = (refl, λ h. h)
alike_anew t s (MarkerEntry ∷ l) (m ∷ ms) e = absurd (omega arith)
alike_anew t s (ElementEntry n u ∷ l) ms e = at (is_in n s) ms e (λ ks h. alike_anew t s l ks h)
  where
    at : (b : Bool) (ms : List ℕ) → length ms ≡ length (cond b [] (ElementEntry n u ∷ closed_front s l))
        → ((ks : List ℕ) → length ks ≡ length (closed_front s l) → (count_alike t (reconstructed ks s l) ≡ count_alike t l) × (FewAlike t l → FewAlike t (reconstructed ks s l)))
        → (count_alike t (new_at n u s l b ms) ≡ count_alike t (ElementEntry n u ∷ l)) × (FewAlike t (ElementEntry n u ∷ l) → FewAlike t (new_at n u s l b ms))
    at true [] h go = (refl, λ k. k)
    at true (m ∷ ms) h go = absurd (omega arith)
    at false [] h go = absurd (omega arith)
    at false (m ∷ ms) h go =
        let k = go ms (omega (arith, h)) in
        let same = ap (λ i. cond (is_alike t u) (suc i) i) k.0 in
        (same, λ few. (subst (λ i. i ≤ 3) (sym same) few.0, k.1 few.1))

-- reconstructing, with as many new elements as the closed prefix has entries
module _ (fresh s : List ℕ) (l : List Entry) (as_many : length fresh ≡ length (closed_front s l)) where
  rest_listed : (x : ℕ) → IsIn x (nodes_of (open_rest s l)) → IsIn x (nodes_of l)
  rest_listed x i =
      subst (λ z. IsIn x (nodes_of z)) (sym (front_split s l))
      (subst (IsIn x) (sym (nodes_of-append (closed_front s l) (open_rest s l))) (in_right x (nodes_of (closed_front s l)) (nodes_of (open_rest s l)) i))

  rest_before : (x y : ℕ) → Before (nodes_of (open_rest s l)) x y → Before (nodes_of l) x y
  rest_before x y i =
      subst (λ z. Before (nodes_of z) x y) (sym (front_split s l))
      (subst (λ z. Before z x y) (sym (nodes_of-append (closed_front s l) (open_rest s l))) (before_right x y (nodes_of (closed_front s l)) (nodes_of (open_rest s l)) i))

  nodes_new : nodes_of (reconstructed fresh s l) ≡ fresh ++ nodes_of (open_rest s l)
  nodes_new = nodes_of-append (made_anew fresh (closed_front s l)) (open_rest s l) ∙ ap (λ z. z ++ nodes_of (open_rest s l)) (nodes_anew s l fresh as_many)

  parts : (x y : ℕ) → Before (nodes_of (reconstructed fresh s l)) x y → Before fresh x y ⊎ ((IsIn x fresh × IsIn y (nodes_of (open_rest s l))) ⊎ Before (nodes_of (open_rest s l)) x y)
  parts x y h = before_split x y fresh (nodes_of (open_rest s l)) (subst (λ z. Before z x y) nodes_new h)

  -- after it all entries after the last marker are open
  pub reconstructed_is_open : OpenFirst s (after_marker l) → (x : ℕ) → IsIn x (nodes_of (after_marker (reconstructed fresh s l))) → IsIn x (fresh ++ s)
  reconstructed_is_open k x h = elim (after_marker_anew fresh (closed_front s l) (open_rest s l) x h) [
    | inl i ↦ in_left x fresh s i
    | inr i ↦ in_right x fresh s (rest_open s l k x i)
  ]

  old_open : AreFresh fresh s l → (x : ℕ) → IsIn x (nodes_of (open_rest s l)) → IsIn x (fresh ++ s) → IsIn x s
  old_open new x i h = elim (in_split x fresh s h) [ inl j ↦ absurd (new.unlisted x j (rest_listed x i)) | inr j ↦ j ]

  rest_beside : (x y : ℕ) → Beside (open_rest s l) x y → Beside l x y
  rest_beside x y h = subst (λ z. Beside z x y) (sym (front_split s l)) (further (closed_front s l))
    where
      further : (p : List Entry) → Beside (p ++ open_rest s l) x y
      further [] = h
      further (MarkerEntry ∷ p) = further p
      further (ElementEntry n t ∷ p) = inr (further p)

  pub lists_reconstructed : AreFresh fresh s l → Lists s l → Lists (fresh ++ s) (reconstructed fresh s l)
  lists_reconstructed new k = record {
    agrees = record { once = once; order = order; open_first = open_first };
    alike = λ t. (alike_anew t s l fresh as_many).1 (k.alike t);
  }
    where
      once : (x : ℕ) → ¬ (Before (nodes_of (reconstructed fresh s l)) x x)
      once x h = elim (parts x x h) [
        | inl i ↦ new.distinct x i
        | inr i ↦ elim i [ inl j ↦ new.unlisted x j.0 (rest_listed x j.1) | inr j ↦ k.agrees.once x (rest_before x x j) ]
      ]

      order : (x y : ℕ) → IsIn x (fresh ++ s) → IsIn y (fresh ++ s) → Before (nodes_of (reconstructed fresh s l)) x y → Before (fresh ++ s) x y
      order x y u v h = elim (parts x y h) [
        | inl i ↦ before_left x y fresh s i
        | inr i ↦ elim i [
          | inl j ↦ before_across x y fresh s j.0 (old_open new y j.1 v)
          | inr j ↦
              let a = old_open new x (before_first x y (nodes_of (open_rest s l)) j) u in
              let b = old_open new y (before_second x y (nodes_of (open_rest s l)) j) v in
              before_right x y fresh s (k.agrees.order x y a b (rest_before x y j))
        ]
      ]

      open_first : (x y : ℕ) → Beside (reconstructed fresh s l) x y → IsIn x (fresh ++ s) → IsIn y (fresh ++ s)
      open_first x y h u = elim (beside_anew fresh (closed_front s l) (open_rest s l) x y h) [
        | inl i ↦ elim i [
          | inl j ↦ in_left y fresh s j
          | inr j ↦ in_right y fresh s (rest_open s l (open_after s l k.agrees.open_first) y j)
        ]
        | inr b ↦
            let a = old_open new x (listed x y (open_rest s l) b) u in
            in_right y fresh s (k.agrees.open_first x y (rest_beside x y b) a)
      ]
        where
          listed : (x y : ℕ) (r : List Entry) → Beside r x y → IsIn x (nodes_of r)
          listed x y [] i = absurd i
          listed x y (MarkerEntry ∷ r) i = listed x y r i
          listed x y (ElementEntry n t ∷ r) (inl i) = inl i.0
          listed x y (ElementEntry n t ∷ r) (inr i) = inr (listed x y r i)

-- reconstructing again does nothing: if the closed prefix is empty nothing changes, and after reconstructing it is
-- empty
pub reconstructed_none : (s : List ℕ) (l : List Entry) → closed_front s l ≡ [] → reconstructed [] s l ≡ l
reconstructed_none s l e = sym (front_split s l ∙ ap (λ z. z ++ open_rest s l) e)

rest_closed : (s : List ℕ) (l : List Entry) → closed_front s (open_rest s l) ≡ []
rest_closed s [] = refl
rest_closed s (MarkerEntry ∷ l) = refl
rest_closed s (ElementEntry n t ∷ l) = at (is_in n s) refl (rest_closed s l)
  where
    at : (b : Bool) → is_in n s ≡ b → closed_front s (open_rest s l) ≡ [] → closed_front s (cond b (ElementEntry n t ∷ l) (open_rest s l)) ≡ []
    at true e go = rw e refl
    at false e go = go

no_marker_first : (s : List ℕ) (l f : List Entry) → closed_front s l ≡ MarkerEntry ∷ f → ⊥
no_marker_first s [] f e = cc
no_marker_first s (MarkerEntry ∷ l) f e = cc
no_marker_first s (ElementEntry n t ∷ l) f e = at (is_in n s) e
  where
    at : (b : Bool) → cond b [] (ElementEntry n t ∷ closed_front s l) ≡ MarkerEntry ∷ f → ⊥
    at true h = cc
    at false h = cc

pub front_reconstructed : (fresh s : List ℕ) (l : List Entry) → length fresh ≡ length (closed_front s l) → closed_front (fresh ++ s) (reconstructed fresh s l) ≡ []
front_reconstructed [] s l e = rest_closed s l
front_reconstructed (m ∷ ms) s l e = at (closed_front s l) refl e
  where
    at : (f : List Entry) → closed_front s l ≡ f → length (m ∷ ms) ≡ length f → closed_front (m ∷ ms ++ s) (made_anew (m ∷ ms) f ++ open_rest s l) ≡ []
    at [] v h = absurd (omega arith)
    at (MarkerEntry ∷ f) v h = absurd (no_marker_first s l f v)
    at (ElementEntry n t ∷ f) v h = rw (eq-eqb m m refl) refl

pub reconstructed_twice : (fresh s : List ℕ) (l : List Entry) → length fresh ≡ length (closed_front s l) → reconstructed [] (fresh ++ s) (reconstructed fresh s l) ≡ reconstructed fresh s l
reconstructed_twice fresh s l e = reconstructed_none (fresh ++ s) (reconstructed fresh s l) (front_reconstructed fresh s l e)
