-- What single changes leave of the stack and the list.
use Rattle.std.proofs.Common.{◌≡◌, ◌⊎◌, inl, inr, ℕ, Bool, true, false, cond, List, [], ◌∷◌, ◌++◌, refl, ap, sym, subst, ◌∙◌}
use Rattle.std.specs.Prelude.{◌==◌}
use Rattle.std.proofs.lemmas.Bool.{eqb-true, eqb-false}
use Rattle.h5_token.specs.TokenText.{TagText}
use Rattle.h5_builder_spec.specs.formatting.FormattingList.{ElementEntry, Entry, MarkerEntry, clear_to_marker, nodes_of, without_entry}
use Rattle.h5_builder_spec.specs.inner.Lists.{Agrees, Lists}
use Rattle.h5_builder_spec.specs.stack.Order.{Before, Distinct, IsIn}
use Rattle.h5_builder_spec.proofs.entries.EntryLaws.{nodes_of-append, beside_before, beside_more, before_cleared, beside_cleared, few_cleared, few_unlisted}
use Rattle.h5_builder_spec.proofs.entries.PairLaws.{in_right, in_one_more, in_one_less, before_first, before_second, before_split, before_across, before_one_more, before_one_less, not_beside}

-- the stack changes: of the listed elements the same stay open in their order, but that those which close
-- are newer than those which stay
pub agrees_restacked : (s z : List ℕ) (l : List Entry)
    → ((x : ℕ) → IsIn x (nodes_of l) → IsIn x z → IsIn x s)
    → ((x y : ℕ) → IsIn x (nodes_of l) → IsIn y (nodes_of l) → IsIn x z → IsIn y z → Before s x y → Before z x y)
    → ((x y : ℕ) → IsIn y (nodes_of l) → IsIn x z → IsIn y s → Before s x y → IsIn y z)
    → Agrees s l → Agrees z l
agrees_restacked s z l old order stay k = record {
  once = k.once;
  order = λ x y i j h.
      let u = before_first x y (nodes_of l) h in
      let v = before_second x y (nodes_of l) h in
      order x y u v i j (k.order x y (old x u i) (old y v j) h);
  open_first = λ x y h i.
      let b = beside_before x y l h in
      let u = before_first x y (nodes_of l) b in
      let v = before_second x y (nodes_of l) b in
      let j = k.open_first x y h (old x u i) in
      stay x y v i j (k.order x y (old x u i) j b);
}

-- an element that isn't listed is pushed
pub lists_pushed : (n : ℕ) (s : List ℕ) (l : List Entry) → ¬ (IsIn n (nodes_of l)) → Lists s l → Lists (n ∷ s) l
lists_pushed n s l out k = record {
  agrees = agrees_restacked s (n ∷ s) l old (λ x y u v i j h. inr h) (λ x y v i j h. inr j) k.agrees;
  alike = k.alike;
}
  where
    old : (x : ℕ) → IsIn x (nodes_of l) → IsIn x (n ∷ s) → IsIn x s
    old x u (inl e) = absurd (out (subst (λ z. IsIn z (nodes_of l)) e u))
    old x u (inr i) = i

-- the newest part of the stack is cut off
pub lists_cut : (a s : List ℕ) (l : List Entry) → Distinct (a ++ s) → Lists (a ++ s) l → Lists s l
lists_cut a s l d k = record {
  agrees = agrees_restacked (a ++ s) s l (λ x u i. in_right x a s i) order stay k.agrees;
  alike = k.alike;
}
  where
    order : (x y : ℕ) → IsIn x (nodes_of l) → IsIn y (nodes_of l) → IsIn x s → IsIn y s → Before (a ++ s) x y → Before s x y
    order x y u v i j h = elim (before_split x y a s h) [
      | inl b ↦ absurd (d x (before_across x x a s (before_first x y a b) i))
      | inr b ↦ elim b [ inl c ↦ absurd (d x (before_across x x a s c.0 i)) | inr c ↦ c ]
    ]

    stay : (x y : ℕ) → IsIn y (nodes_of l) → IsIn x s → IsIn y (a ++ s) → Before (a ++ s) x y → IsIn y s
    stay x y v i j h = elim (before_split x y a s h) [
      | inl b ↦ absurd (d x (before_across x x a s (before_first x y a b) i))
      | inr b ↦ elim b [ inl c ↦ absurd (d x (before_across x x a s c.0 i)) | inr c ↦ before_second x y s c ]
    ]

-- an element that isn't listed leaves the stack
pub agrees_left : (a b : List ℕ) (n : ℕ) (l : List Entry) → ¬ (IsIn n (nodes_of l)) → Agrees (a ++ n ∷ b) l → Agrees (a ++ b) l
agrees_left a b n l out k = agrees_restacked (a ++ n ∷ b) (a ++ b) l (λ x u i. in_one_more x n a b i) order (λ x y v i j h. kept y v j) k
  where
    kept : (y : ℕ) → IsIn y (nodes_of l) → IsIn y (a ++ n ∷ b) → IsIn y (a ++ b)
    kept y v j = elim (in_one_less y n a b j) [ inl e ↦ absurd (out (subst (λ z. IsIn z (nodes_of l)) e v)) | inr i ↦ i ]

    order : (x y : ℕ) → IsIn x (nodes_of l) → IsIn y (nodes_of l) → IsIn x (a ++ b) → IsIn y (a ++ b) → Before (a ++ n ∷ b) x y → Before (a ++ b) x y
    order x y u v i j h = elim (before_one_less x y n a b h) [
      | inl c ↦ c
      | inr c ↦ elim c [
        | inl e ↦ absurd (out (subst (λ z. IsIn z (nodes_of l)) e.0 u))
        | inr e ↦ absurd (out (subst (λ z. IsIn z (nodes_of l)) e.0 v))
      ]
    ]

pub lists_left : (a b : List ℕ) (n : ℕ) (l : List Entry) → ¬ (IsIn n (nodes_of l)) → Lists (a ++ n ∷ b) l → Lists (a ++ b) l
lists_left a b n l out k = record { agrees = agrees_left a b n l out k.agrees; alike = k.alike }

-- an entry leaves the list
listed_more : (x y n : ℕ) (t : TagText) (p r : List Entry) → Before (nodes_of (p ++ r)) x y → Before (nodes_of (p ++ ElementEntry n t ∷ r)) x y
listed_more x y n t p r h =
    subst (λ z. Before z x y) (sym (nodes_of-append p (ElementEntry n t ∷ r)))
    (before_one_more x y n (nodes_of p) (nodes_of r) (subst (λ z. Before z x y) (nodes_of-append p r) h))

pub agrees_unlisted : (s : List ℕ) (n : ℕ) (t : TagText) (p r : List Entry) → Agrees s (p ++ ElementEntry n t ∷ r) → Agrees s (p ++ r)
agrees_unlisted s n t p r k = record {
  once = λ x h. k.once x (listed_more x x n t p r h);
  order = λ x y i j h. k.order x y i j (listed_more x y n t p r h);
  open_first = λ x y h i. k.open_first x y (beside_more x y n t p r h) i;
}

pub lists_unlisted : (s : List ℕ) (n : ℕ) (t : TagText) (p r : List Entry) → Lists s (p ++ ElementEntry n t ∷ r) → Lists s (p ++ r)
lists_unlisted s n t p r k = record {
  agrees = agrees_unlisted s n t p r k.agrees;
  alike = λ u. few_unlisted u n t p r (k.alike u);
}

-- where the entry of an element stands
pub record EntryCut (m : ℕ) (l : List Entry) : Type 0 where
  pub front : List Entry
  pub tag : TagText
  pub rest : List Entry
  pub cut : l ≡ front ++ ElementEntry m tag ∷ rest
  pub less : without_entry m l ≡ front ++ rest
  pub first : ¬ (IsIn m (nodes_of front))

pub entry_cut : (m : ℕ) (l : List Entry) → IsIn m (nodes_of l) → EntryCut m l
entry_cut m [] h = absurd h
entry_cut m (MarkerEntry ∷ l) h =
    let k = entry_cut m l h in
    record {
      front = MarkerEntry ∷ k.front;
      tag = k.tag;
      rest = k.rest;
      cut = ap (λ z. MarkerEntry ∷ z) k.cut;
      less = ap (λ z. MarkerEntry ∷ z) k.less;
      first = k.first;
    }
entry_cut m (ElementEntry n t ∷ l) h = at (n == m) refl (λ i. entry_cut m l i) h
  where
    at : (b : Bool) → (n == m) ≡ b → (IsIn m (nodes_of l) → EntryCut m l) → IsIn m (n ∷ nodes_of l) → EntryCut m (ElementEntry n t ∷ l)
    at true e go i = record {
      front = [];
      tag = t;
      rest = l;
      cut = ap (λ z. ElementEntry z t ∷ l) (eqb-true n m e);
      less = rw e refl;
      first = λ v. v;
    }
    at false e go (inl i) = absurd (eqb-false n m e (sym i))
    at false e go (inr i) =
        let k = go i in
        record {
          front = ElementEntry n t ∷ k.front;
          tag = k.tag;
          rest = k.rest;
          cut = ap (λ z. ElementEntry n t ∷ z) k.cut;
          less = rw e (ap (λ z. ElementEntry n t ∷ z) k.less);
          first = λ v. elim v [ inl j ↦ eqb-false n m e (sym j) | inr j ↦ k.first j ];
        }

-- if there is none, nothing changes
pub without_entry_none : (m : ℕ) (l : List Entry) → ¬ (IsIn m (nodes_of l)) → without_entry m l ≡ l
without_entry_none m [] out = refl
without_entry_none m (MarkerEntry ∷ l) out = ap (λ z. MarkerEntry ∷ z) (without_entry_none m l out)
without_entry_none m (ElementEntry n t ∷ l) out = at (n == m) refl (without_entry_none m l (λ i. out (inr i)))
  where
    at : (b : Bool) → (n == m) ≡ b → without_entry m l ≡ l → cond (n == m) l (ElementEntry n t ∷ without_entry m l) ≡ ElementEntry n t ∷ l
    at true e k = absurd (out (inl (sym (eqb-true n m e))))
    at false e k = rw e (ap (λ z. ElementEntry n t ∷ z) k)

pub is_listed_or_not : (m : ℕ) (l : List ℕ) → IsIn m l ⊎ (¬ (IsIn m l))
is_listed_or_not m [] = inr (λ v. v)
is_listed_or_not m (n ∷ l) = at (m == n) refl (is_listed_or_not m l)
  where
    at : (b : Bool) → (m == n) ≡ b → IsIn m l ⊎ (¬ (IsIn m l)) → IsIn m (n ∷ l) ⊎ (¬ (IsIn m (n ∷ l)))
    at true e k = inl (inl (eqb-true m n e))
    at false e (inl i) = inl (inr i)
    at false e (inr o) = inr (λ v. elim v [ inl j ↦ eqb-false m n e j | inr j ↦ o j ])

pub agrees_without_entry : (m : ℕ) (s : List ℕ) (l : List Entry) → Agrees s l → Agrees s (without_entry m l)
agrees_without_entry m s l k = elim (is_listed_or_not m (nodes_of l)) [
  | inl i ↦ let c = entry_cut m l i in subst (Agrees s) (sym c.less) (agrees_unlisted s m c.tag c.front c.rest (subst (Agrees s) c.cut k))
  | inr o ↦ subst (Agrees s) (sym (without_entry_none m l o)) k
]

pub lists_without_entry : (m : ℕ) (s : List ℕ) (l : List Entry) → Lists s l → Lists s (without_entry m l)
lists_without_entry m s l k = elim (is_listed_or_not m (nodes_of l)) [
  | inl i ↦ let c = entry_cut m l i in subst (Lists s) (sym c.less) (lists_unlisted s m c.tag c.front c.rest (subst (Lists s) c.cut k))
  | inr o ↦ subst (Lists s) (sym (without_entry_none m l o)) k
]

-- an element whose entry went isn't listed any more
pub without_entry_gone : (m : ℕ) (l : List Entry) → Distinct (nodes_of l) → ¬ (IsIn m (nodes_of (without_entry m l)))
without_entry_gone m l d i = elim (is_listed_or_not m (nodes_of l)) [
  | inl h ↦
      let c = entry_cut m l h in
      not_beside (nodes_of c.front) (nodes_of c.rest) m
      (subst Distinct (ap nodes_of c.cut ∙ nodes_of-append c.front (ElementEntry m c.tag ∷ c.rest)) d)
      (subst (IsIn m) (ap nodes_of c.less ∙ nodes_of-append c.front c.rest) i)
  | inr o ↦ o (subst (λ z. IsIn m (nodes_of z)) (without_entry_none m l o) i)
]

-- an entry leaves the list, then its element the stack
pub agrees_dropped : (a b : List ℕ) (n : ℕ) (l : List Entry) → Agrees (a ++ n ∷ b) l → Agrees (a ++ b) (without_entry n l)
agrees_dropped a b n l k = agrees_left a b n (without_entry n l) (without_entry_gone n l k.once) (agrees_without_entry n (a ++ n ∷ b) l k)

-- a marker is pushed
pub lists_marked : (s : List ℕ) (l : List Entry) → Lists s l → Lists s (MarkerEntry ∷ l)
lists_marked s l k = record {
  agrees = record { once = k.agrees.once; order = k.agrees.order; open_first = k.agrees.open_first };
  alike = k.alike;
}

-- the list is cleared up to the last marker
pub lists_cleared : (s : List ℕ) (l : List Entry) → Lists s l → Lists s (clear_to_marker l)
lists_cleared s l k = record {
  agrees = record {
    once = λ x h. k.agrees.once x (before_cleared x x l h);
    order = λ x y i j h. k.agrees.order x y i j (before_cleared x y l h);
    open_first = λ x y h i. k.agrees.open_first x y (beside_cleared x y l h) i;
  };
  alike = λ t. few_cleared t l (k.alike t);
}
