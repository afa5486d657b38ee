-- The texts of a sound block are parted, if no text is empty and no text is the next sibling of another.
use Rattle.std.proofs.Common.{◌≡◌, ◌≢◌, ◌∙◌, ◌⊎◌, ℕ, zero, suc, ◌+◌, ◌-◌, ◌<◌, ◌≤◌, cond, List, [], ◌∷◌, map, ap, arith, inl, inr, subst, sym}
use Rattle.std.specs.Prelude.{◌==◌, not}
use Rattle.std.proofs.Math.Nat.{eq-or-lt_of_le}
use Rattle.std.proofs.lemmas.Bool.{cases_eq, cases_lt, cond-false, cond-true, eq-eqb, ne_eqb}
use Rattle.h5_interface.specs.Forest.{AreParted, Child, ChildNode, ChildText, FragmentNode, children_of}
use Rattle.h5_tree_block.specs.Block.{end_in, kind_in, next_in, nodes_in, parent_in}
use Rattle.h5_tree.specs.BlockForest.{child_at, child_numbers, forest_in}
use Rattle.h5_tree_block.specs.Read.{text_of}
use Rattle.h5_tree.specs.ElementNumbers.{children_from}
use Rattle.h5_tree.proofs.OrderLaws.{ends_in, children_end, children_step, children_within, within}
use Rattle.h5_tree.proofs.SoundOrder.{IsInOrder}
use Rattle.h5_tree.proofs.NodeLaws.{Fragment, IsAny, Past, Plain, Text, any_is, children_past, children_text, kind_11}
use Rattle.h5_tree.proofs.ChildLaws.{children_plain, next_child}
use Rattle.h5_tree.proofs.DescendantLaws.{plain_children, plain_ones}

-- the first child isn't a text
abbrev IsNodeFirst : List Child → Type 0
IsNodeFirst [] = Unit {0}
IsNodeFirst (ChildNode n ∷ cs) = Unit {0}
IsNodeFirst (ChildText t ∷ cs) = ⊥

text_first : (t : List ℕ) (cs : List Child) → t ≢ [] → IsNodeFirst cs → AreParted cs → AreParted (ChildText t ∷ cs)
text_first t [] some first h = some
text_first t (ChildNode n ∷ cs) some first h = (some, h)
text_first t (ChildText u ∷ cs) some first h = absurd first

module _ (b : List ℕ) (h : IsInOrder b) (some_text : (n : ℕ) → n < nodes_in b → kind_in b n ≡ 3 → text_of b n ≢ [])
    (no_two : (n : ℕ) → n < nodes_in b → kind_in b n ≡ 3 → kind_in b (next_in b n) ≢ 3) where
  abbrev N : ℕ
  N = nodes_in b

  abbrev up : ℕ → ℕ
  up = parent_in b

  abbrev end : ℕ → ℕ
  end = end_in b

  abbrev row : (p x : ℕ) → List Child
  row p x = map (child_at b) (plain_ones b h (children_from b p x (end p - x)))

  abbrev Place : (p x : ℕ) → Type 0
  Place p x = (x ≡ end p) ⊎ ((up x ≡ p) × (x < end p))

  row_end : (p x : ℕ) → x ≡ end p → row p x ≡ []
  row_end p x e = ap (row p) e ∙ ap (λ l. map (child_at b) (plain_ones b h l)) (children_end N up end h.order p)

  row_step : (p x : ℕ) → p < N → x < N → up x ≡ p → row p x ≡ map (child_at b) (cond (not (kind_in b x == 11)) (x ∷ plain_ones b h (children_from b p (end x) (end p - end x))) (plain_ones b h (children_from b p (end x) (end p - end x))))
  row_step p x lt some e = ap (λ l. map (child_at b) (plain_ones b h l)) (children_step N up end h.order p x lt some e)

  -- a text isn't followed by a text
  row_behind : (p x : ℕ) → p < N → x < N → p < x → up x ≡ p → kind_in b x ≡ 3 → Place p (end x) → IsNodeFirst (row p (end x))
  row_behind p x lt some low e k (inl ends) = subst IsNodeFirst (sym (row_end p (end x) ends)) tt
  row_behind p x lt some low e k (inr is) =
      let all = within N up end h.order p lt in
      let behind = h.order.behind x some in
      let y = end x in
      let there : y < N = omega (arith, is) in
      let next : next_in b x ≡ y = elim (next_child b h p x e (omega (arith, low)) some) [ inl goes ↦ goes.0 | inr last ↦ absurd (omega (arith, last.1, is)) ] in
      let node : kind_in b y ≢ 3 = λ g. no_two x some k (ap (kind_in b) next ∙ g) in
      let plain : kind_in b y ≢ 11 = λ g. elim (h.kinds.other y (omega arith) there) [
        | inl m ↦ omega (arith, m, g)
        | inr more ↦ elim more [
          | inl it ↦ let s = ap (λ z. z + 1) is.0 in omega (arith, it.2, s, low)
          | inr leaf ↦ elim leaf.0 [ inl m ↦ omega (arith, m, g) | inr m7 ↦ elim m7 [ inl m ↦ omega (arith, m, g) | inr m8 ↦ elim m8 [ inl m ↦ omega (arith, m, g) | inr m ↦ omega (arith, m, g) ] ] ]
        ]
      ] in
      let left = plain_ones b h (children_from b p (end y) (end p - end y)) in
      subst IsNodeFirst
      (sym (row_step p y lt there is.0
      ∙ ap (λ t. map (child_at b) (cond (not t) (y ∷ left) left)) (ne_eqb (kind_in b y) 11 plain)
      ∙ ap (λ c. c ∷ map (child_at b) left) (cond-false (kind_in b y == 3) (ChildText (text_of b y)) (ChildNode y) (ne_eqb (kind_in b y) 3 node))))
      tt

  row_parted : (p : ℕ) → p < N → (levels x : ℕ) → end p - x ≤ levels → p < x → Place p x → AreParted (row p x)
  row_parted p lt levels x le low (inl ends) = subst AreParted (sym (row_end p x ends)) tt
  row_parted p lt zero x le low (inr is) = absurd (omega (arith, le, is))
  row_parted p lt (suc levels) x le low (inr is) =
      let all = within N up end h.order p lt in
      let some : x < N = omega (arith, is) in
      let behind = h.order.behind x some in
      let inner = ends_in N up end h.order p x lt low is.1 in
      let next : Place p (end x) = elim (eq-or-lt_of_le inner) [
        | inl ends ↦ inl ends
        | inr before ↦ let same = ap end is.0 in inr (h.order.goes_on x (omega (arith, low)) some (omega (arith, before)) ∙ is.0, before)
      ] in
      let rest = row_parted p lt levels (end x) (omega (arith, le)) (omega (arith, low)) next in
      let left = plain_ones b h (children_from b p (end x) (end p - end x)) in
      subst AreParted (sym (row_step p x lt some is.0)) (elim (cases_eq (kind_in b x) 11) [
        | inl e ↦ subst (λ t. AreParted (map (child_at b) (cond (not t) (x ∷ left) left))) (sym (eq-eqb (kind_in b x) 11 e)) rest
        | inr plain ↦ subst (λ t. AreParted (map (child_at b) (cond (not t) (x ∷ left) left))) (sym (ne_eqb (kind_in b x) 11 plain)) (elim (cases_eq (kind_in b x) 3) [
          | inl e ↦ subst (λ c. AreParted (c ∷ map (child_at b) left)) (sym (cond-true (kind_in b x == 3) (ChildText (text_of b x)) (ChildNode x) (eq-eqb (kind_in b x) 3 e)))
              (text_first (text_of b x) (map (child_at b) left) (some_text x some e) (row_behind p x lt some low is.0 e next) rest)
          | inr node ↦ subst (λ c. AreParted (c ∷ map (child_at b) left)) (sym (cond-false (kind_in b x == 3) (ChildText (text_of b x)) (ChildNode x) (ne_eqb (kind_in b x) 3 node))) rest
        ])
      ])

  list_parted : (p : ℕ) → p < N → AreParted (map (child_at b) (child_numbers b p))
  list_parted p lt = elim (cases_lt (p + 1) (end p)) [
    | inl room ↦
        subst AreParted (sym (ap (map (child_at b)) (plain_children b h p 0 N ∙ ap (plain_ones b h) (children_within N up end h.order p lt))))
        (row_parted p lt (end p - (p + 1)) (p + 1) (omega arith) (omega arith) (inr (h.order.begins p lt room, room)))
    | inr none ↦
        let behind = h.order.behind p lt in
        let place : p + 1 ≡ end p = omega arith in
        subst AreParted (sym (ap (map (child_at b)) (plain_children b h p 0 N ∙ ap (plain_ones b h) (children_within N up end h.order p lt))))
        (row_parted p lt (end p - (p + 1)) (p + 1) (omega arith) (omega arith) (inl place))
  ]

  pub children_parted : (p : ℕ) → AreParted (children_of (forest_in b) p)
  children_parted p = at (any_is b h p)
    where
      at : IsAny b p → AreParted (children_of (forest_in b) p)
      at (Past past) = subst AreParted (sym (children_past b p past)) tt
      at (Text some k) = subst AreParted (sym (children_text b p k)) tt
      at (Fragment some k) = subst AreParted (sym (children_plain b h p FragmentNode (kind_11 b p k))) (list_parted p some)
      at (Plain some k3 k11 is) = subst AreParted (sym (children_plain b h p is.kind is.is)) (list_parted p some)
