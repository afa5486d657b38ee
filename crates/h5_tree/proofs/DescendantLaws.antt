-- The elements below a node of a sound block: those up to its end, except those in the contents of templates.
use Rattle.std.proofs.Common.{◌≡◌, ◌≢◌, ◌∙◌, ◌⊎◌, ℕ, zero, suc, ◌+◌, ◌-◌, ◌<◌, ◌≤◌, Bool, true, false, ◌&&◌, cond, List, [], ◌∷◌, ◌++◌, map, ap, arith, inl, inr, refl, sym}
use Rattle.std.specs.Prelude.{◌==◌, nat_lt, not}
use Rattle.std.specs.List.{filter, flat_map}
use Rattle.std.proofs.Math.Nat.{eq-or-lt_of_le}
use Rattle.std.proofs.lemmas.Bool.{cases_eq, cases_lt, cond-false, cond-true, eq-eqb, le-ltb, lt-ltb, ne_eqb}
use Rattle.std.proofs.lemmas.List.Elements.{filter-append}
use Rattle.h5_interface.specs.Forest.{Child, ChildNode, ChildText, FragmentNode, children_of, nodes}
use Rattle.h5_interface.proofs.ChildLaws.{nodes-append}
use Rattle.h5_arena.specs.Kin.{with_below}
use Rattle.h5_tree.specs.Elements as w
use Rattle.h5_tree.specs.Elements.{elements, is_element}
use Rattle.h5_tree_block.specs.Block.{end_in, kind_in, nodes_in, parent_in}
use Rattle.h5_tree.specs.BlockForest.{child_at, child_numbers, forest_in, is_child_of}
use Rattle.h5_tree_block.specs.Read.{text_of}
use Rattle.h5_tree.proofs.OrderLaws.{ends_in, children_end, children_step, children_within, none_below, passing, within}
use Rattle.h5_tree.proofs.SoundOrder.{IsInOrder}
use Rattle.h5_tree.proofs.NodeLaws.{Fragment, IsAny, Past, Plain, Text, any_is, children_past, children_text, element_is, end_of_text, kind_11}
use Rattle.h5_tree.specs.ElementNumbers.{children_from, elements_in_steps, elements_between}
use Rattle.h5_tree.proofs.ChildLaws.{children_plain}
use Rattle.h5_tree.proofs.SiblingLaws.{children_list}

module _ (b : List ℕ) where
  steps_end : (k x to : ℕ) → to ≤ x → elements_in_steps b k x to ≡ []
  unfolding elements_in_steps
  steps_end zero x to le = refl
  steps_end (suc k) x to le = cond-false (nat_lt x to) (cond (kind_in b x == 11) (elements_in_steps b k (end_in b x) to) (cond (kind_in b x == 1) (x ∷ elements_in_steps b k (x + 1) to) (elements_in_steps b k (x + 1) to))) [] (le-ltb x to le)

  steps_one : (k x to : ℕ) → x < to → elements_in_steps b (suc k) x to ≡ cond (kind_in b x == 11) (elements_in_steps b k (end_in b x) to) (cond (kind_in b x == 1) (x ∷ elements_in_steps b k (x + 1) to) (elements_in_steps b k (x + 1) to))
  unfolding elements_in_steps
  steps_one k x to lt = cond-true (nat_lt x to) (cond (kind_in b x == 11) (elements_in_steps b k (end_in b x) to) (cond (kind_in b x == 1) (x ∷ elements_in_steps b k (x + 1) to) (elements_in_steps b k (x + 1) to))) [] (lt-ltb x to lt)

  module _ (h : IsInOrder b) where
    abbrev N : ℕ
    N = nodes_in b

    abbrev up : ℕ → ℕ
    up = parent_in b

    abbrev end : ℕ → ℕ
    end = end_in b

    -- more steps than there are numbers change nothing
    steps_settled : (k j x to : ℕ) → to ≤ N → to - x ≤ k → to - x ≤ j → elements_in_steps b k x to ≡ elements_in_steps b j x to
    steps_settled zero j x to in_it le le' = steps_end zero x to (omega (arith, le)) ∙ sym (steps_end j x to (omega (arith, le)))
    steps_settled (suc k) zero x to in_it le le' = steps_end (suc k) x to (omega (arith, le')) ∙ sym (steps_end zero x to (omega (arith, le')))
    steps_settled (suc k) (suc j) x to in_it le le' = elim (cases_lt x to) [
      | inr past ↦ steps_end (suc k) x to past ∙ sym (steps_end (suc j) x to past)
      | inl lt ↦
          let behind = h.order.behind x (omega (arith, lt, in_it)) in
          steps_one k x to lt
          ∙ ap (λ l. cond (kind_in b x == 11) l (cond (kind_in b x == 1) (x ∷ elements_in_steps b k (x + 1) to) (elements_in_steps b k (x + 1) to))) (steps_settled k j (end x) to in_it (omega (arith, le, lt)) (omega (arith, le', lt)))
          ∙ ap (λ l. cond (kind_in b x == 11) (elements_in_steps b j (end x) to) (cond (kind_in b x == 1) (x ∷ l) l)) (steps_settled k j (x + 1) to in_it (omega (arith, le, lt)) (omega (arith, le', lt)))
          ∙ sym (steps_one j x to lt)
    ]

    -- a single step
    pub between_end : (x to : ℕ) → to ≤ x → elements_between b x to ≡ []
    between_end x to le = steps_end (to - x) x to le

    between_step : (x to : ℕ) → x < to → to ≤ N → elements_between b x to ≡ cond (kind_in b x == 11) (elements_between b (end x) to) (cond (kind_in b x == 1) (x ∷ elements_between b (x + 1) to) (elements_between b (x + 1) to))
    between_step x to lt in_it =
        let behind = h.order.behind x (omega (arith, lt, in_it)) in
        let more : to - x ≡ suc (to - (x + 1)) = omega (arith, lt) in
        ap (λ k. elements_in_steps b k x to) more ∙ steps_one (to - (x + 1)) x to lt
        ∙ ap (λ l. cond (kind_in b x == 11) l (cond (kind_in b x == 1) (x ∷ elements_in_steps b (to - (x + 1)) (x + 1) to) (elements_in_steps b (to - (x + 1)) (x + 1) to))) (steps_settled (to - (x + 1)) (to - end x) (end x) to in_it (omega arith) (omega arith))

    pub between_fragment : (x to : ℕ) → x < to → to ≤ N → kind_in b x ≡ 11 → elements_between b x to ≡ elements_between b (end x) to
    between_fragment x to lt in_it e =
        between_step x to lt in_it ∙ cond-true (kind_in b x == 11) (elements_between b (end x) to) (cond (kind_in b x == 1) (x ∷ elements_between b (x + 1) to) (elements_between b (x + 1) to)) (eq-eqb (kind_in b x) 11 e)

    pub between_other : (x to : ℕ) → x < to → to ≤ N → kind_in b x ≢ 11 → elements_between b x to ≡ cond (kind_in b x == 1) (x ∷ elements_between b (x + 1) to) (elements_between b (x + 1) to)
    between_other x to lt in_it other =
        between_step x to lt in_it ∙ cond-false (kind_in b x == 11) (elements_between b (end x) to) (cond (kind_in b x == 1) (x ∷ elements_between b (x + 1) to) (elements_between b (x + 1) to)) (ne_eqb (kind_in b x) 11 other)

    cond_joined : (t : Bool) (x : ℕ) (xs ys : List ℕ) → cond t (x ∷ (xs ++ ys)) (xs ++ ys) ≡ cond t (x ∷ xs) xs ++ ys
    cond_joined true x xs ys = refl
    cond_joined false x xs ys = refl

    -- in two parts, if each number of the first part ends within it
    between_split : (levels x m to : ℕ) → m - x ≤ levels → x ≤ m → m ≤ to → to ≤ N → ((c : ℕ) → x ≤ c → c < m → end c ≤ m) → elements_between b x to ≡ elements_between b x m ++ elements_between b m to
    between_split zero x m to le low high in_it ends =
        let same : x ≡ m = omega (arith, le) in
        ap (λ y. elements_between b y to) same ∙ sym (ap (λ l. l ++ elements_between b m to) (between_end x m (omega (arith, le))))
    between_split (suc levels) x m to le low high in_it ends = elim (eq-or-lt_of_le low) [
      | inl same ↦ ap (λ y. elements_between b y to) same ∙ sym (ap (λ l. l ++ elements_between b m to) (between_end x m (omega (arith, same))))
      | inr lt ↦
          let behind = h.order.behind x (omega (arith, lt, high, in_it)) in
          elim (cases_eq (kind_in b x) 11) [
            | inl e ↦
                between_fragment x to (omega (arith, lt)) in_it e
                ∙ between_split levels (end x) m to (omega (arith, le, lt)) (ends x (omega arith) lt) high in_it (λ c low' high'. ends c (omega (arith, low')) high')
                ∙ sym (ap (λ l. l ++ elements_between b m to) (between_fragment x m lt (omega arith) e))
            | inr other ↦
                between_other x to (omega (arith, lt)) in_it other
                ∙ ap (λ l. cond (kind_in b x == 1) (x ∷ l) l) (between_split levels (x + 1) m to (omega (arith, le, lt)) (omega (arith, lt)) high in_it (λ c low' high'. ends c (omega (arith, low')) high'))
                ∙ cond_joined (kind_in b x == 1) x (elements_between b (x + 1) m) (elements_between b m to)
                ∙ sym (ap (λ l. l ++ elements_between b m to) (between_other x m lt (omega arith) other))
          ]
    ]

    -- the numbers that aren't fragments
    abbrev pub plain_ones : List ℕ → List ℕ
    plain_ones = filter (λ m. not (kind_in b m == 11))

    plain_one : (x : ℕ) (xs ys : List ℕ) (t : Bool) → xs ≡ plain_ones ys → cond (t && not (kind_in b x == 11)) (x ∷ xs) xs ≡ plain_ones (cond t (x ∷ ys) ys)
    plain_one x xs ys true e = ap (λ l. cond (not (kind_in b x == 11)) (x ∷ l) l) e
    plain_one x xs ys false e = e

    pub plain_children : (p a c : ℕ) → passing (is_child_of b p) a c ≡ plain_ones (children_from b p a c)
    plain_children p a zero = refl
    plain_children p a (suc c) = plain_one a (passing (is_child_of b p) (a + 1) c) (children_from b p (a + 1) c) (up a == p) (plain_children p (a + 1) c)

    -- the elements among children and below them, down to this number of levels
    abbrev spread : (levels : ℕ) → List Child → List ℕ
    spread levels cs = elements (forest_in b) (nodes (flat_map (with_below levels (forest_in b)) cs))

    abbrev pub descend : (levels p : ℕ) → List ℕ
    descend levels p = spread levels (children_of (forest_in b) p)

    spread_more : (levels : ℕ) (c : Child) (cs : List Child) → spread levels (c ∷ cs) ≡ elements (forest_in b) (nodes (with_below levels (forest_in b) c)) ++ spread levels cs
    spread_more levels c cs =
        ap (elements (forest_in b)) (nodes-append (with_below levels (forest_in b) c) (flat_map (with_below levels (forest_in b)) cs))
        ∙ filter-append (is_element (forest_in b)) (nodes (with_below levels (forest_in b) c)) (nodes (flat_map (with_below levels (forest_in b)) cs))

    pub no_children : (p : ℕ) → p < N → end p ≤ p + 1 → children_of (forest_in b) p ≡ []
    no_children p lt le = at (any_is b h p)
      where
        none : map (child_at b) (child_numbers b p) ≡ []
        none = ap (map (child_at b)) (plain_children p 0 N ∙ ap plain_ones (none_below N up end h.order p lt le))

        at : IsAny b p → children_of (forest_in b) p ≡ []
        at (Past past) = absurd (omega (arith, past, lt))
        at (Text some k) = children_text b p k
        at (Fragment some k) = children_plain b h p FragmentNode (kind_11 b p k) ∙ none
        at (Plain some k3 k11 is) = children_plain b h p is.kind is.is ∙ none

    descend_none : (levels p : ℕ) → p < N → end p ≤ p + 1 → descend levels p ≡ elements_between b (p + 1) (end p)
    descend_none levels p lt le = ap (spread levels) (no_children p lt le) ∙ sym (between_end (p + 1) (end p) le)

    text_alone : (k : ℕ) (t : List ℕ) → with_below (suc k) (forest_in b) (ChildText t) ≡ ChildText t ∷ []
    unfolding with_below
    text_alone k t = refl

    node_first : (k n : ℕ) → with_below (suc k) (forest_in b) (ChildNode n) ≡ ChildNode n ∷ flat_map (with_below k (forest_in b)) (children_of (forest_in b) n)
    unfolding with_below
    node_first k n = refl

    abbrev Descends : (levels p : ℕ) → Type 0
    Descends levels p = descend levels p ≡ elements_between b (p + 1) (end p)

    one_spread : (k x : ℕ) → x < N → Descends k x → elements (forest_in b) (nodes (with_below (suc k) (forest_in b) (child_at b x))) ≡ cond (kind_in b x == 1) (x ∷ elements_between b (x + 1) (end x)) (elements_between b (x + 1) (end x))
    one_spread k x lt d = elim (cases_eq (kind_in b x) 3) [
      | inl e ↦
          let leaf = end_of_text b h x lt e in
          ap (λ c. elements (forest_in b) (nodes (with_below (suc k) (forest_in b) c))) (cond-true (kind_in b x == 3) (ChildText (text_of b x)) (ChildNode x) (eq-eqb (kind_in b x) 3 e))
          ∙ ap (λ l. elements (forest_in b) (nodes l)) (text_alone k (text_of b x))
          ∙ sym (cond-false (kind_in b x == 1) (x ∷ elements_between b (x + 1) (end x)) (elements_between b (x + 1) (end x)) (ne_eqb (kind_in b x) 1 (λ v. omega (arith, e, v))) ∙ between_end (x + 1) (end x) (omega arith))
      | inr node ↦
          ap (λ c. elements (forest_in b) (nodes (with_below (suc k) (forest_in b) c))) (cond-false (kind_in b x == 3) (ChildText (text_of b x)) (ChildNode x) (ne_eqb (kind_in b x) 3 node))
          ∙ ap (λ l. elements (forest_in b) (nodes l)) (node_first k x)
          ∙ ap (λ t. cond t (x ∷ descend k x) (descend k x)) (element_is b x)
          ∙ ap (λ l. cond (kind_in b x == 1) (x ∷ l) l) d
    ]

    -- from a child on, up to its parent's end
    spread_from : (k p : ℕ) → p < N → ((c : ℕ) → p < c → c < N → Descends k c) → (levels x : ℕ) → end p - x ≤ levels → p < x → (x ≡ end p) ⊎ ((up x ≡ p) × (x < end p))
        → spread (suc k) (map (child_at b) (plain_ones (children_from b p x (end p - x)))) ≡ elements_between b x (end p)
    spread_from k p lt each levels x le low (inl same) =
        ap (λ y. spread (suc k) (map (child_at b) (plain_ones (children_from b p y (end p - y))))) same
        ∙ ap (λ l. spread (suc k) (map (child_at b) (plain_ones l))) (children_end N up end h.order p)
        ∙ sym (between_end x (end p) (omega (arith, same)))
    spread_from k p lt each zero x le low (inr is) = absurd (omega (arith, le, is))
    spread_from k p lt each (suc levels) x le low (inr is) =
        let all = within N up end h.order p lt in
        let some : x < N = omega (arith, is) in
        let behind = h.order.behind x some in
        let inner = ends_in N up end h.order p x lt low is.1 in
        let next : (end x ≡ end p) ⊎ ((up (end x) ≡ p) × (end x < end p)) = elim (eq-or-lt_of_le inner) [
          | inl ends ↦ inl ends
          | inr before ↦ let same = ap end is.0 in inr (h.order.goes_on x (omega (arith, low)) some (omega (arith, before)) ∙ is.0, before)
        ] in
        let rest = spread_from k p lt each levels (end x) (omega (arith, le)) (omega (arith, low)) next in
        let left = plain_ones (children_from b p (end x) (end p - end x)) in
        ap (λ l. spread (suc k) (map (child_at b) (plain_ones l))) (children_step N up end h.order p x lt some is.0)
        ∙ elim (cases_eq (kind_in b x) 11) [
          | inl e ↦
              ap (λ t. spread (suc k) (map (child_at b) (cond (not t) (x ∷ left) left))) (eq-eqb (kind_in b x) 11 e)
              ∙ rest ∙ sym (between_fragment x (end p) is.1 all e)
          | inr other ↦
              let one = elements_between b (x + 1) (end x) in
              let two = elements_between b (end x) (end p) in
              ap (λ t. spread (suc k) (map (child_at b) (cond (not t) (x ∷ left) left))) (ne_eqb (kind_in b x) 11 other)
              ∙ spread_more (suc k) (child_at b x) (map (child_at b) left)
              ∙ ap (λ l. l ++ spread (suc k) (map (child_at b) left)) (one_spread k x some (each x low some))
              ∙ ap (λ l. cond (kind_in b x == 1) (x ∷ one) one ++ l) rest
              ∙ sym (cond_joined (kind_in b x == 1) x one two)
              ∙ ap (λ l. cond (kind_in b x == 1) (x ∷ l) l) (sym (between_split (end x - (x + 1)) (x + 1) (end x) (end p) (omega arith) (omega arith) inner all (λ c low' high'. ends_in N up end h.order x c some (omega (arith, low')) high')))
              ∙ sym (between_other x (end p) is.1 all other)
        ]

    descends : (levels p : ℕ) → p < N → N ≤ levels + (p + 1) → Descends levels p
    descends zero p lt room = descend_none zero p lt (let all = within N up end h.order p lt in omega arith)
    descends (suc k) p lt room = elim (cases_lt (p + 1) (end p)) [
      | inr none ↦ descend_none (suc k) p lt none
      | inl some ↦
          let begins = h.order.begins p lt some in
          ap (spread (suc k)) (children_list b h p lt some ∙ ap (map (child_at b)) (plain_children p 0 N ∙ ap plain_ones (children_within N up end h.order p lt)))
          ∙ spread_from k p lt (λ c low in_it. descends k c in_it (omega (arith, low, room))) (end p - (p + 1)) (p + 1) (omega arith) (omega arith) (inr (begins, some))
    ]

    -- the elements below a node are those from the next number up to its end, except those in contents
    pub below_are : (p : ℕ) → p < N → w.below (forest_in b) p ≡ elements_between b (p + 1) (end p)
    below_are p lt = descends N p lt (omega arith)

    pub below_none : (p : ℕ) → N ≤ p → w.below (forest_in b) p ≡ []
    below_none p past = ap (spread N) (children_past b p past)
