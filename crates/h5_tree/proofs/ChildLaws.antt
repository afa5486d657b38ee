-- The first child and the next siblings of a node of a sound block are its children in the forest.
use Rattle.std.proofs.Common.{◌≡◌, ◌≢◌, ◌∙◌, ◌⊎◌, ℕ, zero, suc, ◌+◌, ◌-◌, ◌<◌, ◌≤◌, Bool, true, false, ◌&&◌, ◌||◌, cond, List, [], ◌∷◌, map, ap, arith, inl, inr, refl, sym}
use Rattle.std.specs.Prelude.{◌==◌, Some, nat_lt, not}
use Rattle.std.specs.Option.{option_map_or}
use Rattle.std.proofs.Math.Nat.{eq-or-lt_of_le}
use Rattle.std.proofs.lemmas.Bool.{cases_eq, cases_lt, cond-false, cond-true, eq-eqb, eqb-true, le-ltb, lt-ltb, ne_eqb, or_from}
use Rattle.h5_interface.specs.Forest.{Child, ChildNode, ChildText, FragmentNode, Kind, Node, children_of}
use Rattle.h5_tree.specs.Elements as w
use Rattle.h5_tree.specs.Elements.{elements_among, is_bare}
use Rattle.h5_tree_block.specs.Block.{end_in, first_child_in, kind_in, next_in, nodes_in, nothing, parent_in}
use Rattle.h5_tree.specs.BlockForest.{child_at, child_numbers, forest_in, is_child_of, kind_at, node_of_some}
use Rattle.h5_tree_block.specs.Read.{text_of}
use Rattle.h5_tree.specs.ElementNumbers.{IsChildOrNone, is_bare_in, elements_in, children_from, elements_from, is_bare_from}
use Rattle.h5_tree.proofs.OrderLaws.{ends_in, children_end, children_step, children_within, none_below, passing, within, within_its_end}
use Rattle.h5_tree.proofs.SoundOrder.{IsInOrder}
use Rattle.h5_tree.proofs.NodeLaws.{Fragment, IsAny, Past, Plain, Text, any_is, children_past, children_text, element_is, end_of_text, kind_11, no_kind_3}

module _ (b : List ℕ) where
  pub among : (xs : List ℕ) → elements_among (forest_in b) (map (child_at b) xs) ≡ elements_in b xs
  among [] = refl
  among (x ∷ xs) = elim (cases_eq (kind_in b x) 3) [
    | inl e ↦
        ap (λ c. elements_among (forest_in b) (c ∷ map (child_at b) xs)) (cond-true (kind_in b x == 3) (ChildText (text_of b x)) (ChildNode x) (eq-eqb (kind_in b x) 3 e))
        ∙ among xs
        ∙ sym (cond-false (kind_in b x == 1) (x ∷ elements_in b xs) (elements_in b xs) (ne_eqb (kind_in b x) 1 (λ v. omega (arith, e, v))))
    | inr other ↦
        ap (λ c. elements_among (forest_in b) (c ∷ map (child_at b) xs)) (cond-false (kind_in b x == 3) (ChildText (text_of b x)) (ChildNode x) (ne_eqb (kind_in b x) 3 other))
        ∙ ap (λ t. cond t (x ∷ elements_among (forest_in b) (map (child_at b) xs)) (elements_among (forest_in b) (map (child_at b) xs))) (element_is b x)
        ∙ ap (λ l. cond (kind_in b x == 1) (x ∷ l) l) (among xs)
  ]

  -- a fragment isn't an element, so the elements are the same with and without it
  same_elements : (x : ℕ) (xs ys : List ℕ) (t k : Bool) → (k ≡ true → (kind_in b x == 1) ≡ false) → elements_in b xs ≡ elements_in b ys → elements_in b (cond (t && not k) (x ∷ xs) xs) ≡ elements_in b (cond t (x ∷ ys) ys)
  same_elements x xs ys false k h e = e
  same_elements x xs ys true false h e = ap (λ l. cond (kind_in b x == 1) (x ∷ l) l) e
  same_elements x xs ys true true h e = e ∙ sym (cond-false (kind_in b x == 1) (x ∷ elements_in b ys) (elements_in b ys) (h refl))

  pub elements_of_children : (p a c : ℕ) → elements_in b (passing (is_child_of b p) a c) ≡ elements_in b (children_from b p a c)
  elements_of_children p a zero = refl
  elements_of_children p a (suc c) =
      same_elements a (passing (is_child_of b p) (a + 1) c) (children_from b p (a + 1) c) (parent_in b a == p) (kind_in b a == 11)
      (λ v. let k = eqb-true (kind_in b a) 11 v in ne_eqb (kind_in b a) 1 (λ v. omega (arith, k, v))) (elements_of_children p (a + 1) c)

  elements_from_some : (p at : ℕ) → at < nodes_in b → nodes_in b < 4294967296 → elements_from b p at ≡ elements_in b (children_from b p at (end_in b p - at))
  elements_from_some p at lt small = cond-false (at == nothing) [] (elements_in b (children_from b p at (end_in b p - at))) (ne_eqb at nothing (λ e. omega arith))

  pub elements_from_nothing : (p at : ℕ) → at ≡ nothing → elements_from b p at ≡ []
  elements_from_nothing p at e = cond-true (at == nothing) [] (elements_in b (children_from b p at (end_in b p - at))) (eq-eqb at nothing e)

  pub first_is : (p : ℕ) → p < nodes_in b → p + 1 < end_in b p → first_child_in b p ≡ p + 1
  first_is p lt room =
      ap (λ t. cond (t && nat_lt (p + 1) (end_in b p)) (p + 1) nothing) (lt-ltb p (nodes_in b) lt)
      ∙ ap (λ t. cond t (p + 1) nothing) (lt-ltb (p + 1) (end_in b p) room)

  pub first_none : (p : ℕ) → p < nodes_in b → end_in b p ≤ p + 1 → first_child_in b p ≡ nothing
  first_none p lt le =
      ap (λ t. cond (t && nat_lt (p + 1) (end_in b p)) (p + 1) nothing) (lt-ltb p (nodes_in b) lt)
      ∙ ap (λ t. cond t (p + 1) nothing) (le-ltb (p + 1) (end_in b p) le)

  pub first_past : (p : ℕ) → nodes_in b ≤ p → first_child_in b p ≡ nothing
  first_past p past = ap (λ t. cond (t && nat_lt (p + 1) (end_in b p)) (p + 1) nothing) (le-ltb p (nodes_in b) past)

  next_some : (n : ℕ) → end_in b n < nodes_in b → parent_in b (end_in b n) ≡ parent_in b n → next_in b n ≡ end_in b n
  next_some n lt same =
      ap (λ t. cond (t && (parent_in b (end_in b n) == parent_in b n)) (end_in b n) nothing) (lt-ltb (end_in b n) (nodes_in b) lt)
      ∙ ap (λ t. cond t (end_in b n) nothing) (eq-eqb (parent_in b (end_in b n)) (parent_in b n) same)

  next_past : (n : ℕ) → nodes_in b ≤ end_in b n → next_in b n ≡ nothing
  next_past n past = ap (λ t. cond (t && (parent_in b (end_in b n) == parent_in b n)) (end_in b n) nothing) (le-ltb (end_in b n) (nodes_in b) past)

  next_other : (n : ℕ) → end_in b n < nodes_in b → parent_in b (end_in b n) ≢ parent_in b n → next_in b n ≡ nothing
  next_other n lt other =
      ap (λ t. cond (t && (parent_in b (end_in b n) == parent_in b n)) (end_in b n) nothing) (lt-ltb (end_in b n) (nodes_in b) lt)
      ∙ ap (λ t. cond t (end_in b n) nothing) (ne_eqb (parent_in b (end_in b n)) (parent_in b n) other)

  module _ (h : IsInOrder b) where
    abbrev N : ℕ
    N = nodes_in b

    abbrev up : ℕ → ℕ
    up = parent_in b

    abbrev end : ℕ → ℕ
    end = end_in b

    -- a child comes after its parent, and before its parent's end
    pub place_of_child : (p at : ℕ) → up at ≡ p → 0 < at → at < N → (p < at) × (at < end p) × (p < N)
    place_of_child p at e after lt =
        let smaller = h.order.above at after lt in
        let place = within_its_end N up end h.order p at (omega arith) lt e in
        (place.0, place.1, omega arith)

    -- the next sibling is the end of a node, or the parent ends there as well
    pub next_child : (p at : ℕ) → up at ≡ p → 0 < at → at < N → ((next_in b at ≡ end at) × (end at < end p)) ⊎ ((next_in b at ≡ nothing) × (end at ≡ end p))
    next_child p at e after lt =
        let place = place_of_child p at e after lt in
        let inner = ends_in N up end h.order p at place.2 place.0 place.1 in
        let all = within N up end h.order p place.2 in
        let same = ap end e in
        elim (eq-or-lt_of_le inner) [
          | inr before ↦
              let goes = h.order.goes_on at after lt (omega arith) in
              inl (next_some at (omega arith) goes, before)
          | inl ends ↦ elim (cases_lt (end at) N) [
            | inr past ↦ inr (next_past at past, ends)
            | inl some ↦ inr (next_other at some (λ g. let w = within_its_end N up end h.order p (end at) place.2 some (g ∙ e) in omega (arith, w)), ends)
          ]
        ]

    pub first_is_child : (p : ℕ) → IsChildOrNone b p (first_child_in b p)
    first_is_child p = elim (cases_lt p N) [
      | inr past ↦ inl (first_past p past)
      | inl lt ↦ elim (cases_lt (p + 1) (end p)) [
        | inr none ↦ inl (first_none p lt none)
        | inl room ↦
            let all = within N up end h.order p lt in
            let first = first_is p lt room in
            inr (ap up first ∙ h.order.begins p lt room, omega arith, omega arith)
      ]
    ]

    pub next_is_child : (p at : ℕ) → at ≢ nothing → IsChildOrNone b p at → IsChildOrNone b p (next_in b at)
    next_is_child p at some child = elim child [
      | inl is_none ↦ absurd (some is_none)
      | inr is ↦ elim (next_child p at is.0 is.1 is.2) [
        | inr last ↦ inl last.0
        | inl next ↦
            let place = place_of_child p at is.0 is.1 is.2 in
            let all = within N up end h.order p place.2 in
            let behind = h.order.behind at is.2 in
            let same = ap end is.0 in
            let goes = h.order.goes_on at is.1 is.2 (omega (arith, next.1)) in
            inr (ap up next.0 ∙ goes ∙ is.0, omega (arith, next.0), omega (arith, next.0, next.1))
      ]
    ]

    pub elements_from_next : (p at : ℕ) → up at ≡ p → 0 < at → at < N → elements_from b p (next_in b at) ≡ elements_in b (children_from b p (end at) (end p - end at))
    elements_from_next p at e after lt =
        let place = place_of_child p at e after lt in
        let all = within N up end h.order p place.2 in
        elim (next_child p at e after lt) [
          | inr last ↦ elements_from_nothing p (next_in b at) last.0 ∙ sym (ap (elements_in b) (ap (λ x. children_from b p x (end p - x)) last.1 ∙ children_end N up end h.order p))
          | inl next ↦ ap (elements_from b p) next.0 ∙ elements_from_some p (end at) (omega (arith, next.1)) h.small
        ]

    pub elements_from_step : (p at : ℕ) → at ≢ nothing → IsChildOrNone b p at → elements_from b p at ≡ cond (kind_in b at == 1) (at ∷ elements_from b p (next_in b at)) (elements_from b p (next_in b at))
    elements_from_step p at some child = elim child [
      | inl is_none ↦ absurd (some is_none)
      | inr is ↦
          let place = place_of_child p at is.0 is.1 is.2 in
          elements_from_some p at is.2 h.small ∙ ap (elements_in b) (children_step N up end h.order p at place.2 is.2 is.0)
          ∙ ap (λ l. cond (kind_in b at == 1) (at ∷ l) l) (sym (elements_from_next p at is.0 is.1 is.2))
    ]

    -- the child elements of a node, from its first child on
    pub elements_from_first : (p : ℕ) → p < N → elements_from b p (first_child_in b p) ≡ elements_in b (child_numbers b p)
    elements_from_first p lt = elim (cases_lt (p + 1) (end p)) [
      | inr none ↦
          elements_from_nothing p (first_child_in b p) (first_none p lt none)
          ∙ sym (elements_of_children p 0 N ∙ ap (elements_in b) (none_below N up end h.order p lt none))
      | inl room ↦
          let all = within N up end h.order p lt in
          ap (elements_from b p) (first_is p lt room) ∙ elements_from_some p (p + 1) (omega arith) h.small
          ∙ sym (elements_of_children p 0 N ∙ ap (elements_in b) (children_within N up end h.order p lt))
    ]

    pub children_plain : (p : ℕ) (k : Kind) → kind_at b p ≡ Some k → children_of (forest_in b) p ≡ map (child_at b) (child_numbers b p)
    children_plain p k e = ap (λ o. option_map_or {U = List Child} (λ (d : Node). d.children) (node_of_some b p o) []) e

    pub children_are : (p : ℕ) → p < N → w.child_elements (forest_in b) p ≡ elements_in b (child_numbers b p)
    children_are p lt = at (any_is b h p)
      where
        at : IsAny b p → w.child_elements (forest_in b) p ≡ elements_in b (child_numbers b p)
        at (Past past) = absurd (omega (arith, past, lt))
        at (Text some k) =
            ap (λ o. elements_among (forest_in b) (option_map_or {U = List Child} (λ (d : Node). d.children) (node_of_some b p o) [])) (no_kind_3 b p k)
            ∙ sym (elements_of_children p 0 N ∙ ap (elements_in b) (none_below N up end h.order p lt (let e = end_of_text b h p lt k in omega arith)))
        at (Fragment some k) = ap (elements_among (forest_in b)) (children_plain p FragmentNode (kind_11 b p k)) ∙ among (child_numbers b p)
        at (Plain some k3 k11 is) = ap (elements_among (forest_in b)) (children_plain p is.kind is.is) ∙ among (child_numbers b p)

    -- the elements that the links find are the child elements in the forest
    pub child_elements_read : (p : ℕ) → elements_from b p (first_child_in b p) ≡ w.child_elements (forest_in b) p
    child_elements_read p = elim (cases_lt p N) [
      | inl lt ↦ elements_from_first p lt ∙ sym (children_are p lt)
      | inr past ↦ elements_from_nothing p (first_child_in b p) (first_past p past) ∙ sym (ap (elements_among (forest_in b)) (children_past b p past))
    ]

    -- in the same way: is any of them an element or a text
    pub bare_from_nothing : (p at : ℕ) → at ≡ nothing → is_bare_from b p at ≡ true
    bare_from_nothing p at e = cond-true (at == nothing) true (is_bare_in b (children_from b p at (end_in b p - at))) (eq-eqb at nothing e)

    bare_from_some : (p at : ℕ) → at < N → is_bare_from b p at ≡ is_bare_in b (children_from b p at (end p - at))
    bare_from_some p at lt = let s = h.small in cond-false (at == nothing) true (is_bare_in b (children_from b p at (end_in b p - at))) (ne_eqb at nothing (λ e. omega arith))

    bare_from_next : (p at : ℕ) → up at ≡ p → 0 < at → at < N → is_bare_from b p (next_in b at) ≡ is_bare_in b (children_from b p (end at) (end p - end at))
    bare_from_next p at e after lt =
        let place = place_of_child p at e after lt in
        let all = within N up end h.order p place.2 in
        elim (next_child p at e after lt) [
          | inr last ↦ bare_from_nothing p (next_in b at) last.0 ∙ sym (ap (is_bare_in b) (ap (λ x. children_from b p x (end p - x)) last.1 ∙ children_end N up end h.order p))
          | inl next ↦ ap (is_bare_from b p) next.0 ∙ bare_from_some p (end at) (omega (arith, next.1))
        ]

    pub bare_from_step : (p at : ℕ) → at ≢ nothing → IsChildOrNone b p at → is_bare_from b p at ≡ cond (kind_in b at == 1 || kind_in b at == 3) false (is_bare_from b p (next_in b at))
    bare_from_step p at some child = elim child [
      | inl is_none ↦ absurd (some is_none)
      | inr is ↦
          let place = place_of_child p at is.0 is.1 is.2 in
          bare_from_some p at is.2 ∙ ap (is_bare_in b) (children_step N up end h.order p at place.2 is.2 is.0)
          ∙ ap (λ l. cond (kind_in b at == 1 || kind_in b at == 3) false l) (sym (bare_from_next p at is.0 is.1 is.2))
    ]

    or_no : (t : Bool) → (t || false) ≡ t
    or_no true = refl
    or_no false = refl

    or_yes : (t : Bool) → (t || true) ≡ true
    or_yes true = refl
    or_yes false = refl

    bare_among : (xs : List ℕ) → is_bare (forest_in b) (map (child_at b) xs) ≡ is_bare_in b xs
    bare_among [] = refl
    bare_among (x ∷ xs) = elim (cases_eq (kind_in b x) 3) [
      | inl e ↦
          ap (λ c. is_bare (forest_in b) (c ∷ map (child_at b) xs)) (cond-true (kind_in b x == 3) (ChildText (text_of b x)) (ChildNode x) (eq-eqb (kind_in b x) 3 e))
          ∙ sym (ap (λ t. cond (kind_in b x == 1 || t) false (is_bare_in b xs)) (eq-eqb (kind_in b x) 3 e) ∙ ap (λ t. cond t false (is_bare_in b xs)) (or_yes (kind_in b x == 1)))
      | inr other ↦
          ap (λ c. is_bare (forest_in b) (c ∷ map (child_at b) xs)) (cond-false (kind_in b x == 3) (ChildText (text_of b x)) (ChildNode x) (ne_eqb (kind_in b x) 3 other))
          ∙ ap (λ t. cond t false (is_bare (forest_in b) (map (child_at b) xs))) (element_is b x)
          ∙ ap (λ v. cond (kind_in b x == 1) false v) (bare_among xs)
          ∙ sym (ap (λ t. cond (kind_in b x == 1 || t) false (is_bare_in b xs)) (ne_eqb (kind_in b x) 3 other) ∙ ap (λ t. cond t false (is_bare_in b xs)) (or_no (kind_in b x == 1)))
    ]

    same_bare : (x : ℕ) (xs ys : List ℕ) (t k : Bool) → (k ≡ true → (kind_in b x == 1 || kind_in b x == 3) ≡ false) → is_bare_in b xs ≡ is_bare_in b ys → is_bare_in b (cond (t && not k) (x ∷ xs) xs) ≡ is_bare_in b (cond t (x ∷ ys) ys)
    same_bare x xs ys false k g e = e
    same_bare x xs ys true false g e = ap (λ v. cond (kind_in b x == 1 || kind_in b x == 3) false v) e
    same_bare x xs ys true true g e = e ∙ sym (cond-false (kind_in b x == 1 || kind_in b x == 3) false (is_bare_in b ys) (g refl))

    bare_children : (p a c : ℕ) → is_bare_in b (passing (is_child_of b p) a c) ≡ is_bare_in b (children_from b p a c)
    bare_children p a zero = refl
    bare_children p a (suc c) =
        same_bare a (passing (is_child_of b p) (a + 1) c) (children_from b p (a + 1) c) (parent_in b a == p) (kind_in b a == 11)
        (λ v. let k = eqb-true (kind_in b a) 11 v in or_from (kind_in b a == 1) (kind_in b a == 3) (ne_eqb (kind_in b a) 1 (λ g. omega (arith, k, g))) (ne_eqb (kind_in b a) 3 (λ g. omega (arith, k, g))))
        (bare_children p (a + 1) c)

    bare_all : (p : ℕ) → p < N → is_bare_from b p (first_child_in b p) ≡ is_bare_in b (child_numbers b p)
    bare_all p lt = elim (cases_lt (p + 1) (end p)) [
      | inr none ↦
          bare_from_nothing p (first_child_in b p) (first_none p lt none)
          ∙ sym (bare_children p 0 N ∙ ap (is_bare_in b) (none_below N up end h.order p lt none))
      | inl room ↦
          let all = within N up end h.order p lt in
          ap (is_bare_from b p) (first_is p lt room) ∙ bare_from_some p (p + 1) (omega arith)
          ∙ sym (bare_children p 0 N ∙ ap (is_bare_in b) (children_within N up end h.order p lt))
    ]

    -- a node is empty in the forest if the links find neither elements nor texts
    pub is_empty_read : (p : ℕ) → is_bare_from b p (first_child_in b p) ≡ w.is_empty (forest_in b) p
    is_empty_read p = at (any_is b h p)
      where
        at : IsAny b p → is_bare_from b p (first_child_in b p) ≡ w.is_empty (forest_in b) p
        at (Past past) = bare_from_nothing p (first_child_in b p) (first_past p past) ∙ sym (ap (is_bare (forest_in b)) (children_past b p past))
        at (Text some k) =
            bare_from_nothing p (first_child_in b p) (first_none p some (let e = end_of_text b h p some k in omega arith))
            ∙ sym (ap (is_bare (forest_in b)) (children_text b p k))
        at (Fragment some k) = bare_all p some ∙ sym (ap (is_bare (forest_in b)) (children_plain p FragmentNode (kind_11 b p k)) ∙ bare_among (child_numbers b p))
        at (Plain some k3 k11 is) = bare_all p some ∙ sym (ap (is_bare (forest_in b)) (children_plain p is.kind is.is) ∙ bare_among (child_numbers b p))
