-- The forest of a sound block has the shape of a forest, and is one if its root and its texts allow it.
use Rattle.std.proofs.Common.{◌≡◌, ◌≢◌, ◌∙◌, ◌⊎◌, ℕ, zero, suc, ◌+◌, ◌<◌, ◌≤◌, Bool, true, false, ◌&&◌, cond, List, [], ◌∷◌, map, ap, arith, inl, inr, refl, sym}
use Rattle.std.specs.Prelude.{◌==◌, None, Option, Some, not}
use Rattle.std.specs.List.{filter}
use Rattle.std.specs.Option.{option_and_then, option_map, option_map_or, option_to_list}
use Rattle.std.proofs.lemmas.Bool.{and_parts, and_right, cases_Bool, cases_eq, cases_lt, cond-false, cond-true, eq-eqb, eqb-true, ne_eqb}
use Rattle.h5_interface.specs.Ancestors.{Further, IsAncestor, Parent}
use Rattle.h5_interface.specs.Forest.{AreParted, ChildNode, ChildText, FragmentNode, IsForest, IsNode, Kind, Node, below, below_of, children_of, contents_of, count, is_at, kind_of, nodes, parent_of}
use Rattle.h5_interface.proofs.ChildLaws.{count-append}
use Rattle.h5_tree_block.specs.Block.{contents_in, end_in, first_child_in, kind_in, nodes_in, nothing, parent_in}
use Rattle.h5_tree.specs.BlockForest.{child_at, child_numbers, forest_in, is_child_of, kind_at, node_of_some, some_number}
use Rattle.h5_tree_block.specs.Read.{text_of}
use Rattle.h5_tree.specs.Shape.{IsShaped}
use Rattle.h5_tree.proofs.OrderLaws.{passing, within, within_its_end}
use Rattle.h5_tree.proofs.SoundOrder.{IsInOrder, kind_past, top_up}
use Rattle.h5_tree.proofs.NodeLaws.{Fragment, IsAny, Past, Plain, Text, any_is, end_of_text, kind_11, kind_9, no_kind_0, no_kind_3}
use Rattle.h5_tree.proofs.ChildLaws.{first_is, first_none, first_past}

and_true : (t : Bool) → ((t && true) && true) ≡ t
and_true true = refl
and_true false = refl

-- the number of times that a number occurs among those that pass a test
one_in : (c x : ℕ) (t : Bool) (xs : List ℕ) → c ≢ x → count c (cond t (x ∷ xs) xs) ≡ count c xs
one_in c x false xs other = refl
one_in c x true xs other = ap (λ t. cond t 1 0 + count c xs) (ne_eqb c x other) ∙ (let e : 0 + count c xs ≡ count c xs = omega arith in e)

count_outside : (q : ℕ → Bool) (c a k : ℕ) → (c < a) ⊎ (a + k ≤ c) → count c (passing q a k) ≡ 0
count_outside q c a zero out = refl
count_outside q c a (suc k) out =
    one_in c a (q a) (passing q (a + 1) k) (λ e. elim out [ inl low ↦ omega (arith, e, low) | inr high ↦ omega (arith, e, high) ])
    ∙ count_outside q c (a + 1) k (elim out [ inl low ↦ inl (omega (arith, low)) | inr high ↦ inr (omega (arith, high)) ])

count_inside : (q : ℕ → Bool) (c a k : ℕ) → a ≤ c → c < a + k → count c (passing q a k) ≡ cond (q c) 1 0
count_inside q c a zero low high = absurd (omega (arith, low, high))
count_inside q c a (suc k) low high = elim (cases_eq c a) [
  | inl same ↦ ap (λ t. count c (cond t (a ∷ passing q (a + 1) k) (passing q (a + 1) k))) (ap q (sym same)) ∙ here (q c) same
  | inr other ↦ one_in c a (q a) (passing q (a + 1) k) other ∙ count_inside q c (a + 1) k (omega (arith, low, other)) (omega (arith, high))
]
  where
    here : (t : Bool) → c ≡ a → count c (cond t (a ∷ passing q (a + 1) k) (passing q (a + 1) k)) ≡ cond t 1 0
    here false same = count_outside q c (a + 1) k (inl (omega (arith, same)))
    here true same =
        let rest = count_outside q c (a + 1) k (inl (omega (arith, same))) in
        ap (λ t. cond t 1 0 + count c (passing q (a + 1) k)) (eq-eqb c a same) ∙ (let e : 1 + count c (passing q (a + 1) k) ≡ 1 = omega (arith, rest) in e)

module _ (b : List ℕ) where
  -- the nodes among children have their own numbers
  no_text : ℕ → Bool
  no_text m = not (kind_in b m == 3)

  node_numbers : (xs : List ℕ) → nodes (map (child_at b) xs) ≡ filter (λ m. not (kind_in b m == 3)) xs
  node_numbers [] = refl
  node_numbers (x ∷ xs) = elim (cases_eq (kind_in b x) 3) [
    | inl e ↦
        ap (λ c. nodes (c ∷ map (child_at b) xs)) (cond-true (kind_in b x == 3) (ChildText (text_of b x)) (ChildNode x) (eq-eqb (kind_in b x) 3 e))
        ∙ node_numbers xs
        ∙ sym (ap (λ t. cond (not t) (x ∷ filter (λ m. not (kind_in b m == 3)) xs) (filter (λ m. not (kind_in b m == 3)) xs)) (eq-eqb (kind_in b x) 3 e))
    | inr node ↦
        ap (λ c. nodes (c ∷ map (child_at b) xs)) (cond-false (kind_in b x == 3) (ChildText (text_of b x)) (ChildNode x) (ne_eqb (kind_in b x) 3 node))
        ∙ ap (λ l. x ∷ l) (node_numbers xs)
        ∙ sym (ap (λ t. cond (not t) (x ∷ filter (λ m. not (kind_in b m == 3)) xs) (filter (λ m. not (kind_in b m == 3)) xs)) (ne_eqb (kind_in b x) 3 node))
  ]

  abbrev is_node_below : (p m : ℕ) → Bool
  is_node_below p m = is_child_of b p m && not (kind_in b m == 3)

  both_tests : (x : ℕ) (xs ys : List ℕ) (t u : Bool) → filter (λ m. not (kind_in b m == 3)) xs ≡ ys → not (kind_in b x == 3) ≡ u → filter (λ m. not (kind_in b m == 3)) (cond t (x ∷ xs) xs) ≡ cond (t && u) (x ∷ ys) ys
  both_tests x xs ys false u e f = e
  both_tests x xs ys true u e f = ap (λ v. cond v (x ∷ filter (λ m. not (kind_in b m == 3)) xs) (filter (λ m. not (kind_in b m == 3)) xs)) f ∙ ap (λ l. cond u (x ∷ l) l) e

  nodes_below : (p a k : ℕ) → filter (λ m. not (kind_in b m == 3)) (passing (is_child_of b p) a k) ≡ passing (is_node_below p) a k
  nodes_below p a zero = refl
  nodes_below p a (suc k) = both_tests a (passing (is_child_of b p) (a + 1) k) (passing (is_node_below p) (a + 1) k) (is_child_of b p a) (not (kind_in b a == 3)) (nodes_below p (a + 1) k) refl

  -- a number that isn't nothing
  some_is : (x p : ℕ) → some_number b x ≡ Some p → (x ≡ p) × (p ≢ nothing)
  some_is x p e = elim (cases_eq x nothing) [
    | inl none ↦ let w : None ≡ Some p = sym (cond-true (x == nothing) None (Some x) (eq-eqb x nothing none)) ∙ e in cc
    | inr some ↦
        let w : Some x ≡ Some p = sym (cond-false (x == nothing) None (Some x) (ne_eqb x nothing some)) ∙ e in
        let same : x ≡ p = cc in
        (same, λ g. some (same ∙ g))
  ]

  at_other : (p x : ℕ) → x ≢ p → is_at p (some_number b x) ≡ false
  at_other p x other = elim (cases_eq x nothing) [
    | inl none ↦ ap (is_at p) (cond-true (x == nothing) None (Some x) (eq-eqb x nothing none))
    | inr some ↦ ap (is_at p) (cond-false (x == nothing) None (Some x) (ne_eqb x nothing some)) ∙ ne_eqb p x (λ e. other (sym e))
  ]

  at_same : (p x : ℕ) → x ≡ p → p ≢ nothing → is_at p (some_number b x) ≡ true
  at_same p x same some = ap (is_at p) (cond-false (x == nothing) None (Some x) (ne_eqb x nothing (λ e. some (sym same ∙ e)))) ∙ eq-eqb p x (sym same)

  -- contents are the first child of an element
  abbrev has_contents : ℕ → Bool
  has_contents p = kind_in b p == 1 && kind_in b (first_child_in b p) == 11

  contents_some : (p c : ℕ) → contents_in b p ≡ c → c ≢ nothing → (kind_in b p ≡ 1) × (kind_in b c ≡ 11) × (first_child_in b p ≡ c)
  contents_some p c e some = elim (cases_Bool (has_contents p)) [
    | inl yes' ↦
        let parts = and_parts (kind_in b p == 1) (kind_in b (first_child_in b p) == 11) yes' in
        let first = sym (cond-true (has_contents p) (first_child_in b p) nothing yes') ∙ e in
        (eqb-true (kind_in b p) 1 parts.0, ap (kind_in b) (sym first) ∙ eqb-true (kind_in b (first_child_in b p)) 11 parts.1, first)
    | inr not' ↦ absurd (some (sym e ∙ cond-false (has_contents p) (first_child_in b p) nothing not'))
  ]

  contents_is : (p c : ℕ) → kind_in b p ≡ 1 → first_child_in b p ≡ c → kind_in b c ≡ 11 → contents_in b p ≡ c
  contents_is p c k first e =
      cond-true (has_contents p) (first_child_in b p) nothing
      (ap (λ t. t && kind_in b (first_child_in b p) == 11) (eq-eqb (kind_in b p) 1 k) ∙ eq-eqb (kind_in b (first_child_in b p)) 11 (ap (kind_in b) first ∙ e))
      ∙ first

  count_contents_other : (p c : ℕ) → contents_in b p ≢ c → count c (option_to_list (some_number b (contents_in b p))) ≡ 0
  count_contents_other p c other = elim (cases_eq (contents_in b p) nothing) [
    | inl none ↦ ap (λ (o : Option ℕ). count c (option_to_list o)) (cond-true (contents_in b p == nothing) None (Some (contents_in b p)) (eq-eqb (contents_in b p) nothing none))
    | inr some ↦
        ap (λ (o : Option ℕ). count c (option_to_list o)) (cond-false (contents_in b p == nothing) None (Some (contents_in b p)) (ne_eqb (contents_in b p) nothing some))
        ∙ ap (λ t. cond t 1 0 + 0) (ne_eqb c (contents_in b p) (λ e. other (sym e)))
  ]

  count_contents_same : (p c : ℕ) → contents_in b p ≡ c → c ≢ nothing → count c (option_to_list (some_number b (contents_in b p))) ≡ 1
  count_contents_same p c same some =
      ap (λ (o : Option ℕ). count c (option_to_list o)) (cond-false (contents_in b p == nothing) None (Some (contents_in b p)) (ne_eqb (contents_in b p) nothing (λ e. some (sym same ∙ e))))
      ∙ ap (λ t. cond t 1 0 + 0) (eq-eqb c (contents_in b p) (sym same))

  -- the data of a node, by its kind
  abbrev parent_as : (n : ℕ) → Option Kind → Option ℕ
  parent_as n k = option_and_then {U = ℕ} (λ (d : Node). d.parent) (node_of_some b n k)

  abbrev below_as : (n : ℕ) → Option Kind → List ℕ
  below_as n k = option_map_or {U = List ℕ} below (node_of_some b n k) []

  abbrev contents_as : (n : ℕ) → Option Kind → Option ℕ
  contents_as n k = option_and_then {U = ℕ} (λ (d : Node). d.contents) (node_of_some b n k)

  is_node : (n : ℕ) (k : Kind) → kind_at b n ≡ Some k → IsNode (forest_in b) n
  is_node n k e gone = let w = sym (ap (node_of_some b n) e) ∙ gone in cc

  module _ (h : IsInOrder b) where
    abbrev N : ℕ
    N = nodes_in b

    abbrev up : ℕ → ℕ
    up = parent_in b

    abbrev end : ℕ → ℕ
    end = end_in b

    -- a number isn't a node, or is a node of some kind
    pub data IsSeen (n : ℕ) : Type 0 where
      None' : kind_at b n ≡ None → (nodes_in b ≤ n) ⊎ ((n < nodes_in b) × (kind_in b n ≡ 3) × (end_in b n ≡ n + 1)) → IsSeen n
      Some' : (k : Kind) → kind_at b n ≡ Some k → n < nodes_in b → kind_in b n ≢ 3 → IsSeen n

    seen : (n : ℕ) → IsSeen n
    seen n = at (any_is b h n)
      where
        at : IsAny b n → IsSeen n
        at (Past past) = None' (no_kind_0 b n (kind_past b n past)) (inl past)
        at (Text some k) = None' (no_kind_3 b n k) (inr (some, k, end_of_text b h n some k))
        at (Fragment some k) = Some' FragmentNode (kind_11 b n k) some (λ e. omega (arith, e, k))
        at (Plain some k3 k11 is) = Some' is.kind is.is some k3

    -- a number with a parent is between the parent and its end
    child_place : (p c : ℕ) → up c ≡ p → p ≢ nothing → c < N → (0 < c) × (p < c) × (c < end p) × (p < N)
    child_place p c e some lt = elim (cases_lt 0 c) [
      | inr first ↦ absurd (some (sym e ∙ ap up (let z : c ≡ 0 = omega arith in z) ∙ top_up b))
      | inl after ↦
          let smaller = h.order.above c after lt in
          let place = within_its_end N up end h.order p c (omega arith) lt e in
          (after, place.0, place.1, omega arith)
    ]

    pub parent_place : (p c : ℕ) → parent_of (forest_in b) c ≡ Some p → (up c ≡ p) × (p < c) × (c < end p) × (p < N) × (c < N)
    parent_place p c e = at (seen c)
      where
        at : IsSeen c → (up c ≡ p) × (p < c) × (c < end p) × (p < N) × (c < N)
        at (None' k out) = let w : None ≡ Some p = sym (ap (parent_as c) k) ∙ e in cc
        at (Some' kind k some other) =
            let is = some_is (up c) p (sym (ap (parent_as c) k) ∙ e) in
            let place = child_place p c is.0 is.1 some in
            (is.0, place.1, place.2, place.3, some)

    pub inside : (p c : ℕ) → parent_of (forest_in b) c ≡ Some p → IsNode (forest_in b) p
    inside p c e = at (seen p)
      where
        at : IsSeen p → IsNode (forest_in b) p
        at (None' k out) = let place = parent_place p c e in absurd (elim out [ inl past ↦ omega (arith, past, place) | inr text ↦ omega (arith, text.2, place) ])
        at (Some' kind k some other) = is_node p kind k

    ancestor_less : (a n : ℕ) → IsAncestor (parent_of (forest_in b)) a n → a < n
    ancestor_less a n (Parent e) = (parent_place a n e).1
    ancestor_less a n (Further p r e) = let one = ancestor_less a p r in let two = parent_place p n e in omega (arith, two)

    pub hosted : (n c : ℕ) → contents_of (forest_in b) n ≡ Some c → kind_of (forest_in b) c ≡ Some FragmentNode
    hosted n c e = at (seen n)
      where
        at : IsSeen n → kind_of (forest_in b) c ≡ Some FragmentNode
        at (None' k out) = let w : None ≡ Some c = sym (ap (contents_as n) k) ∙ e in cc
        at (Some' kind k some other) =
            let is = some_is (contents_in b n) c (sym (ap (contents_as n) k) ∙ e) in
            ap (λ o. option_map {U = Kind} (λ (d : Node). d.kind) (node_of_some b c o)) (kind_11 b c (contents_some n c is.0 is.1).1)

    pub top : parent_of (forest_in b) 0 ≡ None
    top = at (seen 0)
      where
        at : IsSeen 0 → parent_of (forest_in b) 0 ≡ None
        at (None' k out) = ap (parent_as 0) k
        at (Some' kind k some other) = ap (parent_as 0) k ∙ ap (some_number b) (top_up b)

    -- the parent of contents is their element
    contents_place : (p c : ℕ) → contents_in b p ≡ c → c ≢ nothing → (up c ≡ p) × (c < N) × (kind_in b c ≡ 11)
    contents_place p c e some =
        let is = contents_some p c e some in
        elim (cases_lt p N) [
          | inr past ↦ absurd (some (sym is.2 ∙ first_past b p past))
          | inl lt ↦ elim (cases_lt (p + 1) (end p)) [
            | inr none ↦ absurd (some (sym is.2 ∙ first_none b p lt none))
            | inl room ↦
                let first : p + 1 ≡ c = sym (first_is b p lt room) ∙ is.2 in
                let all = within N up end h.order p lt in
                (ap up (sym first) ∙ h.order.begins p lt room, omega arith, is.1)
          ]
        ]

    -- the number of times that a number occurs directly below a node
    counted : (p c : ℕ) (k : Kind) → kind_at b p ≡ Some k → count c (below_of (forest_in b) p) ≡ count c (passing (is_node_below p) 0 N) + count c (option_to_list (some_number b (contents_in b p)))
    counted p c k e =
        ap (λ o. count c (below_as p o)) e
        ∙ count-append c (nodes (map (child_at b) (child_numbers b p))) (option_to_list (some_number b (contents_in b p)))
        ∙ ap (λ l. count c l + count c (option_to_list (some_number b (contents_in b p)))) (node_numbers (child_numbers b p) ∙ nodes_below p 0 N)

    not_there : (p c : ℕ) (x y : ℕ) → x ≡ 0 → y ≡ 0 → x + y ≡ 0
    not_there p c x y e g = omega arith

    abbrev Wanted : (p c : ℕ) → Type 0
    Wanted p c = count c (below_of (forest_in b) p) ≡ cond (is_at p (parent_of (forest_in b) c)) 1 0

    pub one_parent : (p c : ℕ) → count c (below_of (forest_in b) p) ≡ cond (is_at p (parent_of (forest_in b) c)) 1 0
    one_parent p c = at (seen p)
      where
        -- the number isn't below p
        none : count c (below_of (forest_in b) p) ≡ 0 → is_at p (parent_of (forest_in b) c) ≡ false → Wanted p c
        none e g = e ∙ sym (ap (λ t. cond t 1 0) g)

        some_one : count c (below_of (forest_in b) p) ≡ 1 → is_at p (parent_of (forest_in b) c) ≡ true → Wanted p c
        some_one e g = e ∙ sym (ap (λ t. cond t 1 0) g)

        -- p isn't a node
        outside : kind_at b p ≡ None → (nodes_in b ≤ p) ⊎ ((p < nodes_in b) × (kind_in b p ≡ 3) × (end_in b p ≡ p + 1)) → IsSeen c → Wanted p c
        outside k out (None' g o) = none (ap (λ o. count c (below_as p o)) k) (ap (λ o. is_at p (parent_as c o)) g)
        outside k out (Some' kind g some other) =
            none (ap (λ o. count c (below_as p o)) k)
            (ap (λ o. is_at p (parent_as c o)) g ∙ far (cases_eq (up c) p))
          where
            far : (up c ≡ p) ⊎ (up c ≢ p) → is_at p (some_number b (up c)) ≡ false
            far (inr other) = at_other p (up c) other
            far (inl same) = elim (cases_eq p nothing) [
              | inl gone ↦ ap (is_at p) (cond-true (up c == nothing) None (Some (up c)) (eq-eqb (up c) nothing (same ∙ gone)))
              | inr real ↦ let place = child_place p c same real some in absurd (elim out [ inl past ↦ omega (arith, past, place) | inr text ↦ omega (arith, text.2, place) ])
            ]

        -- p is a node
        node : (kind : Kind) → kind_at b p ≡ Some kind → p < nodes_in b → IsAny b c → Wanted p c
        node kind k lt (Past past) =
            let s = h.small in
            none (counted p c kind k ∙ not_there p c _ _ (count_outside (is_node_below p) c 0 N (inr (omega (arith, past))))
            (elim (cases_eq (contents_in b p) nothing) [
              | inl gone ↦ ap (λ (o : Option ℕ). count c (option_to_list o)) (cond-true (contents_in b p == nothing) None (Some (contents_in b p)) (eq-eqb (contents_in b p) nothing gone))
              | inr real ↦ count_contents_other p c (λ e. let w = contents_place p c e (λ g. real (e ∙ g)) in omega (arith, w, past))
            ]))
            (ap (λ o. is_at p (parent_as c o)) (no_kind_0 b c (kind_past b c past)))
        node kind k lt (Text some e) =
            none (counted p c kind k ∙ not_there p c _ _ (count_inside (is_node_below p) c 0 N (omega arith) (omega (arith, some)) ∙ ap (λ t. cond t 1 0) (no_child e)) (count_contents_other p c (λ g. let w = contents_place p c g (real_of some) in omega (arith, w, e))))
            (ap (λ o. is_at p (parent_as c o)) (no_kind_3 b c e))
          where
            no_child : kind_in b c ≡ 3 → is_node_below p c ≡ false
            no_child e = ap (λ t. is_child_of b p c && not t) (eq-eqb (kind_in b c) 3 e) ∙ and_right (is_child_of b p c) false refl

            real_of : c < nodes_in b → c ≢ nothing
            real_of some g = let s = h.small in omega (arith, some, g)
        node kind k lt (Fragment some e) = by (cases_eq (up c) p)
          where
            real : c ≢ nothing
            real g = let s = h.small in omega (arith, some, g)

            no_child : is_node_below p c ≡ false
            no_child = ap (λ t. ((up c == p) && not t) && not (kind_in b c == 3)) (eq-eqb (kind_in b c) 11 e) ∙ ap (λ t. t && not (kind_in b c == 3)) (and_right (up c == p) false refl)

            first : count c (passing (is_node_below p) 0 N) ≡ 0
            first = count_inside (is_node_below p) c 0 N (omega arith) (omega (arith, some)) ∙ ap (λ t. cond t 1 0) no_child

            by : (up c ≡ p) ⊎ (up c ≢ p) → Wanted p c
            by (inr other) =
                none (counted p c kind k ∙ not_there p c _ _ first (count_contents_other p c (λ g. other (contents_place p c g real).0)))
                (ap (λ o. is_at p (parent_as c o)) (kind_11 b c e) ∙ at_other p (up c) other)
            by (inl same) =
                let s = h.small in
                let place = child_place p c same (λ g. omega (arith, g, lt)) some in
                let host : (kind_in b p ≡ 1) × (c ≡ p + 1) = elim (h.kinds.other c place.0 some) [
                  | inl g ↦ absurd (omega (arith, g, e))
                  | inr more ↦ elim more [
                    | inl it ↦ (ap (kind_in b) (sym same) ∙ it.1, it.2 ∙ ap (λ x. x + 1) same)
                    | inr leaf ↦ absurd (elim leaf.0 [ inl g ↦ omega (arith, g, e) | inr m ↦ elim m [ inl g ↦ omega (arith, g, e) | inr m' ↦ elim m' [ inl g ↦ omega (arith, g, e) | inr g ↦ omega (arith, g, e) ] ] ])
                  ]
                ] in
                let is = contents_is p c host.0 (first_is b p lt (omega (arith, host.1, place)) ∙ sym host.1) e in
                some_one (counted p c kind k ∙ (let one = count_contents_same p c is real in let z = first in omega arith))
                (ap (λ o. is_at p (parent_as c o)) (kind_11 b c e) ∙ at_same p (up c) same (λ g. omega (arith, g, lt)))
        node kind k lt (Plain some k3 k11 is) = by (cases_eq (up c) p)
          where
            real : c ≢ nothing
            real g = let s = h.small in omega (arith, some, g)

            second : count c (option_to_list (some_number b (contents_in b p))) ≡ 0
            second = count_contents_other p c (λ g. k11 (contents_place p c g real).2)

            test : is_node_below p c ≡ (up c == p)
            test =
                ap (λ t. ((up c == p) && not (kind_in b c == 11)) && not t) (ne_eqb (kind_in b c) 3 k3)
                ∙ ap (λ t. ((up c == p) && not t) && true) (ne_eqb (kind_in b c) 11 k11) ∙ and_true (up c == p)

            first : count c (passing (is_node_below p) 0 N) ≡ cond (up c == p) 1 0
            first = count_inside (is_node_below p) c 0 N (omega arith) (omega (arith, some)) ∙ ap (λ t. cond t 1 0) test

            by : (up c ≡ p) ⊎ (up c ≢ p) → Wanted p c
            by (inr other) =
                none (counted p c kind k ∙ not_there p c _ _ (first ∙ ap (λ t. cond t 1 0) (ne_eqb (up c) p other)) second)
                (ap (λ o. is_at p (parent_as c o)) is.is ∙ at_other p (up c) other)
            by (inl same) =
                let s = h.small in
                let one = first ∙ ap (λ t. cond t 1 0) (eq-eqb (up c) p same) in
                let two = second in
                some_one (counted p c kind k ∙ omega arith) (ap (λ o. is_at p (parent_as c o)) is.is ∙ at_same p (up c) same (λ g. omega (arith, g, lt)))

        at : IsSeen p → Wanted p c
        at (None' k out) = outside k out (seen c)
        at (Some' kind k some other) = node kind k some (any_is b h c)

    bounded : (n : ℕ) → N ≤ n → (forest_in b).node n ≡ None
    bounded n past = ap (node_of_some b n) (no_kind_0 b n (kind_past b n past))

    -- the forest of a sound block has the shape of a forest
    pub block_is_shaped : IsShaped (forest_in b)
    block_is_shaped = record {
      bounded = bounded;
      one_parent = one_parent;
      inside = inside;
      acyclic = λ n a. let w = ancestor_less n n a in omega arith;
      hosted = hosted;
      top = top;
    }

    -- and is one, if its root is a document, and its texts are parted
    pub block_is_forest : kind_in b 0 ≡ 9 → ((n : ℕ) → AreParted (children_of (forest_in b) n)) → IsForest (forest_in b)
    block_is_forest root parted = record {
      bounded = bounded;
      root = ap (λ o. option_map {U = Kind} (λ (d : Node). d.kind) (node_of_some b 0 o)) (kind_9 b 0 root);
      one_parent = one_parent;
      inside = inside;
      acyclic = λ n a. let w = ancestor_less n n a in omega arith;
      parted = parted;
      hosted = hosted;
      top = top;
    }
