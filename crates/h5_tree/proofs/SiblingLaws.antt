-- The siblings before and after a node of a sound block.
use Rattle.std.proofs.Common.{◌≡◌, ◌≢◌, ◌∙◌, ◌⊎◌, ℕ, zero, suc, ◌+◌, ◌-◌, ◌<◌, ◌≤◌, Bool, true, false, ◌&&◌, cond, List, [], ◌∷◌, ◌++◌, map, ap, arith, inl, inr, refl, sym}
use Rattle.std.specs.Prelude.{◌==◌, None, Some, not}
use Rattle.std.specs.Option.{option_map_or}
use Rattle.std.proofs.Math.Nat.{eq-or-lt_of_le}
use Rattle.std.proofs.lemmas.Bool.{cases_eq, cases_lt, cond-false, cond-true, eq-eqb, ne_eqb}
use Rattle.std.proofs.lemmas.List.{append-nil}
use Rattle.h5_interface.specs.Forest.{Child, ChildNode, ChildText, FragmentNode, children_of}
use Rattle.h5_arena.specs.ChildTests.{is_child_node}
use Rattle.h5_arena.specs.Kin.{siblings_with_self, children_before, children_behind, tree_parent}
use Rattle.h5_tree.specs.Elements as w
use Rattle.h5_tree.specs.Elements.{elements_among}
use Rattle.h5_tree_block.specs.Block.{end_in, first_child_in, kind_in, next_in, nodes_in, nothing, parent_in}
use Rattle.h5_tree.specs.BlockForest.{child_at, child_numbers, forest_in, is_child_of}
use Rattle.h5_tree_block.specs.Read.{text_of}
use Rattle.h5_tree.proofs.OrderLaws.{below_it, is_below, children_step, children_step_to, passing, passing_none, passing_split, within, within_its_end}
use Rattle.h5_tree.proofs.SoundOrder.{IsInOrder, kind_past, top_up}
use Rattle.h5_tree.proofs.NodeLaws.{Fragment, IsAny, Past, Plain, Text, any_is, end_of_text, kind_11, parent_none_0, parent_none_11, parent_none_3}
use Rattle.h5_tree.specs.ElementNumbers.{IsBefore, elements_up_to, elements_in, children_from, elements_from}
use Rattle.h5_tree.proofs.ChildLaws.{among, children_plain, elements_of_children, first_is, next_child, place_of_child, elements_from_next}

module _ (b : List ℕ) where
  -- the child with another number is another child
  not_it : (n m : ℕ) → m ≢ n → is_child_node n (child_at b m) ≡ false
  not_it n m other = elim (cases_eq (kind_in b m) 3) [
    | inl e ↦ ap (is_child_node n) (cond-true (kind_in b m == 3) (ChildText (text_of b m)) (ChildNode m) (eq-eqb (kind_in b m) 3 e))
    | inr node ↦ ap (is_child_node n) (cond-false (kind_in b m == 3) (ChildText (text_of b m)) (ChildNode m) (ne_eqb (kind_in b m) 3 node)) ∙ ne_eqb m n other
  ]

  is_it : (n : ℕ) → kind_in b n ≢ 3 → is_child_node n (child_at b n) ≡ true
  is_it n node = ap (is_child_node n) (cond-false (kind_in b n == 3) (ChildText (text_of b n)) (ChildNode n) (ne_eqb (kind_in b n) 3 node)) ∙ eq-eqb n n refl

  before_one : (n a : ℕ) (xs ys : List ℕ) (t : Bool) → a ≢ n → children_before n (map (child_at b) xs) ≡ map (child_at b) ys → children_before n (map (child_at b) (cond t (a ∷ xs) xs)) ≡ map (child_at b) (cond t (a ∷ ys) ys)
  before_one n a xs ys false other e = e
  before_one n a xs ys true other e =
      ap (λ t. cond t [] (child_at b a ∷ children_before n (map (child_at b) xs))) (not_it n a other) ∙ ap (λ l. child_at b a ∷ l) e

  before_split : (q : ℕ → Bool) (n a k : ℕ) → q n ≡ true → kind_in b n ≢ 3 → a ≤ n → n < a + k → children_before n (map (child_at b) (passing q a k)) ≡ map (child_at b) (passing q a (n - a))
  before_split q n a zero pass node low high = absurd (omega (arith, low, high))
  before_split q n a (suc k) pass node low high = elim (eq-or-lt_of_le low) [
    | inl same ↦
        let none : n - a ≡ zero = omega (arith, same) in
        ap (λ t. children_before n (map (child_at b) (cond t (a ∷ passing q (a + 1) k) (passing q (a + 1) k)))) (ap q same ∙ pass)
        ∙ ap (λ t. cond t [] (child_at b a ∷ children_before n (map (child_at b) (passing q (a + 1) k)))) (ap (λ m. is_child_node n (child_at b m)) same ∙ is_it n node)
        ∙ sym (ap (λ c. map (child_at b) (passing q a c)) none)
    | inr less ↦
        let more : n - a ≡ suc (n - (a + 1)) = omega (arith, less) in
        before_one n a (passing q (a + 1) k) (passing q (a + 1) (n - (a + 1))) (q a) (λ e. omega (arith, e, less)) (before_split q n (a + 1) k pass node (omega (arith, less)) (omega (arith, high)))
        ∙ sym (ap (λ c. map (child_at b) (passing q a c)) more)
  ]

  behind_one : (n a : ℕ) (xs : List ℕ) (ys : List Child) (t : Bool) → a ≢ n → children_behind n (map (child_at b) xs) ≡ ys → children_behind n (map (child_at b) (cond t (a ∷ xs) xs)) ≡ ys
  behind_one n a xs ys false other e = e
  behind_one n a xs ys true other e = ap (λ t. cond t (map (child_at b) xs) (children_behind n (map (child_at b) xs))) (not_it n a other) ∙ e

  behind_split : (q : ℕ → Bool) (n a k : ℕ) → q n ≡ true → kind_in b n ≢ 3 → a ≤ n → n < a + k → children_behind n (map (child_at b) (passing q a k)) ≡ map (child_at b) (passing q (n + 1) (a + k - (n + 1)))
  behind_split q n a zero pass node low high = absurd (omega (arith, low, high))
  behind_split q n a (suc k) pass node low high = elim (eq-or-lt_of_le low) [
    | inl same ↦
        let left : k ≡ a + suc k - (n + 1) = omega (arith, same) in
        let next : a + 1 ≡ n + 1 = omega (arith, same) in
        ap (λ t. children_behind n (map (child_at b) (cond t (a ∷ passing q (a + 1) k) (passing q (a + 1) k)))) (ap q same ∙ pass)
        ∙ ap (λ t. cond t (map (child_at b) (passing q (a + 1) k)) (children_behind n (map (child_at b) (passing q (a + 1) k)))) (ap (λ m. is_child_node n (child_at b m)) same ∙ is_it n node)
        ∙ ap (λ x. map (child_at b) (passing q x k)) next ∙ ap (λ c. map (child_at b) (passing q (n + 1) c)) left
    | inr less ↦
        let left : a + 1 + k - (n + 1) ≡ a + suc k - (n + 1) = omega arith in
        behind_one n a (passing q (a + 1) k) (map (child_at b) (passing q (n + 1) (a + suc k - (n + 1)))) (q a) (λ e. omega (arith, e, less))
        (behind_split q n (a + 1) k pass node (omega (arith, less)) (omega (arith, high)) ∙ ap (λ c. map (child_at b) (passing q (n + 1) c)) left)
  ]

  module _ (h : IsInOrder b) where
    abbrev N : ℕ
    N = nodes_in b

    abbrev up : ℕ → ℕ
    up = parent_in b

    abbrev end : ℕ → ℕ
    end = end_in b

    -- a number is a child in the forest
    pub record IsChild (n : ℕ) : Type 0 where
      pub parent : tree_parent (forest_in b) n ≡ Some (up n)
      pub after : 0 < n
      pub some : n < N
      pub no_text : kind_in b n ≢ 3
      pub no_fragment : kind_in b n ≢ 11

    up_of_first : (n : ℕ) → n ≡ 0 → up n ≡ nothing
    up_of_first n e = ap up e ∙ (let t = h.order.top in top_up b)

    -- a number is a child, or has no parent
    pub child_or_none : (n : ℕ) → (tree_parent (forest_in b) n ≡ None) ⊎ IsChild n
    child_or_none n = at (any_is b h n)
      where
        at : IsAny b n → (tree_parent (forest_in b) n ≡ None) ⊎ IsChild n
        at (Past past) = inl (parent_none_0 b n (kind_past b n past))
        at (Text some k) = inl (parent_none_3 b n k)
        at (Fragment some k) = inl (parent_none_11 b n k)
        at (Plain some k3 k11 is) = elim (cases_lt 0 n) [
          | inr first ↦ inl (is.parent ∙ cond-true (up n == nothing) None (Some (up n)) (eq-eqb (up n) nothing (up_of_first n (omega arith))))
          | inl after ↦
              let smaller = h.order.above n after some in
              let small = h.small in
              inr (record { parent = is.parent ∙ cond-false (up n == nothing) None (Some (up n)) (ne_eqb (up n) nothing (λ e. omega arith)); after = after; some = some; no_text = k3; no_fragment = k11 })
        ]

    -- the children of a node that doesn't end at the next number
    pub children_list : (p : ℕ) → p < N → p + 1 < end p → children_of (forest_in b) p ≡ map (child_at b) (child_numbers b p)
    children_list p lt room = at (any_is b h p)
      where
        at : IsAny b p → children_of (forest_in b) p ≡ map (child_at b) (child_numbers b p)
        at (Past past) = absurd (omega (arith, past, lt))
        at (Text some k) = absurd (let e = end_of_text b h p lt k in omega (arith, e, room))
        at (Fragment some k) = children_plain b h p FragmentNode (kind_11 b p k)
        at (Plain some k3 k11 is) = children_plain b h p is.kind is.is

    -- the siblings of any number except 0
    module _ (n : ℕ) (after : 0 < n) (some : n < N) where
      abbrev over : ℕ
      over = up n

      spot : (over < n) × (n < end over) × (over < N)
      spot = place_of_child b h over n refl after some

      pub before_begins : IsBefore b over n (first_child_in b over) × (elements_up_to b over n (first_child_in b over) ≡ elements_in b (children_from b over 0 n))
      before_begins =
          let first = first_is b over spot.2 (omega (arith, spot)) in
          let split : n ≡ (over + 1) + (n - (over + 1)) = omega (arith, spot) in
          let at : 0 + (over + 1) ≡ over + 1 = omega arith in
          let none : children_from b over 0 (over + 1) ≡ [] = passing_none (is_below up over) 0 (over + 1) (λ m low high. ne_eqb (up m) over (λ e. absurd (let v = within_its_end N up end h.order over m spot.2 (omega (arith, high, spot)) e in omega (arith, v, high)))) in (
            record { child = ap up first ∙ h.order.begins over spot.2 (omega (arith, spot)); after = omega arith; within = omega (arith, spot) },
            ap (elements_up_to b over n) first
                ∙ sym (ap (elements_in b) (ap (children_from b over 0) split ∙ passing_split (is_below up over) 0 (over + 1) (n - (over + 1))
                ∙ ap (λ l. l ++ children_from b over (0 + (over + 1)) (n - (over + 1))) none ∙ ap (λ x. children_from b over x (n - (over + 1))) at)),
          )

      pub before_step : (at : ℕ) → at < n → IsBefore b over n at
          → IsBefore b over n (next_in b at) × (elements_up_to b over n at ≡ cond (kind_in b at == 1) (at ∷ elements_up_to b over n (next_in b at)) (elements_up_to b over n (next_in b at)))
      before_step at lt is =
          let there : at < N = omega arith in
          let where_at = place_of_child b h over at is.child is.after there in
          let behind = h.order.behind at there in
          let room : end at ≤ n = elim (cases_lt n (end at)) [
            | inr le ↦ le
            | inl past ↦ absurd (let v = below_it N up end h.order at n there lt past in omega (arith, v, where_at))
          ] in
          let next : (next_in b at ≡ end at) × (end at < end over) = elim (next_child b h over at is.child is.after there) [
            | inl goes ↦ goes
            | inr last ↦ absurd (omega (arith, last.1, spot, room))
          ] in
          let same = ap end is.child in
          let goes = h.order.goes_on at is.after there (omega (arith, next.1)) in (
            record { child = ap up next.0 ∙ goes ∙ is.child; after = omega (arith, next.0); within = omega (arith, next.0) },
            ap (elements_in b) (children_step_to N up end h.order over at n spot.2 there is.child room)
                ∙ ap (λ l. cond (kind_in b at == 1) (at ∷ l) l) (sym (ap (elements_up_to b over n) next.0)),
          )

    pub before_ends : (over n at : ℕ) → n ≤ at → elements_up_to b over n at ≡ []
    before_ends over n at le = ap (λ k. elements_in b (children_from b over at k)) (let e : n - at ≡ zero = omega arith in e)

    module _ (n : ℕ) (c : IsChild n) where
      abbrev p : ℕ
      p = up n

      place : (p < n) × (n < end p) × (p < N)
      place = place_of_child b h p n refl c.after c.some

      around : siblings_with_self (forest_in b) n ≡ map (child_at b) (child_numbers b p)
      around =
          ap (λ o. option_map_or {U = List Child} (children_of (forest_in b)) o []) c.parent
          ∙ children_list p place.2 (omega (arith, place))

      passes : is_child_of b p n ≡ true
      passes = ap (λ t. t && not (kind_in b n == 11)) (eq-eqb p p refl) ∙ ap not (ne_eqb (kind_in b n) 11 c.no_fragment)

      pub before_are : w.before (forest_in b) n ≡ elements_in b (children_from b p 0 n)
      before_are =
          let all : n - 0 ≡ n = omega arith in
          ap (λ l. elements_among (forest_in b) (children_before n l)) around
          ∙ ap (elements_among (forest_in b)) (before_split (is_child_of b p) n 0 N passes c.no_text (omega arith) (omega (arith, c.some)))
          ∙ among b (passing (is_child_of b p) 0 (n - 0))
          ∙ elements_of_children b p 0 (n - 0)
          ∙ ap (λ k. elements_in b (children_from b p 0 k)) all

      pub behind_are : w.behind (forest_in b) n ≡ elements_from b p (next_in b n)
      behind_are =
          let all = within N up end h.order p place.2 in
          let behind = h.order.behind n c.some in
          let room : 0 + N - (n + 1) ≡ (end p - (n + 1)) + (N - end p) = omega (arith, place) in
          let from : (n + 1) + (end p - (n + 1)) ≡ end p = omega (arith, place) in
          let one : end p - n ≡ suc (end p - (n + 1)) = omega (arith, place) in
          let none : children_from b p (end p) (N - end p) ≡ [] = passing_none (is_below up p) (end p) (N - end p) (λ m low high. ne_eqb (up m) p (λ e. absurd (let v = within_its_end N up end h.order p m place.2 (omega (arith, high, all)) e in omega (arith, v, low)))) in
          let whole : n ∷ children_from b p (n + 1) (end p - (n + 1)) ≡ n ∷ children_from b p (end n) (end p - end n) =
          sym (ap (λ k. children_from b p n k) one ∙ ap (λ t. cond t (n ∷ children_from b p (n + 1) (end p - (n + 1))) (children_from b p (n + 1) (end p - (n + 1)))) (eq-eqb p p refl))
          ∙ children_step N up end h.order p n place.2 c.some refl in
          let tail : children_from b p (n + 1) (end p - (n + 1)) ≡ children_from b p (end n) (end p - end n) = cc (whole) in
          ap (λ l. elements_among (forest_in b) (children_behind n l)) around
          ∙ ap (elements_among (forest_in b)) (behind_split (is_child_of b p) n 0 N passes c.no_text (omega arith) (omega (arith, c.some)))
          ∙ among b (passing (is_child_of b p) (n + 1) (0 + N - (n + 1)))
          ∙ elements_of_children b p (n + 1) (0 + N - (n + 1))
          ∙ ap (λ k. elements_in b (children_from b p (n + 1) k)) room
          ∙ ap (elements_in b) (passing_split (is_below up p) (n + 1) (end p - (n + 1)) (N - end p)
          ∙ ap (λ x. children_from b p (n + 1) (end p - (n + 1)) ++ children_from b p x (N - end p)) from
          ∙ ap (λ l. children_from b p (n + 1) (end p - (n + 1)) ++ l) none
          ∙ append-nil (children_from b p (n + 1) (end p - (n + 1)))
          ∙ tail)
          ∙ sym (elements_from_next b h p n refl c.after c.some)

    pub before_none : (n : ℕ) → tree_parent (forest_in b) n ≡ None → w.before (forest_in b) n ≡ []
    before_none n e = ap (λ o. elements_among (forest_in b) (children_before n (option_map_or {U = List Child} (children_of (forest_in b)) o []))) e

    pub behind_none : (n : ℕ) → tree_parent (forest_in b) n ≡ None → w.behind (forest_in b) n ≡ []
    behind_none n e = ap (λ o. elements_among (forest_in b) (children_behind n (option_map_or {U = List Child} (children_of (forest_in b)) o []))) e
