-- In a sound block, a child that isn't an element has no children.
use Rattle.std.proofs.Common.{◌≡◌, ◌≢◌, ◌∙◌, ℕ, zero, suc, ◌+◌, ◌<◌, ◌≤◌, true, false, cond, List, ◌∷◌, map, ap, arith, inl, inr, subst, sym}
use Rattle.std.specs.Prelude.{◌==◌, not}
use Rattle.std.proofs.lemmas.Bool.{and_parts, cases_Bool, cases_eq, cases_lt, cond-false, cond-true, eq-eqb, eqb-true, ne_eqb}
use Rattle.h5_interface.specs.Forest.{ChildNode, ChildText, FragmentNode, children_of}
use Rattle.h5_tree_block.specs.Block.{end_in, kind_in, nodes_in, parent_in}
use Rattle.h5_tree.specs.BlockForest.{child_at, forest_in, is_child_of}
use Rattle.h5_tree_block.specs.Read.{text_of}
use Rattle.h5_tree.specs.Elements.{AreElementsOrLeaves, IsElementOrLeaf}
use Rattle.h5_tree.proofs.OrderLaws.{passing}
use Rattle.h5_tree.proofs.SoundOrder.{IsInOrder, top_up}
use Rattle.h5_tree.proofs.NodeLaws.{Fragment, IsAny, Past, Plain, Text, any_is, children_past, children_text, element_is, kind_11}
use Rattle.h5_tree.proofs.ChildLaws.{children_plain}
use Rattle.h5_tree.proofs.DescendantLaws.{no_children}

module _ (b : List ℕ) (h : IsInOrder b) where
  -- a node that is neither an element nor a fragment, and isn't the root, ends at the next number
  leaf_end : (n : ℕ) → 0 < n → n < nodes_in b → kind_in b n ≢ 1 → kind_in b n ≢ 11 → end_in b n ≤ n + 1
  leaf_end n after lt k1 k11 = elim (h.kinds.other n after lt) [
    | inl e ↦ absurd (k1 e)
    | inr more ↦ elim more [ inl e ↦ absurd (k11 e.0) | inr leaf ↦ let e = leaf.1 in omega arith ]
  ]

  element_or_leaf : (p n : ℕ) → n < nodes_in b → p < nodes_in b → is_child_of b p n ≡ true → IsElementOrLeaf (forest_in b) (child_at b n)
  element_or_leaf p n lt in_it test = elim (cases_eq (kind_in b n) 3) [
    | inl e ↦ subst (λ c. IsElementOrLeaf (forest_in b) c) (sym (cond-true (kind_in b n == 3) (ChildText (text_of b n)) (ChildNode n) (eq-eqb (kind_in b n) 3 e))) tt
    | inr node ↦ subst (λ c. IsElementOrLeaf (forest_in b) c) (sym (cond-false (kind_in b n == 3) (ChildText (text_of b n)) (ChildNode n) (ne_eqb (kind_in b n) 3 node)))
        (λ no_element.
        let parts = and_parts (parent_in b n == p) (not (kind_in b n == 11)) test in
        let up = eqb-true (parent_in b n) p parts.0 in
        let k1 : kind_in b n ≢ 1 = λ e. let w : true ≡ false = sym (eq-eqb (kind_in b n) 1 e) ∙ sym (element_is b n) ∙ no_element in cc in
        let k11 : kind_in b n ≢ 11 = λ e. let w : false ≡ true = sym (ap not (eq-eqb (kind_in b n) 11 e)) ∙ parts.1 in cc in
        let after : 0 < n = elim (cases_lt 0 n) [ inl a ↦ a | inr first ↦ absurd (let z = ap (parent_in b) (let y : n ≡ 0 = omega arith in y) in let t = top_up b in let s = h.small in omega arith) ] in
        no_children b h n lt (leaf_end n after lt k1 k11))
  ]

  elements_or_leaves : (p a c : ℕ) → p < nodes_in b → a + c ≤ nodes_in b → AreElementsOrLeaves (forest_in b) (map (child_at b) (passing (is_child_of b p) a c))
  elements_or_leaves p a zero in_it le = tt
  elements_or_leaves p a (suc c) in_it le = elim (cases_Bool (is_child_of b p a)) [
    | inl e ↦ subst (λ t. AreElementsOrLeaves (forest_in b) (map (child_at b) (cond t (a ∷ passing (is_child_of b p) (a + 1) c) (passing (is_child_of b p) (a + 1) c)))) (sym e)
        (element_or_leaf p a (omega (arith, le)) in_it e, elements_or_leaves p (a + 1) c in_it (omega (arith, le)))
    | inr e ↦ subst (λ t. AreElementsOrLeaves (forest_in b) (map (child_at b) (cond t (a ∷ passing (is_child_of b p) (a + 1) c) (passing (is_child_of b p) (a + 1) c)))) (sym e)
        (elements_or_leaves p (a + 1) c in_it (omega (arith, le)))
  ]

  pub children_are_elements_or_leaves : (p : ℕ) → AreElementsOrLeaves (forest_in b) (children_of (forest_in b) p)
  children_are_elements_or_leaves p = at (any_is b h p)
    where
      at : IsAny b p → AreElementsOrLeaves (forest_in b) (children_of (forest_in b) p)
      at (Past past) = subst (λ l. AreElementsOrLeaves (forest_in b) l) (sym (children_past b p past)) tt
      at (Text some k) = subst (λ l. AreElementsOrLeaves (forest_in b) l) (sym (children_text b p k)) tt
      at (Fragment some k) = subst (λ l. AreElementsOrLeaves (forest_in b) l) (sym (children_plain b h p FragmentNode (kind_11 b p k))) (elements_or_leaves p 0 (nodes_in b) some (omega arith))
      at (Plain some k3 k11 is) = subst (λ l. AreElementsOrLeaves (forest_in b) l) (sym (children_plain b h p is.kind is.is)) (elements_or_leaves p 0 (nodes_in b) some (omega arith))
