-- The reads of a block return the names, kinds, parents and relatives that its forest has.
use Rattle.std.proofs.Common.{◌≡◌, ◌∙◌, ℕ, ◌+◌, ◌<◌, ◌≤◌, Bool, true, false, ◌&&◌, ◌||◌, cond, List, [], ap, arith, inl, inr, refl, subst, sym}
use Rattle.std.specs.Prelude.{◌==◌, None, Option, Some}
use Rattle.std.specs.Option.{option_map, option_map_or}
use Rattle.std.proofs.lemmas.Bool.{cases_eq, cond-false, cond-true, eq-eqb, ne_eqb, or_from}
use Rattle.h5_names.specs.AttributeText.{is_same_text}
use Rattle.h5_names.specs.Urls.{html_text}
use Rattle.h5_names.specs.declared.qualified.QualName.{QualName}
use Rattle.h5_interface.specs.Forest.{CommentNode, DoctypeNode, DocumentNode, ElementNode, FragmentNode, InstructionNode, Kind, Node, kind_of}
use Rattle.h5_arena.specs.Kin.{tree_parent}
use Rattle.h5_tree.specs.Elements as w
use Rattle.h5_tree_block.specs.Block.{end_in, first_child_in, kind_in, name_in, namespace_in, next_in, nodes_in, parent_in}
use Rattle.h5_tree.specs.BlockForest.{forest_in, kind_at, node_of_some, other_kind_at, some_number}
use Rattle.h5_tree_block.specs.Read.{local_of, name_of, namespace_named, value_of}
use Rattle.h5_tree_block.specs.Sound.{is_sound}
use Rattle.h5_tree.specs.ElementNumbers.{IsBefore, IsChildOrNone, elements_up_to, elements_from, is_bare_from, elements_between}
use Rattle.h5_tree.proofs.OrderLaws.{within}
use Rattle.h5_tree.proofs.SoundOrder.{IsInOrder, kind_past, sound_in_order}
use Rattle.h5_tree.proofs.ChildLaws.{child_elements_read, is_empty_read, first_is_child, next_is_child}
use Rattle.h5_tree.proofs.SiblingLaws.{IsChild, before_are, before_begins, before_none, behind_are, behind_none, child_or_none}
use Rattle.h5_tree.proofs.DescendantLaws.{below_are, below_none}
use Rattle.h5_tree.proofs.NodeLaws.{Fragment, IsAny, Past, Plain, Text, any_is, kind_1, kind_9, name_none, name_some, parent_none_0, parent_none_11, parent_none_3}

html_space : (n : ℕ) → is_same_text (namespace_named n) html_text ≡ (n == 1)
unfolding namespace_named
html_space n = elim (cases_eq n 1) [
  | inl e ↦ rw e refl
  | inr not1 ↦ elim (cases_eq n 2) [
    | inl e ↦ rw e refl
    | inr not2 ↦ elim (cases_eq n 3) [
      | inl e ↦ rw e refl
      | inr not3 ↦ elim (cases_eq n 4) [
        | inl e ↦ rw e refl
        | inr not4 ↦ elim (cases_eq n 5) [
          | inl e ↦ rw e refl
          | inr not5 ↦ elim (cases_eq n 6) [
            | inl e ↦ rw e refl
            | inr not6 ↦ rw (ne_eqb n 1 not1, ne_eqb n 2 not2, ne_eqb n 3 not3, ne_eqb n 4 not4, ne_eqb n 5 not5, ne_eqb n 6 not6) refl
          ]
        ]
      ]
    ]
  ]
]

module _ (b : List ℕ) where
  name_space : (m : ℕ) → (name_of b m).ns ≡ namespace_named (namespace_in b m)
  unfolding name_of
  name_space m = refl

  name_local : (m : ℕ) → (name_of b m).local ≡ local_of b m
  name_local m = unfold name_of in refl

  -- a test of an element's name
  abbrev tested : (test : QualName → Bool) (n : ℕ) → Bool
  tested test n = (kind_in b n == 1) && test (name_of b (name_in b n))

  pub name_test_read : (test : QualName → Bool) (n : ℕ) → tested test n ≡ w.has_name (forest_in b) test n
  name_test_read test n = elim (cases_eq (kind_in b n) 1) [
    | inl e ↦ ap (λ t. t && test (name_of b (name_in b n))) (eq-eqb (kind_in b n) 1 e) ∙ sym (ap (λ o. option_map_or test o false) (name_some b n e))
    | inr other ↦ ap (λ t. t && test (name_of b (name_in b n))) (ne_eqb (kind_in b n) 1 other) ∙ sym (ap (λ o. option_map_or test o false) (name_none b n other))
  ]

  pub html_read : (n : ℕ) → ((kind_in b n == 1) && (namespace_in b (name_in b n) == 1)) ≡ w.is_html_element (forest_in b) n
  html_read n =
      ap (λ t. (kind_in b n == 1) && t) (sym (ap (λ s. is_same_text s html_text) (name_space (name_in b n)) ∙ html_space (namespace_in b (name_in b n))))
      ∙ name_test_read w.is_html n

  pub namespace_read : (ns : List ℕ) (n : ℕ) → ((kind_in b n == 1) && is_same_text (namespace_named (namespace_in b (name_in b n))) ns) ≡ w.has_namespace (forest_in b) ns n
  namespace_read ns n =
      ap (λ t. (kind_in b n == 1) && is_same_text t ns) (sym (name_space (name_in b n)))
      ∙ name_test_read (λ name. is_same_text name.ns ns) n

  pub local_read : (local : List ℕ) (n : ℕ) → ((kind_in b n == 1) && is_same_text (local_of b (name_in b n)) local) ≡ w.has_local_name (forest_in b) local n
  local_read local n =
      ap (λ t. (kind_in b n == 1) && is_same_text t local) (sym (name_local (name_in b n)))
      ∙ name_test_read (λ name. is_same_text name.local local) n

  abbrev are_same_names : (n m : ℕ) → Bool
  are_same_names n m = is_same_text (local_of b (name_in b n)) (local_of b (name_in b m)) && is_same_text (namespace_named (namespace_in b (name_in b n))) (namespace_named (namespace_in b (name_in b m)))

  pub alike_read : (n m : ℕ) → ((kind_in b n == 1) && ((kind_in b m == 1) && are_same_names n m)) ≡ w.is_same_type (forest_in b) n m
  alike_read n m =
      ap (λ t. (kind_in b n == 1) && ((kind_in b m == 1) && t)) names
      ∙ ap (λ t. (kind_in b n == 1) && t) (name_test_read (w.are_alike (name_of b (name_in b n))) m)
      ∙ name_test_read (λ name. w.has_name (forest_in b) (w.are_alike name) m) n
    where
      names : are_same_names n m ≡ w.are_alike (name_of b (name_in b n)) (name_of b (name_in b m))
      names = unfold name_of in refl

  pub parent_read : IsInOrder b → (n : ℕ) → cond (kind_in b n == 0 || (kind_in b n == 3 || kind_in b n == 11)) None (some_number b (parent_in b n)) ≡ tree_parent (forest_in b) n
  parent_read io n = at (any_is b io n)
    where
      at : IsAny b n → cond (kind_in b n == 0 || (kind_in b n == 3 || kind_in b n == 11)) None (some_number b (parent_in b n)) ≡ tree_parent (forest_in b) n
      at (Past past) =
          let e = kind_past b n past in
          cond-true (kind_in b n == 0 || (kind_in b n == 3 || kind_in b n == 11)) None (some_number b (parent_in b n)) (ap (λ t. t || (kind_in b n == 3 || kind_in b n == 11)) (eq-eqb (kind_in b n) 0 e))
          ∙ sym (parent_none_0 b n e)
      at (Text some e) =
          cond-true (kind_in b n == 0 || (kind_in b n == 3 || kind_in b n == 11)) None (some_number b (parent_in b n)) (ap (λ k. k == 0 || (k == 3 || k == 11)) e)
          ∙ sym (parent_none_3 b n e)
      at (Fragment some e) =
          cond-true (kind_in b n == 0 || (kind_in b n == 3 || kind_in b n == 11)) None (some_number b (parent_in b n)) (ap (λ k. k == 0 || (k == 3 || k == 11)) e)
          ∙ sym (parent_none_11 b n e)
      at (Plain some k3 k11 is) = elim (cases_eq (kind_in b n) 0) [
        | inl e ↦
            let gone : kind_at b n ≡ None = rw e refl in
            let w : None ≡ Some is.kind = sym gone ∙ is.is in cc
        | inr k0 ↦
            cond-false (kind_in b n == 0 || (kind_in b n == 3 || kind_in b n == 11)) None (some_number b (parent_in b n)) (or_from (kind_in b n == 0) (kind_in b n == 3 || kind_in b n == 11) (ne_eqb (kind_in b n) 0 k0) (or_from (kind_in b n == 3) (kind_in b n == 11) (ne_eqb (kind_in b n) 3 k3) (ne_eqb (kind_in b n) 11 k11)))
            ∙ sym is.parent
      ]

  -- the kinds that aren't documents
  other_document : (n : ℕ) (t11 t8 t10 t7 : Bool) (x y z w' u v : List ℕ)
      → w.is_document (option_map {U = Kind} (λ (d : Node). d.kind) (node_of_some b n (cond t11 (Some FragmentNode) (cond t8 (Some (CommentNode x)) (cond t10 (Some (DoctypeNode y z w')) (cond t7 (Some (InstructionNode u v)) None)))))) ≡ false
  other_document n true t8 t10 t7 x y z w' u v = refl
  other_document n false true t10 t7 x y z w' u v = refl
  other_document n false false true t7 x y z w' u v = refl
  other_document n false false false true x y z w' u v = refl
  other_document n false false false false x y z w' u v = refl

  pub document_read : (n : ℕ) → (kind_in b n == 9) ≡ w.is_document (kind_of (forest_in b) n)
  document_read n = elim (cases_eq (kind_in b n) 9) [
    | inl e ↦ eq-eqb (kind_in b n) 9 e ∙ sym (ap (λ o. w.is_document (option_map {U = Kind} (λ (d : Node). d.kind) (node_of_some b n o))) (kind_9 b n e))
    | inr other ↦ ne_eqb (kind_in b n) 9 other ∙ sym (elim (cases_eq (kind_in b n) 1) [
      | inl e ↦ ap (λ o. w.is_document (option_map {U = Kind} (λ (d : Node). d.kind) (node_of_some b n o))) (kind_1 b n e)
      | inr no_element ↦
          ap (λ o. w.is_document (option_map {U = Kind} (λ (d : Node). d.kind) (node_of_some b n o)))
          (cond-false (kind_in b n == 1) (Some (ElementNode (name_of b (name_in b n)))) (other_kind_at b n) (ne_eqb (kind_in b n) 1 no_element)
          ∙ cond-false (kind_in b n == 9) (Some DocumentNode) (cond (kind_in b n == 11) (Some FragmentNode) (cond (kind_in b n == 8) (Some (CommentNode (value_of b n 0))) (cond (kind_in b n == 10) (Some (DoctypeNode (value_of b n 0) (value_of b n 1) (value_of b n 2))) (cond (kind_in b n == 7) (Some (InstructionNode (value_of b n 0) (value_of b n 1))) None)))) (ne_eqb (kind_in b n) 9 other))
          ∙ other_document n (kind_in b n == 11) (kind_in b n == 8) (kind_in b n == 10) (kind_in b n == 7) _ _ _ _ _ _
    ])
  ]

  -- the reads of a sound block, as the methods compute them
  module _ (sound : is_sound b ≡ true) (small : nodes_in b < 4294967296) where
    abbrev in_order : IsInOrder b
    in_order = sound_in_order b sound small

    abbrev parent_made : (n : ℕ) → Option ℕ
    parent_made n = cond (kind_in b n == 0 || (kind_in b n == 3 || kind_in b n == 11)) None (some_number b (parent_in b n))

    pub parent_law : (n : ℕ) (made : Option ℕ) → made ≡ parent_made n → option_map (λ x. x) made ≡ tree_parent (forest_in b) n
    parent_law n None e = e ∙ parent_read in_order n
    parent_law n (Some p) e = e ∙ parent_read in_order n

    pub children_law : (n first : ℕ) → first ≡ first_child_in b n → IsChildOrNone b n first × (elements_from b n first ≡ w.child_elements (forest_in b) n)
    children_law n first e = (subst (λ x. IsChildOrNone b n x) (sym e) (first_is_child b in_order n), ap (elements_from b n) e ∙ child_elements_read b in_order n)

    pub empty_law : (n first : ℕ) → first ≡ first_child_in b n → IsChildOrNone b n first × (is_bare_from b n first ≡ w.is_empty (forest_in b) n)
    empty_law n first e = (subst (λ x. IsChildOrNone b n x) (sym e) (first_is_child b in_order n), ap (is_bare_from b n) e ∙ is_empty_read b in_order n)

    child_of : (n p : ℕ) → Some p ≡ parent_made n → IsChild b in_order n × (parent_in b n ≡ p)
    child_of n p e = elim (child_or_none b in_order n) [
      | inl none ↦ let v : Some p ≡ None = e ∙ parent_read in_order n ∙ none in cc
      | inr c ↦ let v : Some p ≡ Some (parent_in b n) = e ∙ parent_read in_order n ∙ c.parent in (c, cc)
    ]

    pub before_law : (n p first : ℕ) → Some p ≡ parent_made n → first ≡ first_child_in b p
        → (0 < n) × (n < nodes_in b) × IsBefore b (parent_in b n) n first × (elements_up_to b (parent_in b n) n first ≡ w.before (forest_in b) n)
    before_law n p first e is =
        let c = child_of n p e in
        let same : first ≡ first_child_in b (parent_in b n) = is ∙ sym (ap (first_child_in b) c.1) in
        let begins = before_begins b in_order n (c.0).after (c.0).some in (
          (c.0).after,
          (c.0).some,
          subst (λ x. IsBefore b (parent_in b n) n x) (sym same) begins.0,
          ap (elements_up_to b (parent_in b n) n) same ∙ begins.1 ∙ sym (before_are b in_order n c.0),
        )

    pub behind_law : (n p next : ℕ) → Some p ≡ parent_made n → next ≡ next_in b n → IsChildOrNone b p next × (elements_from b p next ≡ w.behind (forest_in b) n)
    behind_law n p next e is =
        let c = child_of n p e in
        let some : n < nodes_in b = (c.0).some in
        let child = next_is_child b in_order p n (λ g. omega arith) (inr (c.1, (c.0).after, some)) in (
          subst (λ x. IsChildOrNone b p x) (sym is) child,
          ap (elements_from b p) is ∙ sym (ap (λ x. elements_from b x (next_in b n)) c.1) ∙ sym (behind_are b in_order n c.0),
        )

    none_made : (n : ℕ) → None ≡ parent_made n → tree_parent (forest_in b) n ≡ None
    none_made n e = sym (e ∙ parent_read in_order n)

    pub before_none_law : (n : ℕ) → None ≡ parent_made n → w.before (forest_in b) n ≡ []
    before_none_law n e = before_none b in_order n (none_made n e)

    pub behind_none_law : (n : ℕ) → None ≡ parent_made n → w.behind (forest_in b) n ≡ []
    behind_none_law n e = behind_none b in_order n (none_made n e)

    pub below_law : (n to : ℕ) → n < nodes_in b → to ≡ end_in b n → (to ≤ nodes_in b) × (elements_between b (n + 1) to ≡ w.below (forest_in b) n)
    below_law n to lt e =
        let all = within (nodes_in b) (parent_in b) (end_in b) in_order.order n lt in
        (omega arith, ap (elements_between b (n + 1)) e ∙ sym (below_are b in_order n lt))

    pub below_none_law : (n : ℕ) → nodes_in b ≤ n → w.below (forest_in b) n ≡ []
    below_none_law n past = below_none b in_order n past
