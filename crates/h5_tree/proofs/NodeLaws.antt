-- The data of a number in the forest of a block.
use Rattle.std.proofs.Common.{◌≡◌, ◌≢◌, ◌∙◌, ℕ, ◌+◌, ◌<◌, ◌≤◌, Bool, true, false, cond, List, [], ap, arith, inl, inr, refl, sym}
use Rattle.std.specs.Prelude.{◌==◌, None, Option, Some, is_some}
use Rattle.std.specs.Option.{option_and_then, option_map, option_map_or}
use Rattle.std.proofs.lemmas.Bool.{cases_eq, cases_lt, cond-false, cond-true, eq-eqb, ne_eqb}
use Rattle.h5_names.specs.declared.qualified.QualName.{QualName}
use Rattle.h5_interface.specs.Forest.{Child, CommentNode, DoctypeNode, DocumentNode, ElementNode, FragmentNode, InstructionNode, Kind, Node, children_of, kind_of}
use Rattle.h5_arena.specs.ArenaModel.{child_parent, name_of_kind}
use Rattle.h5_arena.specs.Kin.{tree_parent}
use Rattle.h5_tree.specs.Elements.{is_element, name_of as element_name}
use Rattle.h5_tree_block.specs.Block.{end_in, kind_in, name_in, nodes_in, parent_in}
use Rattle.h5_tree.specs.BlockForest.{forest_in, kind_at, node_of_some, other_kind_at, some_number}
use Rattle.h5_tree_block.specs.Read.{name_of, value_of}
use Rattle.h5_tree.proofs.SoundOrder.{IsInOrder, kind_past}

-- the other kinds aren't elements
no_element : (b : List ℕ) (n : ℕ) (t9 t11 t8 t10 t7 : Bool) (x y z w u v : List ℕ)
    → option_and_then name_of_kind (option_map {U = Kind} (λ (d : Node). d.kind) (node_of_some b n (cond t9 (Some DocumentNode) (cond t11 (Some FragmentNode) (cond t8 (Some (CommentNode x)) (cond t10 (Some (DoctypeNode y z w)) (cond t7 (Some (InstructionNode u v)) None))))))) ≡ None
no_element b n true t11 t8 t10 t7 x y z w u v = refl
no_element b n false true t8 t10 t7 x y z w u v = refl
no_element b n false false true t10 t7 x y z w u v = refl
no_element b n false false false true t7 x y z w u v = refl
no_element b n false false false false true x y z w u v = refl
no_element b n false false false false false x y z w u v = refl

module _ (b : List ℕ) where
  kind_as : (n : ℕ) (k : Option Kind) → kind_at b n ≡ k → kind_of (forest_in b) n ≡ option_map {U = Kind} (λ (d : Node). d.kind) (node_of_some b n k)
  kind_as n k e = ap (λ o. option_map {U = Kind} (λ (d : Node). d.kind) (node_of_some b n o)) e

  kind_other : (n : ℕ) → kind_in b n ≢ 1 → kind_at b n ≡ other_kind_at b n
  kind_other n other = cond-false (kind_in b n == 1) (Some (ElementNode (name_of b (name_in b n)))) (other_kind_at b n) (ne_eqb (kind_in b n) 1 other)

  pub name_some : (n : ℕ) → kind_in b n ≡ 1 → element_name (forest_in b) n ≡ Some (name_of b (name_in b n))
  name_some n e =
      ap (option_and_then name_of_kind) (kind_as n (Some (ElementNode (name_of b (name_in b n)))) (cond-true (kind_in b n == 1) (Some (ElementNode (name_of b (name_in b n)))) (other_kind_at b n) (eq-eqb (kind_in b n) 1 e)))

  pub name_none : (n : ℕ) → kind_in b n ≢ 1 → element_name (forest_in b) n ≡ None
  name_none n other =
      ap (option_and_then name_of_kind) (kind_as n (other_kind_at b n) (kind_other n other))
      ∙ no_element b n (kind_in b n == 9) (kind_in b n == 11) (kind_in b n == 8) (kind_in b n == 10) (kind_in b n == 7) _ _ _ _ _ _

  pub element_is : (n : ℕ) → is_element (forest_in b) n ≡ (kind_in b n == 1)
  element_is n = elim (cases_eq (kind_in b n) 1) [
    | inl e ↦ ap {A = Option QualName} is_some (name_some n e) ∙ sym (eq-eqb (kind_in b n) 1 e)
    | inr other ↦ ap {A = Option QualName} is_some (name_none n other) ∙ sym (ne_eqb (kind_in b n) 1 other)
  ]

  -- the kinds of the forest, by their numbers
  pub no_kind_3 : (n : ℕ) → kind_in b n ≡ 3 → kind_at b n ≡ None
  no_kind_3 n e = rw e refl

  pub no_kind_0 : (n : ℕ) → kind_in b n ≡ 0 → kind_at b n ≡ None
  no_kind_0 n e = rw e refl

  pub kind_1 : (n : ℕ) → kind_in b n ≡ 1 → kind_at b n ≡ Some (ElementNode (name_of b (name_in b n)))
  kind_1 n e = cond-true (kind_in b n == 1) (Some (ElementNode (name_of b (name_in b n)))) (other_kind_at b n) (eq-eqb (kind_in b n) 1 e)

  pub kind_11 : (n : ℕ) → kind_in b n ≡ 11 → kind_at b n ≡ Some FragmentNode
  kind_11 n e = rw e refl

  pub kind_9 : (n : ℕ) → kind_in b n ≡ 9 → kind_at b n ≡ Some DocumentNode
  kind_9 n e = rw e refl

  -- a node that isn't a fragment: its parent in the forest is its parent in the block
  pub record IsPlainNode (n : ℕ) : Type 0 where
    pub kind : Kind
    pub is : kind_at b n ≡ Some kind
    pub parent : tree_parent (forest_in b) n ≡ some_number b (parent_in b n)

  abbrev parent_as : (n : ℕ) → Option Kind → Option ℕ
  parent_as n k = option_and_then child_parent (node_of_some b n k)

  plain_1 : (n : ℕ) → kind_in b n ≡ 1 → IsPlainNode n
  plain_1 n e = record { kind = ElementNode (name_of b (name_in b n)); is = kind_1 n e; parent = ap (parent_as n) (kind_1 n e) }

  plain_9 : (n : ℕ) → kind_in b n ≡ 9 → IsPlainNode n
  plain_9 n e = record { kind = DocumentNode; is = kind_9 n e; parent = ap (parent_as n) (kind_9 n e) }

  is_7 : (n : ℕ) → kind_in b n ≡ 7 → kind_at b n ≡ Some (InstructionNode (value_of b n 0) (value_of b n 1))
  is_7 n e = rw e refl

  is_8 : (n : ℕ) → kind_in b n ≡ 8 → kind_at b n ≡ Some (CommentNode (value_of b n 0))
  is_8 n e = rw e refl

  is_10 : (n : ℕ) → kind_in b n ≡ 10 → kind_at b n ≡ Some (DoctypeNode (value_of b n 0) (value_of b n 1) (value_of b n 2))
  is_10 n e = rw e refl

  plain_7 : (n : ℕ) → kind_in b n ≡ 7 → IsPlainNode n
  plain_7 n e = record { kind = InstructionNode (value_of b n 0) (value_of b n 1); is = is_7 n e; parent = ap (parent_as n) (is_7 n e) }

  plain_8 : (n : ℕ) → kind_in b n ≡ 8 → IsPlainNode n
  plain_8 n e = record { kind = CommentNode (value_of b n 0); is = is_8 n e; parent = ap (parent_as n) (is_8 n e) }

  plain_10 : (n : ℕ) → kind_in b n ≡ 10 → IsPlainNode n
  plain_10 n e = record { kind = DoctypeNode (value_of b n 0) (value_of b n 1) (value_of b n 2); is = is_10 n e; parent = ap (parent_as n) (is_10 n e) }

  pub parent_none_3 : (n : ℕ) → kind_in b n ≡ 3 → tree_parent (forest_in b) n ≡ None
  parent_none_3 n e = ap (parent_as n) (no_kind_3 n e)

  pub parent_none_0 : (n : ℕ) → kind_in b n ≡ 0 → tree_parent (forest_in b) n ≡ None
  parent_none_0 n e = ap (parent_as n) (no_kind_0 n e)

  pub parent_none_11 : (n : ℕ) → kind_in b n ≡ 11 → tree_parent (forest_in b) n ≡ None
  parent_none_11 n e = ap (parent_as n) (kind_11 n e)

  -- a number isn't a node, or is a fragment, or is any other node
  pub data IsAny (n : ℕ) : Type 0 where
    Past : nodes_in b ≤ n → IsAny n
    Text : n < nodes_in b → kind_in b n ≡ 3 → IsAny n
    Fragment : n < nodes_in b → kind_in b n ≡ 11 → IsAny n
    Plain : n < nodes_in b → kind_in b n ≢ 3 → kind_in b n ≢ 11 → IsPlainNode n → IsAny n

  pub any_is : IsInOrder b → (n : ℕ) → IsAny n
  any_is h n = elim (cases_lt n (nodes_in b)) [
    | inr past ↦ Past past
    | inl lt ↦ elim (cases_lt 0 n) [
      | inr first ↦
          let e : 0 ≡ n = omega arith in
          let same = ap (kind_in b) e in
          elim h.kinds.root [
            | inl k ↦ let it : kind_in b n ≡ 9 = sym same ∙ k in Plain lt (λ w. absurd (omega (arith, w, it))) (λ w. absurd (omega (arith, w, it))) (plain_9 n it)
            | inr k ↦ Fragment lt (sym same ∙ k)
          ]
      | inl after ↦ elim (h.kinds.other n after lt) [
        | inl k ↦ Plain lt (λ w. absurd (omega (arith, w, k))) (λ w. absurd (omega (arith, w, k))) (plain_1 n k)
        | inr more ↦ elim more [
          | inl fragment ↦ Fragment lt fragment.0
          | inr leaf ↦ elim leaf.0 [
            | inl k ↦ Text lt k
            | inr k7 ↦ elim k7 [
              | inl k ↦ Plain lt (λ w. absurd (omega (arith, w, k))) (λ w. absurd (omega (arith, w, k))) (plain_7 n k)
              | inr k8 ↦ elim k8 [
                | inl k ↦ Plain lt (λ w. absurd (omega (arith, w, k))) (λ w. absurd (omega (arith, w, k))) (plain_8 n k)
                | inr k ↦ Plain lt (λ w. absurd (omega (arith, w, k))) (λ w. absurd (omega (arith, w, k))) (plain_10 n k)
              ]
            ]
          ]
        ]
      ]
    ]
  ]

  -- numbers without children
  abbrev children_as : (n : ℕ) → Option Kind → List Child
  children_as n k = option_map_or {U = List Child} (λ (d : Node). d.children) (node_of_some b n k) []

  pub children_past : (n : ℕ) → nodes_in b ≤ n → children_of (forest_in b) n ≡ []
  children_past n past = ap (children_as n) (no_kind_0 n (kind_past b n past))

  pub children_text : (n : ℕ) → kind_in b n ≡ 3 → children_of (forest_in b) n ≡ []
  children_text n e = ap (children_as n) (no_kind_3 n e)

  -- a text ends at the next number
  pub end_of_text : IsInOrder b → (n : ℕ) → n < nodes_in b → kind_in b n ≡ 3 → end_in b n ≡ n + 1
  end_of_text h n lt k = elim (cases_lt 0 n) [
    | inr first ↦
        let e : 0 ≡ n = omega arith in
        let same = ap (kind_in b) e in
        absurd (elim h.kinds.root [ inl w ↦ omega (arith, same, w, k) | inr w ↦ omega (arith, same, w, k) ])
    | inl after ↦ elim (h.kinds.other n after lt) [
      | inl w ↦ absurd (omega (arith, w, k))
      | inr more ↦ elim more [ inl w ↦ absurd (omega (arith, w.0, k)) | inr leaf ↦ leaf.1 ]
    ]
  ]
