-- The elements among the children of a node: those before one of them, and those after it.
use Rattle.std.proofs.Common.{◌≡◌, ◌∙◌, ℕ, ◌+◌, ◌<◌, ◌≤◌, Bool, true, false, List, [], ◌∷◌, Option, None, Some, ap, arith, cond, drop, get_or, length, refl, sym, take}
use Rattle.std.specs.Prelude.{◌==◌, if◌then◌else◌, is_some}
use Rattle.std.specs.List.{filter}
use Rattle.std.specs.Option.{option_and_then, option_map, option_map_or}
use Rattle.std.proofs.lemmas.Bool.{eq-eqb, eqb-true}
use Prim.Native.Nat.{zero, suc}
use Rattle.h5_interface.specs.Forest.{Child, ChildNode, ChildText, CommentNode, DoctypeNode, DocumentNode, ElementNode, Forest, FragmentNode, InstructionNode, Kind, Node, below_of, children_of, count, is_at, nodes, parent_of}
use Rattle.h5_interface.proofs.ForestLaws.{children_few}
use Rattle.h5_arena.specs.ArenaModel.{child_parent, child_parent_of_kind, name_of_kind}
use Rattle.h5_arena.specs.Kin.{siblings_with_self, children_before, children_behind, tree_parent}
use Rattle.h5_tree.specs.Elements.{before, behind, child_elements, elements_among, is_element}
use Rattle.h5_tree.specs.Shape.{IsShaped}
use Rattle.h5_tree.proofs.ShapedLaws.{parent_of_child}

-- an entry of the elements is an entry of the children
module _ (f : Forest) where
  pub counted_among : (cs : List Child) (i m : ℕ) → i < length (elements_among f cs) → get_or (elements_among f cs) i 0 ≡ m → 0 < count m (nodes cs)
  counted_among [] i m lt e = absurd (omega arith)
  counted_among (ChildText t ∷ cs) i m lt e = counted_among cs i m lt e
  counted_among (ChildNode x ∷ cs) i m lt e = at (is_element f x) i (λ j. counted_among cs j m) lt e
    where
      all : List ℕ
      all = elements_among f cs

      at : (b : Bool) (j : ℕ) → ((i : ℕ) → i < length all → get_or all i 0 ≡ m → 0 < count m (nodes cs)) → j < length (cond b (x ∷ all) all) → get_or (cond b (x ∷ all) all) j 0 ≡ m
          → 0 < (if m == x then 1 else 0) + count m (nodes cs)
      at true zero further l h = rw (eq-eqb m x (sym h)) (omega arith)
      at true (suc j) further l h = let more = further j (omega (arith, l)) h in omega arith
      at false j further l h = let more = further j l h in omega arith

  -- an entry that occurs once has those before it and those after it around it
  pub parted : (cs : List Child) (i m : ℕ) → is_element f m ≡ true → count m (nodes cs) ≤ 1 → i < length (elements_among f cs) → get_or (elements_among f cs) i 0 ≡ m
      → (elements_among f (children_before m cs) ≡ take i (elements_among f cs)) × (elements_among f (children_behind m cs) ≡ drop (i + 1) (elements_among f cs))
  parted [] i m el once lt e = absurd (omega arith)
  parted (ChildText t ∷ cs) i m el once lt e = parted cs i m el once lt e
  parted (ChildNode x ∷ cs) i m el once lt e = at (x == m) (is_element f x) i refl refl (λ j. counted_among cs j m) (λ j. parted cs j m el (omega (arith, once))) lt e
    where
      all : List ℕ
      all = elements_among f cs

      at : (b c : Bool) (j : ℕ) → (x == m) ≡ b → is_element f x ≡ c
          → ((i : ℕ) → i < length all → get_or all i 0 ≡ m → 0 < count m (nodes cs))
          → ((i : ℕ) → i < length all → get_or all i 0 ≡ m → (elements_among f (children_before m cs) ≡ take i all) × (elements_among f (children_behind m cs) ≡ drop (i + 1) all))
          → j < length (cond c (x ∷ all) all) → get_or (cond c (x ∷ all) all) j 0 ≡ m
          → (elements_among f (if b then [] else ChildNode x ∷ children_before m cs) ≡ take j (cond c (x ∷ all) all))
          × (elements_among f (if b then cs else children_behind m cs) ≡ drop (j + 1) (cond c (x ∷ all) all))
      at true true zero same is counted further l h = (refl, refl)
      at true true (suc j) same is counted further l h =
          let there = counted j (omega (arith, l)) h in
          let first : (m == x) ≡ true = eq-eqb m x (sym (eqb-true x m same)) in
          let twice = (rw first at once) in
          absurd (omega arith)
      at true false j same is counted further l h =
          let other : is_element f m ≡ false = (rw (eqb-true x m same) at is) in
          let no = sym el ∙ other in
          cc
      at false true zero same is counted further l h =
          let equal : (x == m) ≡ true = eq-eqb x m h in
          let no = sym equal ∙ same in
          cc
      at false true (suc j) same is counted further l h =
          let rest = further j (omega (arith, l)) h in
          let next : suc (j + 1) ≡ suc j + 1 = omega arith in
          rw is (ap (λ l. x ∷ l) rest.0, rest.1 ∙ ap (λ k. drop k (x ∷ all)) next)
      at false false j same is counted further l h =
          let rest = further j l h in
          rw is rest

  passes : (xs : List ℕ) (i m : ℕ) → i < length (filter (is_element f) xs) → get_or (filter (is_element f) xs) i 0 ≡ m → is_element f m ≡ true
  passes [] i m lt e = absurd (omega arith)
  passes (x ∷ xs) i m lt e = at (is_element f x) i refl (λ j. passes xs j m) lt e
    where
      all : List ℕ
      all = filter (is_element f) xs

      at : (b : Bool) (j : ℕ) → is_element f x ≡ b → ((i : ℕ) → i < length all → get_or all i 0 ≡ m → is_element f m ≡ true)
          → j < length (cond b (x ∷ all) all) → get_or (cond b (x ∷ all) all) j 0 ≡ m → is_element f m ≡ true
      at true zero is further l h = (rw h at is)
      at true (suc j) is further l h = further j (omega (arith, l)) h
      at false j is further l h = further j l h

-- an element is a child of its parent
child_parent_is : (o : Option Node) (p : ℕ) → is_some (option_and_then name_of_kind (option_map (λ d. d.kind) o)) ≡ true → option_and_then (λ d. d.parent) o ≡ Some p → option_and_then child_parent o ≡ Some p
child_parent_is None p el up = cc
child_parent_is (Some d) p el up = at d.kind el
  where
    at : (kind : Kind) → is_some (name_of_kind kind) ≡ true → child_parent_of_kind kind d.parent ≡ Some p
    at DocumentNode e = up
    at (DoctypeNode name public_id system_id) e = up
    at (ElementNode name) e = up
    at (CommentNode text) e = up
    at (InstructionNode target text) e = up
    at FragmentNode e = cc

-- a child element of a node, by its index among all of them
module _ (f : Forest) (p i m : ℕ) (k : IsShaped f) (lt : i < length (child_elements f p)) (here : get_or (child_elements f p) i 0 ≡ m) where
  is_one : is_element f m ≡ true
  is_one = passes f (nodes (children_of f p)) i m lt here

  once : count m (nodes (children_of f p)) ≤ 1
  once =
      let few = children_few f p m in
      let most : count m (below_of f p) ≤ 1 = rw (k.one_parent p m) (least (is_at p (parent_of f m))) in
      omega arith
    where
      least : (b : Bool) → (if b then 1 else 0) ≤ 1
      least true = omega arith
      least false = omega arith

  pub its_parent : tree_parent f m ≡ Some p
  its_parent = child_parent_is (f.node m) p is_one (parent_of_child f p m k (counted_among f (children_of f p) i m lt here))

  abbrev around : siblings_with_self f m ≡ children_of f p
  around = ap (λ o. option_map_or (children_of f) o []) its_parent

  pub those_before : before f m ≡ take i (child_elements f p)
  those_before = ap (λ cs. elements_among f (children_before m cs)) around ∙ (parted f (children_of f p) i m is_one once lt here).0

  pub those_behind : behind f m ≡ drop (i + 1) (child_elements f p)
  those_behind = ap (λ cs. elements_among f (children_behind m cs)) around ∙ (parted f (children_of f p) i m is_one once lt here).1
