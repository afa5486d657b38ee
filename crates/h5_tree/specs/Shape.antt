-- The shape of a forest: how its nodes are below one another. Each forest has it, and so has a tree whose root is a fragment.
use Rattle.std.specs.Prelude.{◌≡◌, ℕ, ◌≤◌, if◌then◌else◌, None, Some}
use Rattle.h5_interface.specs.Ancestors.{IsAncestor}
use Rattle.h5_interface.specs.Forest.{Forest, FragmentNode, IsNode, below_of, contents_of, count, is_at, kind_of, parent_of}

-- `IsForest` without its claims about the kind of the document and about texts
pub record IsShaped (f : Forest) : Type 0 where
  -- no number from the bound on is a node
  pub bounded : (n : ℕ) → f.bound ≤ n → f.node n ≡ None
  -- a node appears once below its parent, as a child or as contents, and below no other node
  pub one_parent : (p c : ℕ) → count c (below_of f p) ≡ (if is_at p (parent_of f c) then 1 else 0)
  -- a parent is a node
  pub inside : (p c : ℕ) → parent_of f c ≡ Some p → IsNode f p
  -- no node is its own ancestor
  pub acyclic : (n : ℕ) → ¬ (IsAncestor (parent_of f) n n)
  -- contents are fragments
  pub hosted : (n c : ℕ) → contents_of f n ≡ Some c → kind_of f c ≡ Some FragmentNode
  -- the document has no parent
  pub top : parent_of f f.document ≡ None
