-- Copying a node with its subtree: level by level, into new nodes after the existing ones.
use Rattle.std.specs.Prelude.{◌≡◌, ℕ, ◌+◌, ◌<◌, ◌≤◌, length, List, [], ◌∷◌, map, Option, None, Some, slice_get}
use Rattle.std.specs.Option.{option_map}
use Rattle.h5_interface.specs.Forest.{Child, ChildNode, ChildText, Forest, IsNode, Node, below, nodes}
use Rattle.h5_arena.specs.ArenaModel.{link_place}
use Rattle.h5_arena.specs.declared.copies.Source.{Source}

-- a node to copy, and the parent of its copy
abbrev pub Wanted : Type 0
Wanted = ℕ × Option ℕ

abbrev pub wanted_views : List Source → List Wanted
wanted_views = map (λ s. (s.id.index, link_place s.parent))

-- nodes whose copies have this parent
abbrev pub wanted_below : Option ℕ → List ℕ → List Wanted
wanted_below parent = map (λ n. (n, parent))

-- children with other nodes, which have consecutive numbers from `first` on
abbrev pub renumbered : ℕ → List Child → List Child
renumbered first [] = []
renumbered first (ChildNode n ∷ cs) = ChildNode first ∷ renumbered (first + 1) cs
renumbered first (ChildText t ∷ cs) = ChildText t ∷ renumbered first cs

-- the copy of a node; the nodes directly below it have consecutive numbers from `first` on, its contents the last one. It has no form owner
abbrev pub copied : ℕ → (parent : Option ℕ) → Node → Node
copied first parent d = record d {
  children = renumbered first d.children;
  contents = option_map (λ _. first + length (nodes d.children)) d.contents;
  parent = parent;
  marks = record d.marks { form = None };
}

-- the copy at an index is that of the source at this index, and the nodes directly below it are the copies of those below the source
pub record IsCopied (f : Forest) (sources : List Wanted) (k : ℕ) (copy : Node) : Type 0 where
  pub source : ℕ
  pub parent : Option ℕ
  pub original : Node
  pub first : ℕ
  pub is_wanted : slice_get sources k ≡ Some (source, parent)
  pub there : f.node source ≡ Some original
  pub is_copy : copy ≡ copied (f.bound + first) parent original
  pub all_below : (j n : ℕ) → slice_get (below original) j ≡ Some n → slice_get sources (first + j) ≡ Some (n, Some (f.bound + k))
  pub none_else : (i n : ℕ) → slice_get sources i ≡ Some (n, Some (f.bound + k)) → (first ≤ i) × (i < first + length (below original))

-- the first sources are copied; the very first source is n, and only its copy has no parent
pub record AreCopied (f : Forest) (n : ℕ) (sources : List Wanted) (copies : List Node) : Type 0 where
  pub start : slice_get sources 0 ≡ Some (n, None)
  pub are_nodes : (i m : ℕ) (p : Option ℕ) → slice_get sources i ≡ Some (m, p) → IsNode f m
  pub one_free : (i m : ℕ) → slice_get sources i ≡ Some (m, None) → i ≡ 0
  pub parents : (i m p : ℕ) → slice_get sources i ≡ Some (m, Some p) → (f.bound ≤ p) × (p < f.bound + length copies) × (p < f.bound + i)
  pub done : (k : ℕ) (copy : Node) → slice_get copies k ≡ Some copy → IsCopied f sources k copy

-- these are copies of n and of its subtree
abbrev pub AreCopies : Forest → ℕ → List Node → Type 0
AreCopies f n copies = (sources : List Wanted) × AreCopied f n sources copies × (length sources ≡ length copies)
