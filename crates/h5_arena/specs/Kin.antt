-- Ancestors, siblings and descendants of a node (DOM standard, section 1.1, "Trees"). The contents of a template aren't children: no node
-- is below a template by its contents.
use Rattle.std.specs.Prelude.{ℕ, ◌-◌, if◌then◌else◌, length, List, [], ◌∷◌, ◌++◌, Option, slice_get}
use Rattle.std.specs.List.{flat_map}
use Rattle.std.specs.Option.{option_and_then, option_map_or}
use Prim.Native.Nat.{zero, suc}
use Rattle.h5_interface.specs.Forest.{Child, ChildNode, ChildText, Forest, children_of, nodes}
use Rattle.h5_arena.specs.ArenaModel.{child_parent}
use Rattle.h5_arena.specs.ChildTests.{is_child_node}

-- the node whose child a node is
abbrev pub tree_parent : Forest → ℕ → Option ℕ
tree_parent f n = option_and_then child_parent (f.node n)

-- the ancestors of a node, the nearest first, up to this number of levels
abbrev pub ancestors_within : ℕ → Forest → ℕ → List ℕ
ancestors_within zero f n = []
ancestors_within (suc levels) f n = option_map_or (λ p. p ∷ ancestors_within levels f p) (tree_parent f n) []

-- all ancestors: there are no more of them than nodes
abbrev pub ancestors : Forest → ℕ → List ℕ
ancestors f = ancestors_within f.bound f

-- the children of a node's parent; those before the node; those after it
abbrev pub siblings_with_self : Forest → ℕ → List Child
siblings_with_self f n = option_map_or (children_of f) (tree_parent f n) []

abbrev pub children_before : ℕ → List Child → List Child
children_before n [] = []
children_before n (c ∷ cs) = if is_child_node n c then [] else c ∷ children_before n cs

abbrev pub children_behind : ℕ → List Child → List Child
children_behind n [] = []
children_behind n (c ∷ cs) = if is_child_node n c then cs else children_behind n cs

-- the first and the last of some children
abbrev pub first_of : List Child → Option Child
first_of cs = slice_get cs 0

abbrev pub last_of : List Child → Option Child
last_of cs = slice_get cs (length cs - 1)

-- a child and everything below it, in tree order, down to this number of levels
unfoldable pub with_below : ℕ → Forest → Child → List Child
with_below levels f (ChildText t) = ChildText t ∷ []
with_below zero f (ChildNode n) = ChildNode n ∷ []
with_below (suc levels) f (ChildNode n) = ChildNode n ∷ flat_map (with_below levels f) (children_of f n)

-- everything below a node: there are no more levels than nodes
abbrev pub descendants_with_text : Forest → ℕ → List Child
descendants_with_text f n = flat_map (with_below f.bound f) (children_of f n)

-- the nodes among them
abbrev pub descendants : Forest → ℕ → List ℕ
descendants f n = nodes (descendants_with_text f n)

-- the texts among children, joined
abbrev pub texts_among : List Child → List ℕ
texts_among [] = []
texts_among (ChildNode n ∷ cs) = texts_among cs
texts_among (ChildText t ∷ cs) = t ++ texts_among cs
