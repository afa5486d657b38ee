-- Tests of children, as the arena makes them.
use Rattle.std.specs.Prelude.{ℕ, ◌==◌, ◌&&◌, Bool, true, false, drop, is_some, List, [], ◌∷◌, Option, None, Some, slice_get, take}
use Rattle.std.specs.Option.{option_map_or}
use Prim.Native.Nat.{suc}
use Rattle.h5_interface.specs.Forest.{Child, ChildNode, ChildText}

-- true if a child is this node; true if a child is a text
abbrev pub is_child_node : ℕ → Child → Bool
is_child_node c (ChildNode n) = n == c
is_child_node c (ChildText t) = false

abbrev pub is_child_text : Child → Bool
is_child_text (ChildNode n) = false
is_child_text (ChildText t) = true

-- the last child and the first child, if it is a text
abbrev pub last_text : List Child → Option (List ℕ)
last_text [] = None
last_text (ChildText t ∷ []) = Some t
last_text (ChildNode n ∷ []) = None
last_text (c ∷ x ∷ xs) = last_text (x ∷ xs)

abbrev pub first_text : List Child → Option (List ℕ)
first_text [] = None
first_text (ChildText t ∷ cs) = Some t
first_text (ChildNode n ∷ cs) = None

-- true if there are texts on both sides of an index
abbrev pub texts_around : List Child → ℕ → Bool
texts_around cs i = is_some (last_text (take i cs)) && is_some (first_text (drop (suc i) cs))

-- true if a last text is followed by a first one
abbrev pub texts_meet : List Child → List Child → Bool
texts_meet xs ys = is_some (last_text xs) && is_some (first_text ys)

-- true if the child at an index is this node
abbrev pub is_this : ℕ → Child → Bool
is_this n (ChildNode m) = n == m
is_this n (ChildText t) = false

abbrev pub is_node_at : List Child → ℕ → ℕ → Bool
is_node_at cs at n = option_map_or (is_this n) (slice_get cs at) false
