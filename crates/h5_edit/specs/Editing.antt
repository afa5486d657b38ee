-- Edits of a tree at one node, by the calls of an arena.
use Rattle.std.specs.Prelude.{ℕ, ◌==◌, cond, List, [], ◌∷◌, ◌++◌, Option, None, Some}
use Rattle.h5_interface.specs.Forest.{Child, ChildNode, ChildText, children_of}
use Rattle.h5_interface.specs.Seen.{Seen, after_append, after_append_before, changed}
use Rattle.h5_arena.specs.Edits.{child_parent_of, edit_attrs, take_out, with_text, with_value, without_named}

-- an edit: what is done at a node. HTML that is inserted are the children of another node, `from`, which lose their parent
pub data EditText : Type 0 where
  Remove : EditText
  Unwrap : EditText
  SetAttribute : (name value : List ℕ) → EditText
  RemoveAttribute : (name : List ℕ) → EditText
  SetText : (text : List ℕ) → EditText
  InsertBefore : (from : ℕ) → EditText
  InsertAfter : (from : ℕ) → EditText
  Prepend : (from : ℕ) → EditText
  Append : (from : ℕ) → EditText
  Replace : (from : ℕ) → EditText

-- a child, free to be inserted elsewhere
abbrev pub freed : Child → Seen → Seen
freed (ChildNode c) s = changed (take_out c) s
freed (ChildText t) s = s

-- children are moved, one after another, to the place before a sibling
abbrev pub moved_before : (sibling : ℕ) → List Child → Seen → Seen
moved_before sibling [] s = s
moved_before sibling (x ∷ xs) s = moved_before sibling xs (after_append_before sibling x (freed x s))

-- children are moved, one after another, to the end of a parent
abbrev pub moved_into : (parent : ℕ) → List Child → Seen → Seen
moved_into parent [] s = s
moved_into parent (x ∷ xs) s = moved_into parent xs (after_append parent x (freed x s))

-- a node's children are these
abbrev pub with_children : (parent : ℕ) → List Child → Seen → Seen
with_children parent xs s = moved_into parent xs (changed (with_text parent []) s)

-- children, with others inserted after this node
abbrev pub inserted_after : ℕ → List Child → List Child → List Child
inserted_after n more [] = []
inserted_after n more (ChildNode c ∷ xs) = cond (c == n) (ChildNode c ∷ more ++ xs) (ChildNode c ∷ inserted_after n more xs)
inserted_after n more (ChildText t ∷ xs) = ChildText t ∷ inserted_after n more xs

-- children are inserted after a node, among the children of its parent
abbrev pub placed_after : ℕ → List Child → Option ℕ → Seen → Seen
placed_after n more None s = s
placed_after n more (Some p) s = with_children p (inserted_after n more (children_of s.forest p)) s

-- what an edit does at a node
abbrev pub edited : EditText → ℕ → Seen → Seen
edited Remove n s = changed (take_out n) s
edited Unwrap n s = changed (take_out n) (moved_before n (children_of s.forest n) s)
edited (SetAttribute name value) n s = changed (edit_attrs n (with_value name value)) s
edited (RemoveAttribute name) n s = changed (edit_attrs n (without_named name)) s
edited (SetText text) n s = changed (with_text n text) s
edited (InsertBefore from) n s = moved_before n (children_of s.forest from) s
edited (InsertAfter from) n s = placed_after n (children_of s.forest from) (child_parent_of s.forest n) s
edited (Prepend from) n s = with_children n (children_of s.forest from ++ children_of s.forest n) s
edited (Append from) n s = moved_into n (children_of s.forest from) s
edited (Replace from) n s = changed (take_out n) (moved_before n (children_of s.forest from) s)
