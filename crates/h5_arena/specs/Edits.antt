-- The edits of a tree: the effect of each on the forest, and the reasons of failures.
use Rattle.std.specs.Prelude.{◌≡◌, ◌≢◌, ℕ, ◌==◌, ◌&&◌, Bool, cond, not, List, [], ◌∷◌, Option, None, Some}
use Rattle.std.specs.List.{filter}
use Rattle.std.specs.Option.{option_and_then}
use Rattle.h5_names.specs.AttributeText.{AttributeText, is_same_text}
use Rattle.h5_interface.specs.Ancestors.{AtOrAbove}
use Rattle.h5_interface.specs.Changes.{change_nodes, detach_from, edit_children, has_child, set_parents}
use Rattle.h5_interface.specs.Forest.{Child, ChildNode, ChildText, DocumentNode, Forest, IsNode, children_of, kind_of, parent_of}
use Rattle.h5_interface.specs.Seen.{CanAppend, CanInsertBefore}
use Rattle.h5_arena.specs.ArenaModel.{IsChildOf, IsNoChild, child_parent}
use Rattle.h5_arena.specs.declared.fault.EditError.{EditError}
use Rattle.h5_arena.specs.declared.fault.EditError.TheVariants.{EmptyText, HasParent, IsDocument, Memory, NoParent, UnknownNode, WouldBeCycle}

-- true if an attribute has this local name and no namespace
abbrev pub is_named : List ℕ → AttributeText → Bool
is_named local a = is_same_text a.name.ns [] && is_same_text a.name.local local

-- attributes, in which the first one with this name gets this value; if there is none, one is added at the end
abbrev pub with_value : (local value : List ℕ) → List AttributeText → List AttributeText
with_value local value [] = record { name = record { prefix = None; ns = []; local = local }; value = value } ∷ []
with_value local value (a ∷ attrs) = cond (is_named local a) (record a { value = value } ∷ attrs) (a ∷ with_value local value attrs)

-- attributes without those with this name
abbrev pub without_named : List ℕ → List AttributeText → List AttributeText
without_named local = filter (λ a. not (is_named local a))

-- the attributes of one node are edited
abbrev pub edit_attrs : ℕ → (List AttributeText → List AttributeText) → Forest → Forest
edit_attrs n edit = change_nodes (λ m d. record d { attrs = cond (m == n) (edit d.attrs) d.attrs })

-- the node whose child a node is; contents aren't a child
abbrev pub child_parent_of : Forest → ℕ → Option ℕ
child_parent_of f n = option_and_then child_parent (f.node n)

-- a node is removed from the children of its parent, with its subtree
abbrev pub take_out : ℕ → Forest → Forest
take_out n f = detach_from (child_parent_of f n) n f

-- this text as the only child, unless it is empty
abbrev pub text_alone : List ℕ → List Child
text_alone [] = []
text_alone (c ∷ t) = ChildText (c ∷ t) ∷ []

-- a text replaces the children of a node, which have no parent after that
abbrev pub with_text : ℕ → List ℕ → Forest → Forest
with_text n t f = set_parents (has_child (children_of f n)) None (edit_children n (λ _. text_alone t) f)

-- a child is a text or a node of the forest
abbrev pub IsThere : Forest → Child → Type 0
IsThere f (ChildNode c) = IsNode f c
IsThere f (ChildText t) = Unit {0}

-- the reason that a child can't be inserted below p
abbrev pub Bars : Forest → (p : ℕ) → Child → EditError → Type 0
Bars f p (ChildNode c) IsDocument = kind_of f c ≡ Some DocumentNode
Bars f p (ChildNode c) HasParent = parent_of f c ≢ None
Bars f p (ChildNode c) WouldBeCycle = AtOrAbove (parent_of f) c p
Bars f p (ChildNode c) _ = ⊥
Bars f p (ChildText t) EmptyText = t ≡ []
Bars f p (ChildText t) _ = ⊥

-- the reason that a child can't be appended to p; an allocation can fail only if it could be
abbrev pub KeepsFromAppend : Forest → (p : ℕ) → Child → EditError → Type 0
KeepsFromAppend f p x UnknownNode = ¬ (IsNode f p × IsThere f x)
KeepsFromAppend f p x Memory = CanAppend f p x
KeepsFromAppend f p x fault = IsNode f p × IsThere f x × Bars f p x fault

-- the reason that a child can't be inserted before s
abbrev pub KeepsFromInsert : Forest → (s : ℕ) → Child → EditError → Type 0
KeepsFromInsert f s x UnknownNode = ¬ (IsNode f s × IsThere f x)
KeepsFromInsert f s x NoParent = IsNode f s × IsThere f x × IsNoChild f s
KeepsFromInsert f s x Memory = CanInsertBefore f s x
KeepsFromInsert f s x fault = (p : ℕ) × IsChildOf f s p × IsThere f x × Bars f p x fault
