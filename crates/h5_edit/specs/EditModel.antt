-- The edits as a caller passes them: where each is possible, and why it fails.
use Rattle.std.specs.Prelude.{◌≡◌, ◌<◌, ℕ, length}
use Rattle.h5_interface.specs.Forest.{Forest, IsElement}
use Rattle.h5_arena.specs.ArenaModel.{ArenaView, IsChildOf, IsNoChild, forest_seen}
use Rattle.h5_edit.specs.Editing.{Append, EditText, InsertAfter, InsertBefore, Prepend, Remove, RemoveAttribute, Replace, SetAttribute, SetText, Unwrap}
use Rattle.h5_edit.specs.declared.edit.Edit.{Edit}
use Rattle.h5_edit.specs.declared.edit.Edit.TheVariants as edit_is
use Rattle.h5_edit.specs.declared.fault.EditFault.{EditFault}
use Rattle.h5_edit.specs.declared.fault.EditFault.TheVariants.{Memory, NotAChild, NotAnElement, WouldBeCycle}

-- an edit, independent of where its texts are in memory
abbrev pub edit_view : Edit → EditText
edit_view edit_is.Remove = Remove
edit_view edit_is.Unwrap = Unwrap
edit_view (edit_is.SetAttribute name value) = SetAttribute name.now value.now
edit_view (edit_is.RemoveAttribute name) = RemoveAttribute name.now
edit_view (edit_is.SetText text) = SetText text.now
edit_view (edit_is.InsertBefore from) = InsertBefore from.index
edit_view (edit_is.InsertAfter from) = InsertAfter from.index
edit_view (edit_is.Prepend from) = Prepend from.index
edit_view (edit_is.Append from) = Append from.index
edit_view (edit_is.Replace from) = Replace from.index

-- the node whose children are inserted, if there is one, is a node of the arena
abbrev pub HoldsFrom : ArenaView → EditText → Type 0
HoldsFrom a Remove = Unit {0}
HoldsFrom a Unwrap = Unit {0}
HoldsFrom a (SetAttribute name value) = Unit {0}
HoldsFrom a (RemoveAttribute name) = Unit {0}
HoldsFrom a (SetText text) = Unit {0}
HoldsFrom a (InsertBefore from) = from < length a.nodes
HoldsFrom a (InsertAfter from) = from < length a.nodes
HoldsFrom a (Prepend from) = from < length a.nodes
HoldsFrom a (Append from) = from < length a.nodes
HoldsFrom a (Replace from) = from < length a.nodes

-- a node is a child
abbrev pub IsAChild : Forest → ℕ → Type 0
IsAChild f n = (p : ℕ) × IsChildOf f n p

-- the edit is one of an element
abbrev pub IsOfElement : EditText → Type 0
IsOfElement Remove = ⊥
IsOfElement Unwrap = ⊥
IsOfElement (SetAttribute name value) = Unit {0}
IsOfElement (RemoveAttribute name) = Unit {0}
IsOfElement (SetText text) = Unit {0}
IsOfElement (InsertBefore from) = ⊥
IsOfElement (InsertAfter from) = ⊥
IsOfElement (Prepend from) = Unit {0}
IsOfElement (Append from) = Unit {0}
IsOfElement (Replace from) = ⊥

-- the edit moves nodes below another parent
abbrev pub MovesNodes : EditText → Type 0
MovesNodes Remove = ⊥
MovesNodes Unwrap = Unit {0}
MovesNodes (SetAttribute name value) = ⊥
MovesNodes (RemoveAttribute name) = ⊥
MovesNodes (SetText text) = ⊥
MovesNodes (InsertBefore from) = Unit {0}
MovesNodes (InsertAfter from) = Unit {0}
MovesNodes (Prepend from) = Unit {0}
MovesNodes (Append from) = Unit {0}
MovesNodes (Replace from) = Unit {0}

-- the edit is possible at a node: it is an element, or a child
abbrev pub Suits : EditText → Forest → ℕ → Type 0
Suits Remove f n = IsAChild f n
Suits Unwrap f n = IsAChild f n
Suits (SetAttribute name value) f n = IsElement f n
Suits (RemoveAttribute name) f n = IsElement f n
Suits (SetText text) f n = IsElement f n
Suits (InsertBefore from) f n = IsAChild f n
Suits (InsertAfter from) f n = IsAChild f n
Suits (Prepend from) f n = IsElement f n
Suits (Append from) f n = IsElement f n
Suits (Replace from) f n = IsAChild f n

-- why an edit fails at a node, and what it leaves: an edit of one node, or one that is refused, changes nothing
abbrev pub KeepsFromEdit : EditText → (old new : ArenaView) → ℕ → EditFault → Type 0
KeepsFromEdit e old new n NotAnElement = IsOfElement e × (¬ (IsElement (forest_seen old) n)) × (new ≡ old)
KeepsFromEdit e old new n NotAChild = (¬ (IsOfElement e)) × IsNoChild (forest_seen old) n × (new ≡ old)
KeepsFromEdit e old new n WouldBeCycle = MovesNodes e × Suits e (forest_seen old) n
KeepsFromEdit e old new n Memory = Suits e (forest_seen old) n × ((¬ (MovesNodes e)) → new ≡ old)
