-- Children that are moved, and what a call leaves unchanged.
use Rattle.std.specs.Prelude.{◌≡◌, ◌<◌, ◌==◌, ℕ, Bool, false, List, length, map}
use Rattle.h5_interface.specs.Forest.{Child, ChildNode, ChildText, IsElement}
use Rattle.h5_interface.specs.Seen.{child_of}
use Rattle.h5_interface.specs.declared.sink.NodeOrText.{NodeOrText}
use Rattle.h5_arena.specs.ArenaModel.{ArenaView, KeepsErrors, forest_seen, place}
use Rattle.h5_arena.specs.declared.fault.EditError.{EditError}
use Rattle.h5_arena.specs.declared.fault.EditError.TheVariants as error
use Rattle.h5_arena.specs.declared.nodes.NodeId.{NodeId}
use Rattle.h5_edit.specs.declared.fault.EditFault.{EditFault}
use Rattle.h5_edit.specs.declared.fault.EditFault.TheVariants.{Memory, NotAChild, NotAnElement, WouldBeCycle}

-- the children that are passed
abbrev pub passed : List (NodeOrText NodeId) → List Child
passed = map (child_of place)

-- a child that is a node is one of the first `count` nodes
abbrev pub IsWithin : ℕ → Child → Type 0
IsWithin count (ChildNode n) = n < count
IsWithin count (ChildText t) = Unit {0}

-- true if a child is this node
abbrev pub is_node : ℕ → Child → Bool
is_node n (ChildNode c) = c == n
is_node n (ChildText t) = false

-- the texts of errors, the number of nodes and all elements are kept
pub record KeepsRest (old new : ArenaView) : Type 0 where
  pub errors : KeepsErrors old new
  pub held : length new.nodes ≡ length old.nodes
  pub elements : (n : ℕ) → IsElement (forest_seen old) n → IsElement (forest_seen new) n

-- the reason that a move fails
abbrev pub move_fault : EditError → EditFault
move_fault error.UnknownNode = WouldBeCycle
move_fault error.IsDocument = WouldBeCycle
move_fault error.HasParent = WouldBeCycle
move_fault error.WouldBeCycle = WouldBeCycle
move_fault error.EmptyText = WouldBeCycle
move_fault error.NoParent = WouldBeCycle
move_fault error.Memory = Memory

abbrev pub IsMoveFault : EditFault → Type 0
IsMoveFault NotAnElement = ⊥
IsMoveFault NotAChild = ⊥
IsMoveFault WouldBeCycle = Unit {0}
IsMoveFault Memory = Unit {0}
