-- The open nodes of a tree while it is printed.
use Rattle.std.specs.Prelude.{◌≡◌, ◌⊎◌, ℕ, suc, List, [], ◌∷◌, ◌++◌, All, None, Some, drop, length, slice_get, codes}
use Rattle.h5_interface.specs.Forest.{Node}
use Rattle.h5_arena.specs.ArenaModel.{ArenaView, IsHeld}
use Rattle.h5_arena.specs.declared.nodes.NodeId.{NodeId}
use Rattle.h5_print.specs.Nodes.{line}
use Rattle.h5_print.specs.Printed.{Printed, first_lines}
use Rattle.h5_print.specs.declared.tree.Frame.{Frame}

-- all are nodes of the arena
abbrev pub AreHeld : ArenaView → List Frame → Type 0
AreHeld a = All (λ frame. IsHeld a frame.node)

-- the text that is left for open nodes, the innermost last: for each the children that aren't printed, at a level equal to the number of
-- open nodes around it
pub data Left (a : ArenaView) : List Frame → List ℕ → Type 0 where
  NoneOpen : Left a [] []
  OneOpen : {frames : List Frame} {rest below : List ℕ} (f : Frame) (d : Node) → slice_get a.nodes f.node.index ≡ Some d → Printed a (length frames) (drop f.printed d.children) rest → Left a frames below → Left a (frames ++ f ∷ []) (rest ++ below)

-- printing continued: a text that completes the new open nodes also completes the old ones, after what was printed
abbrev pub GoesOn : ArenaView → List Frame → List ℕ → List Frame → List ℕ → Type 0
GoesOn a old was new is = (text : List ℕ) → Left a new text → (more : List ℕ) × Left a old more × (was ++ more ≡ is ++ text)

-- a node, none of whose children is printed
abbrev pub opened : NodeId → Frame
opened id = record { node = id; printed = 0 }

-- a node was opened: its first lines were printed and, for a template, the line before its contents
abbrev pub Opens : ArenaView → NodeId → ℕ → List Frame → List ℕ → List Frame → List ℕ → Type 0
Opens a id level frames was new is = (d : Node) × (slice_get a.nodes id.index ≡ Some d)
    × (((d.contents ≡ None) × (new ≡ frames ++ opened id ∷ []) × (is ≡ was ++ first_lines level d))
    ⊎ ((c : NodeId) × (d.contents ≡ Some c.index) × (IsHeld a c) × (new ≡ (frames ++ opened id ∷ []) ++ opened c ∷ [])
    × (is ≡ was ++ (first_lines level d ++ line (suc level) (codes "content")))))
