-- Borrowed children, one by one.
use Rattle.std.specs.Borrow.{Bor}
use Rattle.std.specs.Prelude.{All, List, map}
use Rattle.h5_interface.specs.Forest as forest
use Rattle.h5_arena.specs.ArenaModel.{ArenaView, IsChildHeld, child_view}
use Rattle.h5_arena.specs.declared.nodes.Child.{Child}

abbrev pub lent_view : Bor Child → forest.Child
lent_view c = child_view c.now

abbrev pub lent_views : List (Bor Child) → List forest.Child
lent_views = map lent_view

abbrev pub IsHeldLent : ArenaView → Bor Child → Type 0
IsHeldLent a c = IsChildHeld a c.now

abbrev pub AreHeldLent : ArenaView → List (Bor Child) → Type 0
AreHeldLent a = All (IsHeldLent a)
