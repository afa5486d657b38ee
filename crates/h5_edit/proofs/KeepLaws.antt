-- What calls keep: the same is kept by one after another.
use Rattle.std.proofs.Common.{◌∙◌, ℕ, refl}
use Rattle.h5_arena.specs.ArenaModel.{ArenaView, forest_seen}
use Rattle.h5_edit.specs.Editing.{EditText}
use Rattle.h5_edit.specs.EditModel.{KeepsFromEdit, MovesNodes, Suits}
use Rattle.h5_edit.specs.Moving.{IsMoveFault, KeepsRest}
use Rattle.h5_edit.specs.declared.fault.EditFault.{EditFault}
use Rattle.h5_edit.specs.declared.fault.EditFault.TheVariants.{Memory, NotAChild, NotAnElement, WouldBeCycle}

-- nothing has changed
pub keeps_same : (a : ArenaView) → KeepsRest a a
keeps_same a = record { errors = (refl, refl, refl); held = refl; elements = λ n e. e }

pub keeps_both : (a b c : ArenaView) → KeepsRest a b → KeepsRest b c → KeepsRest a c
keeps_both a b c x y = record {
  errors = (y.errors.0 ∙ x.errors.0, y.errors.1 ∙ x.errors.1, y.errors.2 ∙ x.errors.2);
  held = y.held ∙ x.held;
  elements = λ n e. y.elements n (x.elements n e);
}

-- a failed move is a reason of each edit that moves nodes
pub told_of_move : (e : EditText) (old new : ArenaView) (n : ℕ) (fault : EditFault) → IsMoveFault fault → MovesNodes e → Suits e (forest_seen old) n → KeepsFromEdit e old new n fault
told_of_move e old new n NotAnElement h m s = absurd h
told_of_move e old new n NotAChild h m s = absurd h
told_of_move e old new n WouldBeCycle h m s = (m, s)
told_of_move e old new n Memory h m s = (s, λ none. absurd (none m))
