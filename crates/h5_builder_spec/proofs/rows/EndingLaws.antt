-- How a row ends: if another turn is taken, and if there is a reply.
use Rattle.std.proofs.Common.{◌∙◌, ◌≡◌, ℕ, Bool, None, Some, false, refl, sym}
use Rattle.h5_tables.specs.TurnResult.{TurnResult}
use Rattle.h5_tables.specs.TurnResult as results
use Rattle.h5_tables.specs.TurnText.{TurnText}
use Rattle.h5_builder_spec.specs.Changes.{set_foster}
use Rattle.h5_builder_spec.specs.Rows.{Again, AgainBy, Answers, Ending, EndsAs, IsAcknowledged, IsDone, Row, next_mode}
use Rattle.h5_builder_spec.specs.World.{World}
use Rattle.h5_builder_spec.proofs.changes.ListsLaws.{NeedsOfAll}
use Rattle.h5_builder_spec.proofs.rows.KeptLaws.{IsBlind}
use Rattle.h5_builder_spec.proofs.rows.RowTexts.{IsTold}

-- an ending after which no other turn is taken
abbrev pub Stops : Ending → Type 0
Stops IsDone = Unit {0}
Stops IsAcknowledged = Unit {0}
Stops (Answers answer) = Unit {0}
Stops (Again k) = ⊥
Stops (AgainBy mode) = ⊥

abbrev pub RowStops : Row → Type 0
RowStops r = Stops r.ending

pub stops_next : (x : Ending) → Stops x → (v : World) → next_mode x v ≡ None
stops_next IsDone h v = refl
stops_next IsAcknowledged h v = refl
stops_next (Answers answer) h v = refl
stops_next (Again k) h v = absurd h
stops_next (AgainBy mode) h v = absurd h

pub stops_blind : (r : Row) → RowStops r → IsBlind r
stops_blind r h on v = stops_next r.ending h (set_foster on v) ∙ sym (stops_next r.ending h v)

-- what ended the turn so ends it in any world
pub ends_anywhere : {H : Type 0} (node : H → ℕ) (t : TurnText) (result : TurnResult H) (e : Ending) (u v : World) → ((x : World) → next_mode e x ≡ None) → EndsAs node t result e u → EndsAs node t result e v
ends_anywhere node t results.Done e u v none ends = ends
ends_anywhere node t results.DoneAckSelfClosing e u v none ends = ends
ends_anywhere node t (results.Reprocess mode token) e u v none ends = absurd (let clash : None ≡ Some mode = sym (none u) ∙ ends.0 in cc)
ends_anywhere node t (results.Answer answer) e u v none ends = ends

-- an ending that answers nothing of its own
abbrev pub Silent : Ending → Type 0
Silent (Answers answer) = ⊥
Silent _ = Unit {0}

-- a row that ends the turn, by its changes and its ending alone; something may be answered to a start tag
pub record EndsTurn (starts : Bool) (r : Row) : Type 0 where
  pub stops : RowStops r
  pub told : IsTold r
  pub silent : starts ≡ false → Silent r.ending
  pub needs : NeedsOfAll r.changes
