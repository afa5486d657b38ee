-- The mark of parse errors over a turn.
use Rattle.std.proofs.Common.{◌≡◌, ◌<◌, ℕ, Bool, true, false, refl, subst, sym}
use Rattle.h5_interface.specs.SinkChoices.{SinkChoices}
use Rattle.h5_builder_spec.specs.Rows.{Follows, Row}
use Rattle.h5_builder_spec.specs.World.{World}
use Rattle.h5_tables.specs.TurnResult.{TurnResult}
use Rattle.h5_tables.specs.TurnText.{TurnText}

-- if an error was reported before a turn, the mark isn't 0 after it
pub still_told : {H : Type 0} (choices : SinkChoices) (node : H → ℕ) (r : Row) (t : TurnText) (old new : World) (before after : ℕ) (result : TurnResult H) → Follows choices node r t old new before after result → 0 < before → 0 < after
still_told choices node r t old new before after result f told = at r.quiet refl
  where
    at : (b : Bool) → r.quiet ≡ b → 0 < after
    at true e = subst (λ n. 0 < n) (sym (f.quiet e)) told
    at false e = f.noted e
