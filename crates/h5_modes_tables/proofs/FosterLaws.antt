-- A turn with foster parenting on.
use Rattle.std.proofs.Common.{◌<◌, ◌≡◌, ℕ, true, false, Result, Ok, Err, ap, refl, subst, sym}
use Rattle.std.specs.Prelude.{IfOk}
use Rattle.std.specs.declared.alloc.AllocError.{AllocError}
use Rattle.h5_interface.specs.SinkChoices.{SinkChoices}
use Rattle.h5_tables.specs.TurnResult as results
use Rattle.h5_tables.specs.TurnText.{TurnText}
use Rattle.h5_tables.specs.declared.turns.ProcessResult.{ProcessResult}
use Rattle.h5_tables.specs.declared.turns.ProcessResult.TheVariants as ended
use Rattle.h5_builder_spec.specs.Changes.{set_foster}
use Rattle.h5_builder_spec.specs.modes.InBody.{in_body}
use Rattle.h5_builder_spec.specs.Rows.{Follows}
use Rattle.h5_builder_spec.specs.inner.Kept.{HasHtmlRoot}
use Rattle.h5_builder_spec.specs.modes.Tables.{foster}
use Rattle.h5_builder_spec.specs.World.{World, names_of}
use Rattle.h5_builder_spec.proofs.modes.FosterLaws.{foster_follows}
use Rattle.h5_builder_state.specs.Turn.{turn_result}
use Rattle.h5_builder_state.specs.declared.state.State.{State}

-- the body doesn't need the flag
pub ready_foster : (w : World) → HasHtmlRoot w → HasHtmlRoot (set_foster true w)
unfolding names_of
ready_foster w k = record { sound = k.sound; lists = k.lists; root = k.root }

-- how a turn ended stays where the state keeps what it left
kept_result : {H : Type 0} (r : ProcessResult) (s z : State H) → z.again ≡ s.again → z.answer ≡ s.answer → turn_result r s ≡ turn_result r z
kept_result ended.Done s z again answer = refl
kept_result ended.DoneAckSelfClosing s z again answer = refl
kept_result (ended.Reprocess mode) s z again answer = ap (λ x. results.Reprocess mode x) (sym again)
kept_result ended.Answer s z again answer = ap (λ x. results.Answer x) (sym answer)

-- a turn by the rules of "in body" in which no allocation failed is one with the flag on
pub foster_if_ok : {H : Type 0} (choices : SinkChoices) (node : H → ℕ) (t : TurnText) (w v u : World) (a b c d : ℕ) (s z : State H) (result : Result ProcessResult AllocError) → z.again ≡ s.again → z.answer ≡ s.answer
    → IfOk result (λ r. Follows choices node (in_body t (set_foster true w)) t (set_foster true w) v a b (turn_result r s)) → u ≡ set_foster false v
    → 0 < a → d ≡ b → IfOk result (λ r. Follows choices node (foster in_body t w) t w u c d (turn_result r z))
foster_if_ok choices node t w v u a b c d s z (Ok r) again answer f e told same =
    let on = set_foster true w in
    foster_follows choices node t w v u a b c d (turn_result r z) (subst (Follows choices node (in_body t on) t on v a b) (kept_result r s z again answer) f) e told same
foster_if_ok choices node t w v u a b c d s z (Err refused) again answer f e told same = f
