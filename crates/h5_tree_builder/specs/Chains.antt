-- The effect of code that runs several turns.
use Rattle.std.specs.Prelude.{◌≡◌, ◌<◌, ℕ, ◌+◌, Bool, true, false, Result, IfOk, OnOk}
use Rattle.std.specs.declared.alloc.AllocError.{AllocError}
use Rattle.h5_token.specs.Reply.{reply}
use Rattle.h5_token.specs.TokenText.{TokenText, Characters, ParseErrorIs}
use Rattle.h5_interface.specs.SinkChoices.{SinkChoices}
use Rattle.h5_interface.specs.declared.sink.TreeSink.{Ghosts}
use Rattle.h5_tables.specs.TurnText.{TurnText}
use Rattle.h5_builder_spec.specs.Run.{is_empty_text, without_lf}
use Rattle.h5_builder_spec.specs.Settle.{Settled, settle}
use Rattle.h5_builder_spec.specs.inner.Kept.{Fits}
use Rattle.h5_builder_spec.specs.World.{World}
use Rattle.h5_builder_state.specs.Steps.{IsSound, errors_of, world_of}
use Rattle.h5_builder_state.specs.declared.state.State.{State}
use Rattle.h5_tree_builder.specs.declared.turns_taken.Taken.{Taken}

-- a token may be taken: the state is sound, and fits its mode
pub record IsReady {S H O : Type 0} (law : Ghosts S H O) (sink : S) (state : State H) : Type 0 where
  pub sound : IsSound law sink state
  pub fits : Fits (world_of law sink state)

-- the effect of a token is the defined one: the world, the turns if they are counted, and the reply; no error is
-- reported if the definition is quiet, and one is if it isn't and the turns are counted
pub record CameTo {H : Type 0} (node : H → ℕ) (s : Settled) (counted : Bool) (new : World) (old_errors new_errors : ℕ) (taken : Taken H) : Type 0 where
  pub world : new ≡ s.world
  pub turns : counted ≡ true → taken.turns ≡ s.turns
  pub reply : reply node taken.answer ≡ s.reply
  pub quiet : s.quiet ≡ true → new_errors ≡ old_errors
  pub noted : counted ≡ true → s.quiet ≡ false → 0 < new_errors

-- as `CameTo`, if no allocation failed; the state is sound in any case
pub record Settles {S H O : Type 0} (law : Ghosts S H O) (defined : World → Settled) (counted : Bool) (old_sink : S) (old_state : State H) (new_sink : S) (new_state : State H) (result : Result (Taken H) AllocError) : Type 0 where
  pub came : IfOk result (λ r. CameTo law.node (defined (world_of law old_sink old_state)) counted (world_of law new_sink new_state) (errors_of law old_sink) (errors_of law new_sink) r)
  pub sound : IsSound law new_sink new_state
  pub fits : OnOk result (Fits (world_of law new_sink new_state))

-- after `count` turns: the chain of the first world ends as that of this one
pub record Left (choices : SinkChoices) (t : TurnText) (first now : World) (first_errors errors count : ℕ) : Type 0 where
  pub world : (settle choices t first).world ≡ (settle choices t now).world
  pub turns : (settle choices t first).turns ≡ (settle choices t now).turns + count
  pub reply : (settle choices t first).reply ≡ (settle choices t now).reply
  pub quiet : (settle choices t first).quiet ≡ true → ((settle choices t now).quiet ≡ true) × (errors ≡ first_errors)
  pub noted : (settle choices t first).quiet ≡ false → (settle choices t now).quiet ≡ true → 0 < errors

-- tokens that need no allocation: a parse error, and a text that is or becomes empty
abbrev pub is_free : TokenText → World → Bool
is_free (Characters text) w = is_empty_text (without_lf w.ignore_lf text)
is_free (ParseErrorIs message) w = true
is_free _ w = false
