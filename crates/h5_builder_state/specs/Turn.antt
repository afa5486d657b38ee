-- Turns, as contracts of rules describe them.
use Rattle.std.specs.Prelude.{Result, IfOk}
use Rattle.std.specs.declared.alloc.AllocError.{AllocError}
use Rattle.h5_token.specs.TokenText.{TagText, tag_text}
use Rattle.h5_token.specs.declared.tag.Tag.{Tag}
use Rattle.h5_interface.specs.declared.sink.TreeSink.{Ghosts}
use Rattle.h5_tables.specs.TurnResult.{TurnResult}
use Rattle.h5_tables.specs.TurnResult as results
use Rattle.h5_tables.specs.TurnText.{TagTurn, TurnText, turn_text}
use Rattle.h5_tables.specs.declared.turns.ProcessResult.{ProcessResult}
use Rattle.h5_tables.specs.declared.turns.ProcessResult.TheVariants as ended
use Rattle.h5_tables.specs.declared.turns.Token.{Token}
use Rattle.h5_builder_spec.specs.Rows.{Follows, Row}
use Rattle.h5_builder_spec.specs.World.{World}
use Rattle.h5_builder_state.specs.Steps.{Becomes, IsSound, errors_of, world_of}
use Rattle.h5_builder_state.specs.declared.state.State.{State}

-- the end of a turn: the token that is reprocessed, and the reply, are in the state
abbrev pub turn_result : {H : Type 0} → ProcessResult → State H → TurnResult H
turn_result ended.Done state = results.Done
turn_result ended.DoneAckSelfClosing state = results.DoneAckSelfClosing
turn_result (ended.Reprocess mode) state = results.Reprocess mode state.again
turn_result ended.Answer state = results.Answer state.answer

-- the state changes in nothing that the world shows
abbrev pub KeepsWorld : {S H O : Type 0} → Ghosts S H O → S → State H → State H → Type 0
KeepsWorld law sink old_state new_state = Becomes law (λ w. w) sink old_state sink new_state

-- a turn for a token that follows a rule, if no allocation failed; the state is sound in any case
pub record FollowsRule {S H O : Type 0} (law : Ghosts S H O) (rule : World → Row) (token : TurnText) (old_sink : S) (old_state : State H) (new_sink : S) (new_state : State H) (result : Result ProcessResult AllocError) : Type 0 where
  pub follows : IfOk result (λ r. Follows law.choices law.node (rule (world_of law old_sink old_state)) token (world_of law old_sink old_state) (world_of law new_sink new_state) (errors_of law old_sink) (errors_of law new_sink) (turn_result r new_state))
  pub sound : IsSound law new_sink new_state

-- a tag, or any token, is handled by this rule
abbrev pub TakesTag : {S H O : Type 0} → Ghosts S H O → (TagText → World → Row) → Tag → S → State H → S → State H → Result ProcessResult AllocError → Type 0
TakesTag law rule tag old_sink old_state new_sink new_state result = FollowsRule law (rule (tag_text tag)) (TagTurn (tag_text tag)) old_sink old_state new_sink new_state result

abbrev pub TakesToken : {S H O : Type 0} → Ghosts S H O → (TurnText → World → Row) → Token → S → State H → S → State H → Result ProcessResult AllocError → Type 0
TakesToken law rule token old_sink old_state new_sink new_state result = FollowsRule law (rule (turn_text token)) (turn_text token) old_sink old_state new_sink new_state result
