-- The turns of one token: a chain of rules, in which each but the last ends in "again" (HTML standard, section 13.2.6,
-- "the tree construction dispatcher").
use Rattle.std.specs.Prelude.{◌≡◌, ℕ, zero, suc, ◌+◌, Bool, true, not, ◌&&◌, length, Option, Some, None}
use Rattle.h5_token.specs.Reply.{Reply, Continues}
use Rattle.h5_interface.specs.SinkChoices.{SinkChoices}
use Rattle.h5_tables.specs.TurnText.{TurnText, is_self_closing}
use Rattle.h5_tables.specs.declared.modes.InsertionMode.{InsertionMode}
use Rattle.h5_builder_spec.specs.Changes.{set_mode}
use Rattle.h5_builder_spec.specs.modes.ForeignContent.{dispatch}
use Rattle.h5_builder_spec.specs.Rows.{Answers, Ending, IsDone, Row, changed_by, next_mode}
use Rattle.h5_builder_spec.specs.World.{World}

-- the effect of a token: the world after it, the number of its turns, the reply, and that no parse error was reported
-- (`quiet`)
pub record Settled : Type 0 where
  pub world : World
  pub turns : ℕ
  pub reply : Reply
  pub quiet : Bool

-- the reply of a last turn
abbrev pub answer_of : Ending → Reply
answer_of (Answers answer) = answer
answer_of _ = Continues

-- a start tag with a self-closing flag that wasn't acknowledged is a parse error once the token is done
abbrev pub is_quiet_end : TurnText → Ending → Bool
is_quiet_end t IsDone = not (is_self_closing t)
is_quiet_end t _ = true

-- the effect of a last turn
abbrev pub ends_with : TurnText → Row → World → Settled
ends_with t r w = record { world = w; turns = 1; reply = answer_of r.ending; quiet = r.quiet && is_quiet_end t r.ending }

-- the effect of a turn that is followed by others
abbrev pub goes_on_to : Row → Settled → Settled
goes_on_to r s = record { world = s.world; turns = s.turns + 1; reply = s.reply; quiet = r.quiet && s.quiet }

-- THE CHAIN of a token from a world: a turn by its rule there, which is the last one, or is followed by the chain from
-- the mode that its ending names
pub data Chain (choices : SinkChoices) (t : TurnText) : World → Settled → Type 0 where
  Ends : (w : World) → next_mode (dispatch choices t w).ending (changed_by choices (dispatch choices t w) w) ≡ None
      → Chain choices t w (ends_with t (dispatch choices t w) (changed_by choices (dispatch choices t w) w))
  GoesOn : (w : World) (mode : InsertionMode) (s : Settled) → next_mode (dispatch choices t w).ending (changed_by choices (dispatch choices t w) w) ≡ Some mode
      → Chain choices t (set_mode mode (changed_by choices (dispatch choices t w) w)) s → Chain choices t w (goes_on_to (dispatch choices t w) s)

-- one turn by a row, and what follows it
abbrev pub then_turns : (World → Settled) → TurnText → Row → World → Option InsertionMode → Settled
then_turns go t r w None = ends_with t r w
then_turns go t r w (Some mode) = goes_on_to r (go (set_mode mode w))

abbrev pub by_row : SinkChoices → (World → Settled) → TurnText → Row → World → Settled
by_row choices go t r w = then_turns go t r (changed_by choices r w) (next_mode r.ending (changed_by choices r w))

-- the effect of a token within at most n turns
unfoldable pub settle_within : SinkChoices → ℕ → TurnText → World → Settled
settle_within choices zero t w = record { world = w; turns = 0; reply = Continues; quiet = true }
settle_within choices (suc n) t w = by_row choices (λ v. settle_within choices n t v) t (dispatch choices t w) w

-- the effect of a token; sixteen turns, and one for each open element, are more than enough
unfoldable pub settle : SinkChoices → TurnText → World → Settled
settle choices t w = settle_within choices (16 + length w.stack) t w

-- a token has this chain, and no other
pub record IsOneChain (choices : SinkChoices) (t : TurnText) (w : World) : Type 0 where
  pub chain : Chain choices t w (settle choices t w)
  pub no_other : (s : Settled) → Chain choices t w s → s ≡ settle choices t w
