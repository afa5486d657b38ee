-- Head content after the head: the effect of its row, after the head element was removed from the stack again.
use Rattle.std.proofs.Common.{◌≡◌, ◌≢◌, ◌<◌, ℕ, MatchOption, None, Option, Some, option_map, codes, true, ap, sym, ◌∙◌}
use Rattle.h5_token.specs.Reply.{reply}
use Rattle.h5_token.specs.TokenText.{TagText}
use Rattle.h5_interface.specs.Forest.{IsElement}
use Rattle.h5_interface.specs.SinkChoices.{SinkChoices}
use Rattle.h5_tables.specs.TurnText.{TagTurn, TurnText}
use Rattle.h5_tables.specs.declared.turns.ProcessResult.{ProcessResult}
use Rattle.h5_tables.specs.declared.turns.ProcessResult.TheVariants as ended
use Rattle.h5_tables.specs.TagSets.{is_one_of}
use Rattle.h5_builder_spec.specs.modes.AfterHead.{removes_known, with_head}
use Rattle.h5_builder_spec.specs.Changes.{push_head}
use Rattle.h5_builder_spec.specs.modes.InHead.{in_head_start_tag}
use Rattle.h5_builder_spec.specs.formatting.FormattingNames.{html_name}
use Rattle.h5_builder_spec.specs.Sound.{Sound}
use Rattle.h5_builder_spec.specs.Rows.{Answers, Ending, EndsAs, Follows, apply_all, next_mode}
use Rattle.h5_builder_spec.specs.modes.Shared.{head_start_names}
use Rattle.h5_builder_spec.specs.World.{World, root}
use Rattle.h5_builder_spec.proofs.modes.AfterHead.{by_head}
use Rattle.h5_builder_spec.proofs.rows.EndingLaws.{ends_anywhere, stops_next}
use Rattle.h5_builder_spec.proofs.rows.KeptLaws.{apply_append}
use Rattle.h5_builder_state.specs.Turn.{turn_result}
use Rattle.h5_builder_state.specs.declared.state.State.{State}

-- if no other turn is taken, how a turn ended stays while the state keeps what is answered
ends_alike : {H : Type 0} (node : H → ℕ) (t : TurnText) (result : ProcessResult) (s z : State H) (e : Ending) (v : World) → ((x : World) → next_mode e x ≡ None) → reply node z.answer ≡ reply node s.answer → EndsAs node t (turn_result result s) e v
    → EndsAs node t (turn_result result z) e v
ends_alike node t ended.Done s z e v none same ends = ends
ends_alike node t ended.DoneAckSelfClosing s z e v none same ends = ends
ends_alike node t (ended.Reprocess mode) s z e v none same ends = absurd (let clash : None ≡ Some mode = sym (none v) ∙ ends.0 in cc)
ends_alike node t ended.Answer s z e v none same ends = ends ∙ ap Answers (sym same)

-- the row of the head, and then the head element leaves the stack, if there is one
pub followed : {H : Type 0} (choices : SinkChoices) (node : H → ℕ) (tag : TagText) (w u v : World) (a b : ℕ) (result : ProcessResult) (s z : State H) (known : Option ℕ) → is_one_of head_start_names tag.name ≡ true → reply node z.answer ≡ reply node s.answer
    → known ≡ w.head → u ≡ apply_all choices (in_head_start_tag tag (push_head w)).changes (push_head w) → EndsAs node (TagTurn tag) (turn_result result s) (in_head_start_tag tag (push_head w)).ending u
    → v ≡ apply_all choices (removes_known known) u → 0 < b → Follows choices node (with_head in_head_start_tag tag w) (TagTurn tag) w v a b (turn_result result z)
unfolding with_head
followed choices node tag w u v a b result s z known name same is done ends left told =
    let x = push_head w in
    let r = in_head_start_tag tag x in
    let none = stops_next r.ending (by_head tag w name).ends.stops in
    record {
      world = left ∙ ap (λ o. apply_all choices (removes_known o) u) is ∙ ap (apply_all choices (removes_known w.head)) done ∙ sym (apply_append choices r.changes (removes_known w.head) x);
      ending = ends_alike node (TagTurn tag) result s z r.ending v none same (ends_anywhere node (TagTurn tag) (turn_result result s) r.ending u v none ends);
      quiet = λ h. absurd (cc);
      noted = λ h. told;
    }

-- the head element isn't the root, if there is one
pub apart_if_known : {H : Type 0} (node : H → ℕ) (o : Option H) (w u : World) → option_map node o ≡ w.head → ((h : ℕ) → w.head ≡ Some h → h ≢ root u) → MatchOption o (Unit {0}) (λ h. node h ≢ root u)
apart_if_known node None w u e apart = tt
apart_if_known node (Some h) w u e apart = apart (node h) (sym e)

-- and it is an element
pub element_if_known : {H : Type 0} (node : H → ℕ) (o : Option H) (u : World) → Sound u → option_map node o ≡ u.head → MatchOption o (Unit {0}) (λ h. IsElement u.forest (node h))
element_if_known node None u k e = tt
element_if_known node (Some h) u k e = (html_name (codes "head"), k.head_node (node h) (sym e))
