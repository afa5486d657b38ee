-- A builder's first world, and what a token did seen as a whole.
use Rattle.std.proofs.Common.{◌≡◌, ◌≤◌, ◌+◌, ℕ, length, false, List, [], ◌∷◌, refl, ap, sym, subst, ◌∙◌, arith}
use Rattle.h5_token.specs.Reply.{reply}
use Rattle.h5_token.specs.TokenText.{DoctypeText, TokenText, DoctypeIs, TagIs, CommentIs, Characters, NullCharacter, EndOfFile, ParseErrorIs}
use Rattle.h5_interface.specs.Forest.{IsForest}
use Rattle.h5_interface.specs.Seen.{Seen}
use Rattle.h5_interface.specs.SinkChoices.{SinkChoices}
use Rattle.h5_tables.specs.TurnText.{TagTurn, CommentTurn, NullTurn, EofTurn}
use Rattle.h5_tables.specs.declared.entry.FormatEntry.{FormatEntry}
use Rattle.h5_tables.specs.declared.modes.InsertionMode.{InsertionMode}
use Rattle.h5_tables.specs.declared.modes.InsertionMode.TheVariants.{Initial}
use Rattle.h5_tables.specs.declared.options.TreeBuilderOpts.{TreeBuilderOpts}
use Rattle.h5_builder_spec.specs.Run.{doctype_in, is_counted, refuses_in, step, take_or_refuse, taken, tell_or_refuse, text_step, without_lf}
use Rattle.h5_interface.specs.declared.sink.TreeSink.{Ghosts}
use Rattle.h5_builder_spec.specs.inner.Kept.{Fits, HasLists}
use Rattle.h5_builder_spec.specs.Sound.{Sound}
use Rattle.h5_builder_spec.specs.World.{World, names_of}
use Rattle.h5_builder_laws.proofs.turns.TurnLaws.{turns_few}
use Rattle.h5_builder_laws.proofs.cuts.RunLaws.{is_taken, moved}
use Rattle.h5_builder_laws.proofs.StartLaws.{all_none, fits_none, lists_none}
use Rattle.h5_builder_state.specs.Steps.{world_of}
use Rattle.h5_builder_state.specs.Stamps.{AreStamped}
use Rattle.h5_builder_state.specs.Summaries.{IsKept as StackIsKept}
use Rattle.h5_builder_state.specs.declared.open_element.Listed.{Listed}
use Rattle.h5_builder_state.specs.declared.open_element.OpenElements.{OpenElements}
use Rattle.h5_builder_state.specs.declared.state.State.{State}
use Rattle.h5_tree_builder.specs.Builder.{Answered, Building, first_world}
use Rattle.h5_tree_builder.specs.Chains.{CameTo}
use Rattle.h5_tree_builder.specs.Held.{IsKept}
use Rattle.h5_tree_builder.specs.declared.turns_taken.Taken.{Taken}

pub fits_first : (seen : Seen) (opts : TreeBuilderOpts) → Fits (first_world seen opts)
unfolding names_of
fits_first seen opts = record { mode = fits_none (first_world seen opts) refl refl; lists = lists_none }

names_first : (seen : Seen) (opts : TreeBuilderOpts) → names_of (first_world seen opts) ≡ []
unfolding names_of
names_first seen opts = refl

-- nothing is listed
pub stamped_none : {H : Type 0} (node : H → ℕ) (open_elems : OpenElements H) (entries : List (FormatEntry (Listed H))) → entries ≡ [] → AreStamped node open_elems entries
unfolding AreStamped
stamped_none node open_elems entries e = λ k d h. absurd (omega (arith, h, ap length e))

pub first_kept : {S H O : Type 0} (law : Ghosts S H O) (sink : S) (state : State H) (opts : TreeBuilderOpts) → IsForest (law.sees sink).forest → StackIsKept state.open_elems [] → AreStamped law.node state.open_elems state.active_formatting → world_of law sink state ≡ first_world (law.sees sink) opts
    → IsKept law (record { sink = sink; state = state; ended = false; failed = false; turns = 0 })
first_kept law sink state opts k none stamped e = record {
  sound = record {
    sound = subst Sound (sym e) (all_none (law.sees sink).forest k);
    kept = subst (StackIsKept state.open_elems) (sym (ap names_of e ∙ names_first (law.sees sink) opts)) none;
    stamped = stamped;
  };
  fits = λ a b. subst Fits (sym e) (fits_first (law.sees sink) opts);
  lists = λ a. subst HasLists (sym e) lists_none;
  closed = λ h. ap (λ (w : World). w.stack) e;
}

-- a token takes few turns
doctype_few : (m : InsertionMode) (choices : SinkChoices) (d : DoctypeText) (w : World) → (doctype_in m choices d w).turns ≡ 0
doctype_few Initial choices d w = refl
doctype_few _ choices d w = refl

text_few : (choices : SinkChoices) (t : List ℕ) (w : World) → (text_step choices t w).turns ≡ 0
text_few choices [] w = refl
text_few choices (b ∷ t) w = refl

pub step_few : (choices : SinkChoices) (t : TokenText) (w : World) → (step choices t w).turns ≤ 16 + length w.stack
unfolding step
step_few choices (DoctypeIs d) w = omega (arith, doctype_few w.mode choices d (taken w))
step_few choices (TagIs t) w = turns_few choices (TagTurn t) (taken w)
step_few choices (CommentIs t) w = turns_few choices (CommentTurn t) (taken w)
step_few choices (Characters t) w = omega (arith, text_few choices (without_lf w.ignore_lf t) (taken w))
step_few choices NullCharacter w = turns_few choices NullTurn (taken w)
step_few choices EndOfFile w = turns_few choices EofTurn (taken w)
step_few choices (ParseErrorIs m) w = omega arith

pub answered : {H : Type 0} (choices : SinkChoices) (node : H → ℕ) (t : TokenText) (old new : Building) (taken : Taken H) → old.view.failed ≡ false → old.view.ended ≡ false → refuses_in old.view.world.mode t ≡ false → new.view ≡ moved old.view new.view.world → new.turns ≡ taken.turns
    → CameTo node (step choices t old.view.world) (is_counted t old.view.world) new.view.world old.errors new.errors taken → Answered choices t old new (reply node taken.answer)
answered choices node t old new taken f e comes same n s =
    let v = old.view in
    let r = is_taken v t f e comes in
    record {
      view = same ∙ ap (moved v) s.world ∙ sym (ap (λ o. take_or_refuse choices t o v) r);
      reply = s.reply ∙ sym (ap (λ o. (tell_or_refuse choices t o v).reply) r);
      turns = λ h. n ∙ s.turns h;
      few = λ h. omega (arith, n, s.turns h, step_few choices t v.world);
      quiet = λ h. s.quiet (sym (ap (λ o. (tell_or_refuse choices t o v).quiet) r) ∙ h);
      noted = λ counted h. s.noted counted (sym (ap (λ o. (tell_or_refuse choices t o v).quiet) r) ∙ h);
      working = f;
      unended = e;
      comes = comes;
    }
