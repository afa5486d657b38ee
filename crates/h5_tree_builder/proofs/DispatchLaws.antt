-- A turn in foreign content that is handled by the rule of the mode after all.
use Rattle.std.proofs.Common.{◌≡◌, ◌<◌, ◌&&◌, ℕ, Bool, List, true, false, refl, Result, Ok, Err, IfOk, ap, sym, subst, ◌∙◌}
use Rattle.std.specs.declared.alloc.AllocError.{AllocError}
use Rattle.h5_interface.specs.SinkChoices.{SinkChoices}
use Rattle.h5_interface.specs.declared.sink.TreeSink.{Ghosts}
use Rattle.h5_tables.specs.TurnResult.{TurnResult}
use Rattle.h5_tables.specs.TurnText.{TurnText, turn_text}
use Rattle.h5_tables.specs.declared.turns.ProcessResult.{ProcessResult}
use Rattle.h5_tables.specs.declared.turns.Token.{Token}
use Rattle.h5_builder_spec.specs.insertion.Foreign.{is_foreign}
use Rattle.h5_builder_spec.specs.modes.ForeignContent.{ByMode, ForeignStep, HasRow, by_mode, dispatch, foreign_step, row_of}
use Rattle.h5_builder_spec.specs.modes.Modes.{rule}
use Rattle.h5_builder_spec.specs.Rows.{Change, Follows, Row, apply_all}
use Rattle.h5_builder_spec.specs.inner.Kept.{Fitting}
use Rattle.h5_builder_spec.specs.World.{World}
use Rattle.h5_builder_laws.proofs.kept.DispatchLaws.{leaves_fitting}
use Rattle.h5_builder_laws.proofs.modes.ForeignModeLaws.{foreign_mode}
use Rattle.h5_builder_laws.proofs.modes.ForeignRowLaws.{any_has, dispatch_foreign, dispatch_html, each_step}
use Rattle.h5_builder_spec.proofs.BoolLaws.{and_both}
use Rattle.h5_builder_spec.proofs.rows.KeptLaws.{apply_append}
use Rattle.h5_builder_spec.proofs.rows.MarkLaws.{still_told}
use Rattle.h5_modes_rest.specs.ForeignSteps.{EndedBy, LeftToMode}
use Rattle.h5_builder_state.specs.Steps.{IsSound, errors_of, world_of}
use Rattle.h5_builder_state.specs.Turn.{FollowsRule, turn_result}
use Rattle.h5_builder_state.specs.declared.state.State.{State}

-- what a builder keeps is kept by the changes before it
abbrev KeptBefore : SinkChoices → World → ForeignStep → Type 0
KeptBefore choices w (HasRow r) = Unit {0}
KeptBefore choices w (ByMode quiet changes) = Fitting (apply_all choices changes w)

kept_before : (choices : SinkChoices) (t : TurnText) (w : World) → is_foreign choices t w ≡ true → Fitting w → KeptBefore choices w (foreign_step t w)
kept_before choices t w h f =
    each_step w (λ x. Unit {0}) (KeptBefore choices w)
    (record {
      leaves = leaves_fitting choices w (record { fitting = f; takes = foreign_mode choices t w h f.fits.mode });
      stays = λ quiet. f;
      ignores = λ quiet. tt;
      starts = λ tag. tt;
      ends = λ tag e. tt;
      comments = λ x. tt;
      texts = λ x s. tt;
      nulls = tt;
    }) t (any_has t)

left_fitting : (choices : SinkChoices) (t : TurnText) (w v : World) (quiet : Bool) (changes : List Change) → is_foreign choices t w ≡ true → foreign_step t w ≡ ByMode quiet changes → v ≡ apply_all choices changes w → Fitting w → Fitting v
left_fitting choices t w v quiet changes h is e f = subst Fitting (sym e) (subst (KeptBefore choices w) is (kept_before choices t w h f))

module _ {H : Type 0} (choices : SinkChoices) (node : H → ℕ) (t : TurnText) (w u : World) (a c : ℕ) (result : TurnResult H) where
  -- the turn followed the row of the token, whichever it has
  follows_row : (r : Row) → is_foreign choices t w ≡ true → foreign_step t w ≡ HasRow r → Follows choices node r t w u a c result → Follows choices node (dispatch choices t w) t w u a c result
  follows_row r h is f = subst (λ x. Follows choices node x t w u a c result) (sym (dispatch_foreign choices t w h ∙ ap (λ x. row_of choices x t w) is)) f

  -- the changes before came with a parse error, or quietly
  record CameBefore (quiet : Bool) (b : ℕ) : Type 0 where
    kept : quiet ≡ true → b ≡ a
    told : quiet ≡ false → 0 < b

  after_changes : (quiet : Bool) (changes : List Change) (b : ℕ) → CameBefore quiet b → (let v = apply_all choices changes w in Follows choices node (rule v.mode t v) t v u b c result) → Follows choices node (by_mode choices quiet changes t w) t w u a c result
  after_changes quiet changes b before f =
      let v = apply_all choices changes w in
      let r = rule v.mode t v in
      record {
        world = f.world ∙ sym (apply_append choices changes r.changes w);
        ending = f.ending;
        quiet = λ q. let both = and_both quiet r.quiet q in f.quiet both.1 ∙ before.kept both.0;
        noted = at quiet refl;
      }
    where
      at : (k : Bool) → quiet ≡ k → (let v = apply_all choices changes w in (k && (rule v.mode t v).quiet) ≡ false) → 0 < c
      at true e h = f.noted h
      at false e h = let v = apply_all choices changes w in still_told choices node (rule v.mode t v) t v u b c result f (before.told e)

  follows_mode : (v : World) (quiet : Bool) (changes : List Change) (b : ℕ) → CameBefore quiet b → is_foreign choices t w ≡ true → foreign_step t w ≡ ByMode quiet changes → v ≡ apply_all choices changes w → Follows choices node (rule v.mode t v) t v u b c result → Follows choices node (dispatch choices t w) t w u a c result
  follows_mode v quiet changes b before h is e f =
      subst (λ x. Follows choices node x t w u a c result) (sym (dispatch_foreign choices t w h ∙ ap (λ x. row_of choices x t w) is))
      (after_changes quiet changes b before (subst (λ (x : World). Follows choices node (rule x.mode t x) t x u b c result) e f))

-- what holds for an answer holds for another, where one follows from the other
if_ok : {A E : Type 0} (result : Result A E) (P Q : A → Type 0) → ((a : A) → P a → Q a) → IfOk result P → IfOk result Q
if_ok (Ok a) P Q f p = f a p
if_ok (Err e) P Q f p = tt

-- SO THE TURN OF A TOKEN follows the row of its dispatch
module _ {S H O : Type 0} (law : Ghosts S H O) (t : TurnText) (sink : S) (state : State H) where
  abbrev here : World
  here = world_of law sink state

  pub turns_by_mode : (new_sink : S) (new_state : State H) (result : Result ProcessResult AllocError) → is_foreign law.choices t here ≡ false → FollowsRule law (rule here.mode t) t sink state new_sink new_state result → FollowsRule law (dispatch law.choices t) t sink state new_sink new_state result
  turns_by_mode new_sink new_state result h s = record {
    follows = subst (λ x. IfOk result (λ r. Follows law.choices law.node x t here (world_of law new_sink new_state) (errors_of law sink) (errors_of law new_sink) (turn_result r new_state))) (sym (dispatch_html law.choices t here h)) s.follows;
    sound = s.sound;
  }

  pub turns_in_foreign : (new_sink : S) (new_state : State H) (result : ProcessResult) → is_foreign law.choices t here ≡ true → EndedBy law.choices law.node (foreign_step t here) t here (world_of law new_sink new_state) (errors_of law sink) (errors_of law new_sink) (turn_result result new_state)
      → IsSound law new_sink new_state → FollowsRule law (dispatch law.choices t) t sink state new_sink new_state (Ok result)
  turns_in_foreign new_sink new_state result h e sound = record {
    follows = follows_row law.choices law.node t here (world_of law new_sink new_state) (errors_of law sink) (errors_of law new_sink) (turn_result result new_state) e.row h e.is e.follows;
    sound = sound;
  }

  module _ (left_sink : S) (left_state : State H) (again : Token) (h : is_foreign law.choices t here ≡ true) (l : LeftToMode law.choices (foreign_step t here) t here (world_of law left_sink left_state) (errors_of law sink) (errors_of law left_sink) again) where
    abbrev left : World
    left = world_of law left_sink left_state

    pub left_keeps : Fitting here → Fitting left
    left_keeps f = left_fitting law.choices t here left l.is_quiet l.changes h l.is l.world f

    pub turns_left : (new_sink : S) (new_state : State H) (result : Result ProcessResult AllocError) → FollowsRule law (rule left.mode (turn_text again)) (turn_text again) left_sink left_state new_sink new_state result → FollowsRule law (dispatch law.choices t) t sink state new_sink new_state result
    turns_left new_sink new_state result s =
        let new = world_of law new_sink new_state in
        let a = errors_of law sink in
        let b = errors_of law left_sink in
        let d = errors_of law new_sink in
        record {
          follows =
              if_ok result (λ r. Follows law.choices law.node (rule left.mode (turn_text again) left) (turn_text again) left new b d (turn_result r new_state)) (λ r. Follows law.choices law.node (dispatch law.choices t here) t here new a d (turn_result r new_state))
              (λ r f. follows_mode law.choices law.node t here new a d (turn_result r new_state) left l.is_quiet l.changes b (record { kept = l.quiet; told = l.noted }) h l.is l.world (subst (λ x. Follows law.choices law.node (rule left.mode x left) x left new b d (turn_result r new_state)) l.token f)) s.follows;
          sound = s.sound;
        }
