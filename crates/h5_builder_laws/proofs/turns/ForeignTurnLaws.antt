-- For each rule that may handle a token: what is listed, the reply, and the mode of another turn.
use Rattle.std.proofs.Common.{Bool, List, None, Option, Some, [], ap, cond, false, inl, inr, refl, subst, suc, sym, true, ℕ, ◌+◌, ◌<◌, ◌∙◌, ◌∷◌, ◌≡◌, ◌⊎◌}
use Rattle.h5_names.specs.declared.qualified.QualName.{QualName}
use Rattle.h5_token.specs.Reply.{Indicates, RunsScript, TurnsPlain, TurnsRaw}
use Rattle.h5_interface.specs.SinkChoices.{SinkChoices}
use Rattle.h5_tables.specs.TurnText.{EofTurn, TurnText}
use Rattle.h5_tables.specs.declared.modes.InsertionMode.TheVariants.{InTableText, Text}
use Rattle.h5_tables.specs.declared.modes.InsertionMode.{InsertionMode}
use Rattle.h5_builder_spec.specs.Changes.{pop, set_mode}
use Rattle.h5_builder_spec.specs.Rows.{Again, AgainBy, Answers, Change, Ending, IsAcknowledged, IsDone, LeaveForeignContent, Row, apply_all, changed_by, choose, next_mode}
use Rattle.h5_builder_spec.specs.inner.Kept.{Fitting}
use Rattle.h5_builder_spec.specs.Sound.{situation_of}
use Rattle.h5_builder_spec.specs.World.{World, names_of}
use Rattle.h5_builder_spec.specs.reset.Situation.{Situation}
use Rattle.h5_builder_spec.specs.reset.Roles.{is_html_element, Role, count_roles, roles}
use Rattle.h5_builder_spec.specs.insertion.Foreign.{is_foreign, leave_foreign_content}
use Rattle.h5_builder_spec.specs.modes.ForeignContent.{by_mode, dispatch, row_of}
use Rattle.h5_builder_spec.specs.modes.Modes.{rule}
use Rattle.h5_builder_spec.specs.stack.Scope.{later_names}
use Rattle.h5_builder_spec.proofs.changes.ForeignLaws.{leave_holds, tree_leave}
use Rattle.h5_builder_spec.proofs.changes.PopLaws.{names-pop}
use Rattle.h5_builder_spec.proofs.roles.TestLaws.{foreign_plain}
use Rattle.h5_builder_spec.proofs.rows.EndingLaws.{Silent}
use Rattle.h5_builder_spec.proofs.rows.KeptLaws.{apply_append}
use Rattle.h5_builder_spec.proofs.rows.RowTexts.{IsTold, Tells, is_text}
use Rattle.h5_builder_laws.proofs.LawfulRow.{is_start_turn}
use Rattle.h5_builder_laws.proofs.ModeRuleLaws.{lawful}
use Rattle.h5_builder_laws.proofs.kept.DispatchLaws.{leaves_fitting}
use Rattle.h5_builder_laws.proofs.modes.ForeignModeLaws.{foreign_mode}
use Rattle.h5_builder_laws.proofs.modes.ForeignRowLaws.{Steps, any_has, dispatch_holds, each_step, eof_html}
use Rattle.h5_builder_laws.proofs.turns.AgainLaws.{kind_of_turn}
use Rattle.h5_builder_laws.proofs.turns.FallsLaws.{falls, rank_of, text_falls, turn_eof}
use Rattle.h5_builder_laws.proofs.turns.Ranks.{EofTurns, StartTableTurns, TextTurns, TurnKind, by_mode as by_table_mode, is_eof, is_table_like, outside, rank, rank_saved}

-- leaving foreign content leaves the mode
left_mode : (choices : SinkChoices) (w : World) → (leave_foreign_content choices w).mode ≡ w.mode
left_mode choices w = ap (λ (x : World). x.mode) (tree_leave choices w)

-- the statement about texts
tells_left : (x : Ending) (ys : List Change) → Tells x ys → Tells x (LeaveForeignContent ∷ ys)
tells_left IsDone ys h = h
tells_left IsAcknowledged ys h = h
tells_left (Again m) ys h = h
tells_left (AgainBy mode) ys h = h
tells_left (Answers (RunsScript node)) ys h = h
tells_left (Answers TurnsPlain) ys h = h
tells_left (Answers (Indicates encoding)) ys h = h
tells_left (Answers (TurnsRaw kind)) ys h = h
tells_left (Answers _) ys h = absurd h

step_told : (choices : SinkChoices) (t : TurnText) (w : World) → is_text w.mode ≡ false → Steps w (λ x. Unit {0}) (λ x. IsTold (row_of choices x t w))
step_told choices t w n = record {
  leaves =
      let v = leave_foreign_content choices w in
      let told = (lawful v.mode).told t v (ap is_text (left_mode choices w) ∙ n) in (told.0, tells_left (rule v.mode t v).ending (rule v.mode t v).changes told.1);
  stays = λ quiet. (lawful w.mode).told t w n;
  ignores = λ quiet. (tt, tt);
  starts = λ tag. chosen tag.self_closing _ _ (tt, tt) (tt, tt);
  ends = λ tag e. (tt, tt);
  comments = λ x. (tt, tt);
  texts = λ x s. (tt, tt);
  nulls = (tt, tt);
}
  where
    chosen : (b : Bool) (r s : Row) → IsTold r → IsTold s → IsTold (choose b r s)
    chosen true r s f g = f
    chosen false r s f g = g

pub dispatch_told : (choices : SinkChoices) (t : TurnText) (w : World) → is_text w.mode ≡ false → IsTold (dispatch choices t w)
dispatch_told choices t w n =
    dispatch_holds IsTold choices t w
    (λ h. each_step w (λ x. Unit {0}) (λ x. IsTold (row_of choices x t w)) (step_told choices t w n) t (any_has t))
    (λ h. (lawful w.mode).told t w n)

-- what is answered
step_silent : (choices : SinkChoices) (t : TurnText) (w : World) → is_text w.mode ≡ false → is_start_turn t ≡ false → Steps w (λ x. Unit {0}) (λ x. Silent (row_of choices x t w).ending)
step_silent choices t w n s = record {
  leaves = (lawful (leave_foreign_content choices w).mode).silent t (leave_foreign_content choices w) (ap is_text (left_mode choices w) ∙ n) s;
  stays = λ quiet. (lawful w.mode).silent t w n s;
  ignores = λ quiet. tt;
  starts = λ tag. chosen tag.self_closing _ _ tt tt;
  ends = λ tag e. tt;
  comments = λ x. tt;
  texts = λ x s. tt;
  nulls = tt;
}
  where
    chosen : (b : Bool) (r s : Row) → Silent r.ending → Silent s.ending → Silent (choose b r s).ending
    chosen true r s f g = f
    chosen false r s f g = g

pub dispatch_silent : (choices : SinkChoices) (t : TurnText) (w : World) → is_text w.mode ≡ false → is_start_turn t ≡ false → Silent (dispatch choices t w).ending
dispatch_silent choices t w n s =
    dispatch_holds (λ r. Silent r.ending) choices t w
    (λ h. each_step w (λ x. Unit {0}) (λ x. Silent (row_of choices x t w).ending) (step_silent choices t w n s) t (any_has t))
    (λ h. (lawful w.mode).silent t w n s)

-- THE RANK: leaving foreign content weighs nothing
saved_same : (c : TurnKind) → is_eof c ≡ false → (o : Option InsertionMode) (old new : List Role) → count_roles is_table_like new ≡ count_roles is_table_like old → rank_saved c o new ≡ rank_saved c o old
saved_same EofTurns h o old new n = absurd (cc)
saved_same StartTableTurns h None old new n = refl
saved_same StartTableTurns h (Some m) old new n = ap (λ k. 1 + by_table_mode 1 (k + 4) (k + 4) (k + 4) 1 (k + 4) 2 (outside m) m) n
saved_same c h None old new n = refl
saved_same c h (Some m) old new n = refl

rank_same : (c : TurnKind) → is_eof c ≡ false → (s t : Situation) (m : InsertionMode) (old new : List Role) → t.saved_mode ≡ s.saved_mode → count_roles is_table_like new ≡ count_roles is_table_like old → rank c t m new ≡ rank c s m old
rank_same EofTurns h s t m old new e n = absurd (cc)
rank_same StartTableTurns h s t Text old new e n = refl
rank_same StartTableTurns h s t InTableText old new e n = ap (λ o. rank_saved StartTableTurns o new) e ∙ saved_same StartTableTurns refl s.saved_mode old new n
rank_same StartTableTurns h s t m old new e n = ap (λ k. by_table_mode 1 (k + 4) (k + 4) (k + 4) 1 (k + 4) 2 (outside m) m) n
rank_same TextTurns h s t InTableText old new e n = refl
rank_same c h s t Text old new e n = refl
rank_same c h s t InTableText old new e n = ap (λ o. rank_saved c o new) e ∙ saved_same c h s.saved_mode old new n
rank_same c h s t m old new e n = refl

count_left : (choices : SinkChoices) (w : World) → count_roles is_table_like (roles (names_of (leave_foreign_content choices w))) ≡ count_roles is_table_like (roles (names_of w))
count_left choices w = leave_holds (λ v. count v ≡ count w) choices (λ v x ns e f h. popped v x ns e f ∙ h) w refl
  where
    count : World → ℕ
    count v = count_roles is_table_like (roles (names_of v))

    popped : (v : World) (x : QualName) (ns : List QualName) → names_of v ≡ x ∷ ns → is_html_element x ≡ false → count (pop choices v) ≡ count v
    popped v x ns e f =
        ap (λ ms. count_roles is_table_like (roles ms)) (names-pop choices v ∙ ap later_names e)
        ∙ sym (ap (λ r. cond (is_table_like r) (suc (count_roles is_table_like (roles ns))) (count_roles is_table_like (roles ns))) (foreign_plain x f))
        ∙ sym (ap (λ ms. count_roles is_table_like (roles ms)) e)

left_rank : (choices : SinkChoices) (t : TurnText) (w : World) → is_eof (kind_of_turn t) ≡ false → rank_of t (leave_foreign_content choices w) ≡ rank_of t w
left_rank choices t w h =
    let v = leave_foreign_content choices w in
    ap (λ m. rank (kind_of_turn t) (situation_of v) m (roles (names_of v))) (left_mode choices w)
    ∙ rank_same (kind_of_turn t) h (situation_of w) (situation_of v) w.mode (roles (names_of w)) (roles (names_of v)) (ap (λ (x : World). x.saved_mode) (tree_leave choices w))
    (count_left choices w)

-- where another turn is taken the rank has fallen
abbrev pub FallsIn : SinkChoices → TurnText → World → Row → Type 0
FallsIn choices t w r = (k : InsertionMode) → next_mode r.ending (changed_by choices r w) ≡ Some k → rank_of t (set_mode k (changed_by choices r w)) < rank_of t w

mode_falls : (choices : SinkChoices) (quiet : Bool) (xs : List Change) (t : TurnText) (w : World) → let v = apply_all choices xs w in rank_of t v ≡ rank_of t w → FallsIn choices t v (rule v.mode t v) → FallsIn choices t w (by_mode choices quiet xs t w)
mode_falls choices quiet xs t w same f =
    let v = apply_all choices xs w in
    let r = rule v.mode t v in
    subst (λ (u : World). (k : InsertionMode) → next_mode r.ending u ≡ Some k → rank_of t (set_mode k u) < rank_of t w) (sym (apply_append choices xs r.changes w))
    (subst (λ n. (k : InsertionMode) → next_mode r.ending (changed_by choices r v) ≡ Some k → rank_of t (set_mode k (changed_by choices r v)) < n) same f)

chosen_falls : (choices : SinkChoices) (t : TurnText) (w : World) (b : Bool) (r s : Row) → FallsIn choices t w r → FallsIn choices t w s → FallsIn choices t w (choose b r s)
chosen_falls choices t w true r s f g = f
chosen_falls choices t w false r s f g = g

steps_fall : (choices : SinkChoices) (t : TurnText) (w : World) → is_eof (kind_of_turn t) ≡ false → FallsIn choices t w (rule w.mode t w) → (let v = leave_foreign_content choices w in FallsIn choices t v (rule v.mode t v))
    → Steps w (λ x. Unit {0}) (λ x. FallsIn choices t w (row_of choices x t w))
steps_fall choices t w h f g = record {
  leaves = mode_falls choices false (LeaveForeignContent ∷ []) t w (left_rank choices t w h) g;
  stays = λ quiet. mode_falls choices quiet [] t w refl f;
  ignores = λ quiet k e. absurd (cc);
  starts = λ tag. chosen_falls choices t w tag.self_closing _ _ (λ k e. absurd (cc)) (λ k e. absurd (cc));
  ends = λ tag e k d. absurd (cc);
  comments = λ x k e. absurd (cc);
  texts = λ x s k e. absurd (cc);
  nulls = λ k e. absurd (cc);
}

no_eof : (choices : SinkChoices) (t : TurnText) (w : World) → is_foreign choices t w ≡ true → is_eof (kind_of_turn t) ≡ false
no_eof choices t w h = at (turn_eof t)
  where
    at : (is_eof (kind_of_turn t) ≡ false) ⊎ (t ≡ EofTurn) → is_eof (kind_of_turn t) ≡ false
    at (inl e) = e
    at (inr e) = absurd (let clash = sym h ∙ ap (λ x. is_foreign choices x w) e ∙ eof_html choices w in cc)

pub dispatch_falls : (choices : SinkChoices) (t : TurnText) (w : World) → Fitting w → FallsIn choices t w (dispatch choices t w)
dispatch_falls choices t w f =
    dispatch_holds (FallsIn choices t w) choices t w
    (λ h.
    let v = leaves_fitting choices w (record { fitting = f; takes = foreign_mode choices t w h f.fits.mode }) in
    each_step w (λ x. Unit {0}) (λ x. FallsIn choices t w (row_of choices x t w))
    (steps_fall choices t w (no_eof choices t w h) (λ k e. falls choices t w k f.sound f.fits e) (λ k e. falls choices t (leave_foreign_content choices w) k v.sound v.fits e)) t (any_has t))
    (λ h k e. falls choices t w k f.sound f.fits e)

-- and of a text from any world
pub dispatch_text_falls : (choices : SinkChoices) (t : TurnText) (w : World) → kind_of_turn t ≡ TextTurns → FallsIn choices t w (dispatch choices t w)
dispatch_text_falls choices t w i =
    dispatch_holds (FallsIn choices t w) choices t w
    (λ h. each_step w (λ x. Unit {0}) (λ x. FallsIn choices t w (row_of choices x t w))
    (steps_fall choices t w (ap is_eof i) (λ k e. text_falls choices t w k i e) (λ k e. text_falls choices t (leave_foreign_content choices w) k i e)) t (any_has t))
    (λ h k e. text_falls choices t w k i e)
