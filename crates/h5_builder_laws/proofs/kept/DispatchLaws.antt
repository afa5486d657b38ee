-- What holds at every turn is preserved by each rule that may handle a token.
use Rattle.std.proofs.Common.{◌≡◌, ◌≢◌, ℕ, Bool, true, false, List, [], ◌∷◌, ◌++◌, None, refl, sym, subst, ◌∙◌}
use Rattle.h5_names.specs.AttributeText.{AttributeText}
use Rattle.h5_names.specs.declared.qualified.QualName.{QualName}
use Rattle.h5_token.specs.TokenText.{TagText}
use Rattle.h5_interface.specs.SinkChoices.{SinkChoices}
use Rattle.h5_tables.specs.TurnResult.{TurnResult}
use Rattle.h5_tables.specs.TurnResult as results
use Rattle.h5_tables.specs.TurnText.{HasText, TurnText}
use Rattle.h5_tables.specs.declared.modes.InsertionMode.{InsertionMode}
use Rattle.h5_tables.specs.declared.modes.InsertionMode.TheVariants.{BeforeHtml, Initial}
use Rattle.h5_builder_spec.specs.inner.Fits.{is_before_root}
use Rattle.h5_builder_spec.specs.inner.Frames.{Frame}
use Rattle.h5_builder_spec.specs.reset.Roles.{is_html_element, roles}
use Rattle.h5_builder_spec.specs.stack.Root.{IsRootOpen}
use Rattle.h5_builder_spec.proofs.fitting.FrameLaws.{frame_refl}
use Rattle.h5_builder_spec.proofs.roles.RoleNameLaws.{frame_pushed}
use Rattle.h5_builder_spec.proofs.fitting.OpenLaws.{names_root_open, open_push}
use Rattle.h5_builder_spec.proofs.roles.TestLaws.{foreign_plain}
use Rattle.h5_builder_spec.specs.Changes.{append_comment, append_text, set_frameset_ok_by_text, set_mode}
use Rattle.h5_builder_spec.specs.insertion.Foreign.{adjusted_local, adjusted_namespace, foreign_name, insert_and_pop_foreign_element, insert_foreign_element, pop_until_named_in_any_case}
use Rattle.h5_builder_spec.specs.modes.ForeignContent.{Finds, by_mode, dispatch, foreign_text_row, replacement_text, row_of, search_end}
use Rattle.h5_builder_spec.specs.modes.Modes.{rule}
use Rattle.h5_builder_spec.specs.Rows.{AppendComment, AppendText, Change, Follows, InsertAndPopForeignElement, InsertForeignElement, IsDone, LeaveForeignContent, PopUntilNamedInAnyCase, Row, SetFramesetOkByText, apply_all, changed_by, choose, errs, next_mode, row}
use Rattle.h5_builder_spec.specs.inner.Kept.{Fits, Fitting}
use Rattle.h5_builder_spec.specs.Sound.{Sound, situation_of}
use Rattle.h5_builder_spec.specs.World.{World, names_of}
use Rattle.h5_builder_laws.proofs.kept.SetModeLaws.{FitsAfter}
use Rattle.h5_builder_spec.proofs.changes.ForeignLaws.{names-insert_and_pop_foreign, names-insert_foreign, names-until_in_any_case, situation_insert_and_pop_foreign, situation_insert_foreign, situation_leave, situation_until_in_any_case}
use Rattle.h5_builder_laws.proofs.modes.ForeignModeLaws.{foreign_mode, foreign_namespace, found_foreign, frame_leave, names_foreign_frame, open_leave, takes_foreign}
use Rattle.h5_builder_laws.proofs.modes.ForeignRowLaws.{Steps, dispatch_holds, each_step, foreign_end_found, some_has}
use Rattle.h5_builder_spec.proofs.rows.KeptLaws.{FitsAs, apply_append, changes_mode, fits_at, mode_after, mode_with}
use Rattle.h5_builder_spec.proofs.changes.ListsLaws.{IsSteady, NeedsOfAll, steady_changes}
use Rattle.h5_builder_spec.proofs.changes.NameLaws.{names-append, names-append_comment}
use Rattle.h5_builder_laws.proofs.ModeRuleLaws.{lawful}
use Rattle.h5_builder_spec.proofs.changes.SituationLaws.{KeepsSituation, situation_comment, situation_frameset, situation_text, situation_then}

takes_root : (m : InsertionMode) → takes_foreign m ≡ true → is_before_root m ≡ false
takes_root Initial h = absurd (cc)
takes_root BeforeHtml h = absurd (cc)
takes_root _ h = refl

-- a world of a mode that takes foreign content, in which all that holds at every turn does
pub record Standing (w : World) : Type 0 where
  pub fitting : Fitting w
  pub takes : takes_foreign w.mode ≡ true

module _ (choices : SinkChoices) (w : World) (k : Standing w) where
  steady : IsSteady w
  steady = record { sound = k.fitting.sound; lists = k.fitting.fits.lists }

  root : IsRootOpen (names_of w)
  root = names_root_open (situation_of w) w.mode (names_of w) (takes_root w.mode k.takes) k.fitting.fits.mode

  -- changes after which the world is sound, whose names are framed, and whose mode is the same
  framed : (xs : List Change) → NeedsOfAll xs → mode_after choices w w.mode xs ≡ w.mode → KeepsSituation w (apply_all choices xs w) → Frame (roles (names_of w)) (roles (names_of (apply_all choices xs w))) → IsRootOpen (names_of (apply_all choices xs w)) → Fitting (apply_all choices xs w)
  framed xs needs same s f o =
      let v = apply_all choices xs w in
      let st = steady_changes choices xs w needs steady in
      record {
        sound = st.sound;
        fits = record {
          mode = subst (λ m. FitsAs m v) (sym (changes_mode choices xs w ∙ same)) (fits_at w.mode w v k.fitting.sound s (names_foreign_frame (situation_of w) w.mode (names_of w) (names_of v) k.takes f o k.fitting.fits.mode));
          lists = st.lists;
        };
      }

  -- of names that stay
  named : (xs : List Change) → NeedsOfAll xs → mode_after choices w w.mode xs ≡ w.mode → KeepsSituation w (apply_all choices xs w) → names_of (apply_all choices xs w) ≡ names_of w → Fitting (apply_all choices xs w)
  named xs needs same s e =
      framed xs needs same s (subst (λ ns. Frame (roles (names_of w)) (roles ns)) (sym e) (frame_refl (roles (names_of w)))) (subst IsRootOpen (sym e) root)

  onto : (name : QualName) (ns : List QualName) → IsRootOpen ns → is_html_element name ≡ false → Frame (roles ns) (roles (name ∷ ns))
  onto name [] o h = absurd o
  onto name (n ∷ ns) o h = frame_pushed name n ns (foreign_plain name h)

  pub leaves_fitting : Fitting (apply_all choices (LeaveForeignContent ∷ []) w)
  leaves_fitting =
      framed (LeaveForeignContent ∷ []) (tt, tt) refl (situation_leave choices w)
      (frame_leave choices w)
      (open_leave choices w root)

  inserts_fitting : (name : QualName) (attrs : List AttributeText) (duplicates : Bool) → is_html_element name ≡ false → Fitting (insert_foreign_element choices name attrs duplicates w)
  inserts_fitting name attrs duplicates h =
      let e = names-insert_foreign choices name attrs duplicates w k.fitting.sound in
      framed (InsertForeignElement name attrs duplicates ∷ []) (tt, tt) refl (situation_insert_foreign choices name attrs duplicates w k.fitting.sound)
      (subst (λ ns. Frame (roles (names_of w)) (roles ns)) (sym e) (onto name (names_of w) root h))
      (subst IsRootOpen (sym e) (open_push name (names_of w) root))

  leaf_fitting : (name : QualName) (attrs : List AttributeText) (duplicates : Bool) → Fitting (insert_and_pop_foreign_element choices name attrs duplicates w)
  leaf_fitting name attrs duplicates =
      named (InsertAndPopForeignElement name attrs duplicates ∷ []) (tt, tt) refl (situation_insert_and_pop_foreign choices name attrs duplicates w k.fitting.sound)
      (names-insert_and_pop_foreign choices name attrs duplicates w k.fitting.sound)

  ends_fitting : (tag : TagText) → search_end tag.name (names_of w) ≡ Finds → Fitting (pop_until_named_in_any_case tag.name w)
  ends_fitting tag h =
      let e = names-until_in_any_case tag.name w in
      let found = found_foreign tag.name (names_of w) h in
      framed (PopUntilNamedInAnyCase tag.name ∷ []) (tt, tt) refl (situation_until_in_any_case tag.name w)
      (subst (λ ns. Frame (roles (names_of w)) (roles ns)) (sym e) found.frame)
      (subst IsRootOpen (sym e) (found.still_open root))

  comment_fitting : (x : List ℕ) → Fitting (append_comment choices x w)
  comment_fitting x = named (AppendComment x ∷ []) (tt, tt) refl (situation_comment choices w x k.fitting.sound) (names-append_comment choices x w k.fitting.sound)

  null_fitting : Fitting (append_text replacement_text w)
  null_fitting = named (AppendText replacement_text ∷ []) ((λ e. absurd (cc)), tt) refl (situation_text w replacement_text (λ e. absurd (cc)) k.fitting.sound) (names-append replacement_text w (λ e. absurd (cc)) k.fitting.sound)

  pub text_fitting : (x : List ℕ) → x ≢ [] → Fitting (append_text x (set_frameset_ok_by_text x w))
  unfolding set_frameset_ok_by_text names_of
  text_fitting x some =
      let u = set_frameset_ok_by_text x w in
      let sound : Sound u = k.fitting.sound in
      named (SetFramesetOkByText x ∷ AppendText x ∷ []) (tt, (some, tt)) refl (situation_then w u (append_text x u) (situation_frameset w x) (situation_text u x some sound)) (names-append x u some sound)

-- after a row the world is sound, and the open elements fit the mode that it leads to
pub record KeptBy (choices : SinkChoices) (r : Row) (w : World) : Type 0 where
  pub sound : Sound (changed_by choices r w)
  pub fits : FitsAfter r.ending (changed_by choices r w)

-- after one that ends here
ends_kept : (choices : SinkChoices) (r : Row) (w : World) → next_mode r.ending (changed_by choices r w) ≡ None → Fitting (changed_by choices r w) → KeptBy choices r w
ends_kept choices r w e f = record {
  sound = f.sound;
  fits = subst (λ o. Fits (set_mode (mode_with (changed_by choices r w).mode o) (changed_by choices r w))) (sym e) f.fits;
}

pub rule_kept : (choices : SinkChoices) (t : TurnText) (w : World) → HasText t → Fitting w → KeptBy choices (rule w.mode t w) w
rule_kept choices t w some f = record {
  sound = ((lawful w.mode).steady choices t w refl f.sound some f.fits).sound;
  fits = (lawful w.mode).fits choices t w refl f.sound some f.fits;
}

-- by the mode, after changes
mode_kept : (choices : SinkChoices) (quiet : Bool) (xs : List Change) (t : TurnText) (w : World) → HasText t → Fitting (apply_all choices xs w) → KeptBy choices (by_mode choices quiet xs t w) w
mode_kept choices quiet xs t w some f =
    let v = apply_all choices xs w in
    let r = rule v.mode t v in
    let kept = rule_kept choices t v some f in
    let same : apply_all choices (xs ++ r.changes) w ≡ apply_all choices r.changes v = apply_append choices xs r.changes w in
    record { sound = subst Sound (sym same) kept.sound; fits = subst (FitsAfter r.ending) (sym same) kept.fits }

chosen_kept : (choices : SinkChoices) (b : Bool) (r s : Row) (w : World) → KeptBy choices r w → KeptBy choices s w → KeptBy choices (choose b r s) w
chosen_kept choices true r s w f g = f
chosen_kept choices false r s w f g = g

steps_kept : (choices : SinkChoices) (t : TurnText) (w : World) → HasText t → Standing w → is_html_element (foreign_name (adjusted_namespace w) []) ≡ false → Steps w (λ x. x ≢ []) (λ x. KeptBy choices (row_of choices x t w) w)
steps_kept choices t w some k foreign = record {
  leaves = mode_kept choices false (LeaveForeignContent ∷ []) t w some (leaves_fitting choices w k);
  stays = λ quiet. mode_kept choices quiet [] t w some k.fitting;
  ignores = λ quiet. record { sound = k.fitting.sound; fits = k.fitting.fits };
  starts = λ tag. chosen_kept choices tag.self_closing _ _ w
      (ends_kept choices _ w refl (leaf_fitting choices w k _ _ _))
      (ends_kept choices _ w refl (inserts_fitting choices w k (foreign_name (adjusted_namespace w) (adjusted_local (adjusted_namespace w) tag.name)) _ _ foreign));
  ends = λ tag e. ends_kept choices (foreign_end_found tag w) w refl (ends_fitting choices w k tag e);
  comments = λ x. ends_kept choices (row (AppendComment x ∷ []) IsDone) w refl (comment_fitting choices w k x);
  texts = λ x s. ends_kept choices (foreign_text_row x) w refl (text_fitting choices w k x s);
  nulls = ends_kept choices (errs (AppendText replacement_text ∷ []) IsDone) w refl (null_fitting choices w k);
}

-- THE RULE of a token
pub dispatch_kept : (choices : SinkChoices) (t : TurnText) (w : World) → HasText t → Fitting w → KeptBy choices (dispatch choices t w) w
dispatch_kept choices t w some f =
    dispatch_holds (λ r. KeptBy choices r w) choices t w
    (λ h. each_step w (λ x. x ≢ []) (λ x. KeptBy choices (row_of choices x t w) w)
    (steps_kept choices t w some (record { fitting = f; takes = foreign_mode choices t w h f.fits.mode }) (foreign_namespace choices t w h)) t (some_has t some))
    (λ h. rule_kept choices t w some f)

-- so a turn that followed its row leaves what fits
follows_fits : {H : Type 0} (choices : SinkChoices) (node : H → ℕ) (t : TurnText) (w v : World) (a b : ℕ) (result : TurnResult H) → Follows choices node (dispatch choices t w) t w v a b result → Sound w → HasText t → Fits w → FitsAfter (dispatch choices t w).ending v
follows_fits choices node t w v a b result f k some h = subst (FitsAfter (dispatch choices t w).ending) (sym f.world) (dispatch_kept choices t w some (record { sound = k; fits = h })).fits

pub fits_done : {H : Type 0} (choices : SinkChoices) (node : H → ℕ) (t : TurnText) (w v : World) (a b : ℕ) → Follows choices node (dispatch choices t w) t w v a b results.Done → Sound w → HasText t → Fits w → Fits v
fits_done choices node t w v a b f k some h = subst (λ e. FitsAfter e v) f.ending (follows_fits choices node t w v a b results.Done f k some h)

pub fits_acknowledged : {H : Type 0} (choices : SinkChoices) (node : H → ℕ) (t : TurnText) (w v : World) (a b : ℕ) → Follows choices node (dispatch choices t w) t w v a b results.DoneAckSelfClosing → Sound w → HasText t → Fits w → Fits v
fits_acknowledged choices node t w v a b f k some h = subst (λ e. FitsAfter e v) f.ending (follows_fits choices node t w v a b results.DoneAckSelfClosing f k some h)

pub fits_answered : {H : Type 0} (choices : SinkChoices) (node : H → ℕ) (t : TurnText) (w v : World) (a b : ℕ) (answer : _) → Follows choices node (dispatch choices t w) t w v a b (results.Answer answer) → Sound w → HasText t → Fits w → Fits v
fits_answered choices node t w v a b answer f k some h = subst (λ e. FitsAfter e v) f.ending (follows_fits choices node t w v a b (results.Answer answer) f k some h)

pub fits_again : {H : Type 0} (choices : SinkChoices) (node : H → ℕ) (t : TurnText) (w v u : World) (a b : ℕ) (m : InsertionMode) (token : _) → Follows choices node (dispatch choices t w) t w v a b (results.Reprocess m token) → u ≡ set_mode m v → Sound w → HasText t → Fits w → Fits u
fits_again choices node t w v u a b m token f i k some h =
    subst Fits (sym i) (subst (λ o. Fits (set_mode (mode_with v.mode o) v)) f.ending.0 (follows_fits choices node t w v a b (results.Reprocess m token) f k some h))
