-- What a row has to keep: after it the open elements fit the mode that it leaves.
use Rattle.std.proofs.Common.{◌≡◌, ◌≢◌, ℕ, Bool, true, false, List, [], ◌∷◌, ◌++◌, Option, Some, None, refl, ap, sym, subst, ◌∙◌}
use Rattle.h5_interface.specs.SinkChoices.{SinkChoices}
use Rattle.h5_tables.specs.TurnText.{TurnText}
use Rattle.h5_tables.specs.declared.modes.InsertionMode.{InsertionMode}
use Rattle.h5_builder_spec.specs.stack.Order.{second_from_last}
use Rattle.h5_builder_spec.specs.inner.NamesFit.{NamesFit}
use Rattle.h5_builder_spec.proofs.fitting.SituationRoleLaws.{names_later}
use Rattle.h5_builder_spec.specs.Changes.{add_attrs_at, add_attrs_to_html, add_attrs_to_second, append_comment, append_comment_to_doc, append_comment_to_html, append_pending_text, append_text, create_root, insert_and_pop_element, insert_and_pop_form, insert_element, insert_form, insert_head, insert_script, mark_started, pop, pop_until_named, set_foster, set_frameset_not_ok, set_frameset_ok_by_text, set_mode, set_quirks_mode}
use Rattle.h5_builder_spec.specs.stack.Closing.{copy_closed_option}
use Rattle.h5_builder_spec.specs.reset.Reset.{reset_mode}
use Rattle.h5_builder_spec.specs.Rows.{AddAttrsToHtml, AddAttrsToSecond, AdoptionAgency, AppendComment, AppendCommentToDoc, AppendCommentToHtml, AppendPendingText, AppendText, Change, ClearActiveFormattingToMarker, ClearForm, CloseListItem, ClosePElement, ClosePElementInButtonScope, CopyClosedOption, CreateFormattingElement, CreateRoot, GenerateImpliedEnd, GenerateImpliedEndExcept, GenerateImpliedEndInSelect, GenerateImpliedEndThoroughly, HandleMisnestedATags, HandleMisnestedNobrTags, InsertAndPopElement, InsertAndPopForeignElement, InsertAndPopForm, InsertElement, InsertForeignElement, InsertForm, InsertHead, InsertMarker, InsertScript, InsertTemplate, IsDone, LeaveForeignContent, MarkStarted, Pop, PopHeading, PopTemplateMode, PopUntilCell, PopUntilCurrent, PopUntilHeading, PopUntilNamed, PopUntilNamedInAnyCase, PushHead, PushTemplateMode, ReconstructActiveFormattingElements, RemoveBody, RemoveFromStack, ResetMode, Row, SaveMode, SetFoster, SetFramesetNotOk, SetFramesetOkByText, SetIgnoreLf, SetMode, SetQuirksMode, SwitchTemplateMode, TakePendingText, apply, apply_all, next_mode, row}
use Rattle.h5_builder_spec.specs.Sound.{Sound, situation_of}
use Rattle.h5_builder_spec.specs.modes.Tables.{foster}
use Rattle.h5_builder_spec.specs.World.{World, names_of}
use Rattle.h5_builder_spec.proofs.changes.ForeignLaws.{tree_insert_and_pop_foreign, tree_insert_foreign, tree_leave, tree_until_in_any_case}
use Rattle.h5_builder_spec.proofs.changes.NameLaws.{names-append, names-append_comment, names-append_comment_to_document, names-append_comment_to_root}
use Rattle.h5_builder_spec.proofs.changes.SituationLaws.{KeepsSituation, situation_comment, situation_comment_to_document, situation_comment_to_root, situation_later, situation_text}
use Rattle.h5_builder_spec.proofs.changes.TemplateLaws.{tree_insert_template}
use Rattle.h5_builder_spec.proofs.changes.TreeLaws.{OnlyTree, tree_adoption, tree_cleared, tree_close_p, tree_close_p_in_scope, tree_format, tree_implied, tree_implied_except, tree_implied_thoroughly, tree_in_select, tree_list_item, tree_marker, tree_misnested_a_tags, tree_misnested_nobr_tags, tree_pop_heading, tree_reconstruct, tree_remove, tree_remove_body, tree_until_cell, tree_until_current, tree_until_heading}

-- the mode that changes of a world leave, where another mode than its own may count as the one before
abbrev pub mode_after : SinkChoices → World → InsertionMode → List Change → InsertionMode
mode_after choices w m [] = m
mode_after choices w m (SetMode k ∷ xs) = mode_after choices (set_mode k w) k xs
mode_after choices w m (ResetMode ∷ xs) = mode_after choices (set_mode (reset_mode w) w) (reset_mode w) xs
mode_after choices w m (x ∷ xs) = mode_after choices (apply choices x w) m xs

-- and what an ending leaves
abbrev pub mode_with : InsertionMode → Option InsertionMode → InsertionMode
mode_with m None = m
mode_with m (Some k) = k

-- the open elements fit a mode
abbrev pub FitsAs : InsertionMode → World → Type 0
FitsAs m w = NamesFit (situation_of w) m (names_of w)

-- after a row in a mode they fit the mode that it leaves
abbrev pub FitsLeft : SinkChoices → World → InsertionMode → Row → Type 0
FitsLeft choices w m r = FitsAs (mode_with (mode_after choices w m r.changes) (next_mode r.ending (apply_all choices r.changes w))) (apply_all choices r.changes w)

abbrev pub Kept : SinkChoices → World → InsertionMode → Row → Type 0
Kept choices w m r = FitsAs m w → FitsLeft choices w m r

-- names that fit in the situation before fit in the one after
pub fits_at : (m : InsertionMode) (w v : World) → Sound w → KeepsSituation w v → NamesFit (situation_of w) m (names_of v) → FitsAs m v
fits_at m w v k s h = names_later (situation_of w) (situation_of v) (situation_later w v k s) m (names_of v) h

-- names are as they were
pub as_before : (m : InsertionMode) (w v : World) → Sound w → KeepsSituation w v → names_of v ≡ names_of w → FitsAs m w → FitsAs m v
as_before m w v k s e h = fits_at m w v k s (subst (NamesFit (situation_of w) m) (sym e) h)

-- the frameset-ok flag goes off
pub fits_frameset_off : (m : InsertionMode) (w : World) → FitsAs m w → FitsAs m (set_frameset_not_ok w)
unfolding names_of
fits_frameset_off m w h =
    names_later (situation_of w) (situation_of (set_frameset_not_ok w)) (record { modes = refl; saved = refl; context = refl; head = λ x. x; ok = λ x. absurd (cc) }) m (names_of w) h

module _ (choices : SinkChoices) (w : World) (k : Sound w) (m : InsertionMode) where
  -- rows of several modes
  pub kept_append : (t : List ℕ) → t ≢ [] → Kept choices w m (row (AppendText t ∷ []) IsDone)
  kept_append t some = as_before m w (append_text t w) k (situation_text w t some k) (names-append t w some k)

  pub kept_comment : (t : List ℕ) → Kept choices w m (row (AppendComment t ∷ []) IsDone)
  kept_comment t = as_before m w (append_comment choices t w) k (situation_comment choices w t k) (names-append_comment choices t w k)

  pub kept_comment_to_document : (t : List ℕ) → Kept choices w m (row (AppendCommentToDoc t ∷ []) IsDone)
  kept_comment_to_document t = as_before m w (append_comment_to_doc choices t w) k (situation_comment_to_document choices w t k) (names-append_comment_to_document choices t w k)

  pub kept_comment_to_root : (t : List ℕ) → Kept choices w m (row (AppendCommentToHtml t ∷ []) IsDone)
  kept_comment_to_root t = as_before m w (append_comment_to_html choices t w) k (situation_comment_to_root choices w t k) (names-append_comment_to_root choices t w k)

-- The mode of a world after changes.

tree_mode : (w v : World) → OnlyTree w v → v.mode ≡ w.mode
tree_mode w v e = ap (λ (x : World). x.mode) e

change_mode : (choices : SinkChoices) (x : Change) (w : World) → (apply choices x w).mode ≡ mode_after choices w w.mode (x ∷ [])
unfolding set_frameset_ok_by_text set_quirks_mode insert_element create_root append_comment append_comment_to_doc append_comment_to_html append_text pop insert_and_pop_element insert_and_pop_form insert_head add_attrs_to_html add_attrs_to_second pop_until_named append_pending_text insert_form copy_closed_option insert_script mark_started
change_mode choices (SetMode mode) w = refl
change_mode choices (SetQuirksMode mode) w = refl
change_mode choices SetFramesetNotOk w = refl
change_mode choices (SetFramesetOkByText text) w = refl
change_mode choices (InsertElement local attrs duplicates) w = refl
change_mode choices (InsertAndPopElement local attrs duplicates) w = refl
change_mode choices (InsertHead attrs duplicates) w = refl
change_mode choices (CreateRoot attrs) w = refl
change_mode choices (AppendText text) w = refl
change_mode choices (AppendComment text) w = refl
change_mode choices (AppendCommentToDoc text) w = refl
change_mode choices (AppendCommentToHtml text) w = refl
change_mode choices (AddAttrsToHtml attrs) w = refl
change_mode choices (AddAttrsToSecond attrs) w = at (second_from_last w.stack)
  where
    at : (o : _) → (add_attrs_at o attrs w).mode ≡ w.mode
    at None = refl
    at (Some n) = refl
change_mode choices Pop w = refl
change_mode choices (GenerateImpliedEndExcept local) w = tree_mode w _ (tree_implied_except choices local w)
change_mode choices (PopUntilNamed local) w = refl
change_mode choices GenerateImpliedEnd w = tree_mode w _ (tree_implied choices w)
change_mode choices ClosePElement w = tree_mode w _ (tree_close_p choices w)
change_mode choices ClosePElementInButtonScope w = tree_mode w _ (tree_close_p_in_scope choices w)
change_mode choices PopHeading w = tree_mode w _ (tree_pop_heading choices w)
change_mode choices PopUntilHeading w = tree_mode w _ (tree_until_heading w)
change_mode choices ReconstructActiveFormattingElements w = tree_mode w _ (tree_reconstruct choices w)
change_mode choices (CreateFormattingElement tag) w = tree_mode w _ (tree_format choices tag w)
change_mode choices (AdoptionAgency name) w = tree_mode w _ (tree_adoption choices name w)
change_mode choices HandleMisnestedATags w = tree_mode w _ (tree_misnested_a_tags choices w)
change_mode choices HandleMisnestedNobrTags w = tree_mode w _ (tree_misnested_nobr_tags choices w)
change_mode choices InsertMarker w = tree_mode w _ (tree_marker w)
change_mode choices ClearActiveFormattingToMarker w = tree_mode w _ (tree_cleared w)
change_mode choices (PopUntilCurrent is) w = tree_mode w _ (tree_until_current is w)
change_mode choices PopUntilCell w = tree_mode w _ (tree_until_cell w)
change_mode choices (InsertAndPopForm attrs duplicates) w = refl
change_mode choices SaveMode w = refl
change_mode choices ResetMode w = refl
change_mode choices (SetFoster on) w = refl
change_mode choices (AppendPendingText text) w = refl
change_mode choices TakePendingText w = refl
change_mode choices SetIgnoreLf w = refl
change_mode choices (InsertForm attrs duplicates) w = refl
change_mode choices ClearForm w = refl
change_mode choices (CloseListItem locals) w = tree_mode w _ (tree_list_item choices locals w)
change_mode choices GenerateImpliedEndInSelect w = tree_mode w _ (tree_in_select choices w)
change_mode choices (CopyClosedOption option) w = refl
change_mode choices (RemoveFromStack element) w = tree_mode w _ (tree_remove choices element w)
change_mode choices (InsertScript attrs duplicates) w = refl
change_mode choices MarkStarted w = refl
change_mode choices PushHead w = refl
change_mode choices GenerateImpliedEndThoroughly w = tree_mode w _ (tree_implied_thoroughly choices w)
change_mode choices (PushTemplateMode mode) w = refl
change_mode choices PopTemplateMode w = refl
change_mode choices (SwitchTemplateMode mode) w = refl
change_mode choices (InsertTemplate attrs duplicates) w = tree_mode w _ (tree_insert_template choices attrs duplicates w)
change_mode choices RemoveBody w = tree_mode w _ (tree_remove_body w)
change_mode choices (InsertForeignElement name attrs duplicates) w = tree_mode w _ (tree_insert_foreign choices name attrs duplicates w)
change_mode choices (InsertAndPopForeignElement name attrs duplicates) w = tree_mode w _ (tree_insert_and_pop_foreign choices name attrs duplicates w)
change_mode choices LeaveForeignContent w = tree_mode w _ (tree_leave choices w)
change_mode choices (PopUntilNamedInAnyCase local) w = tree_mode w _ (tree_until_in_any_case local w)

mode_in_turn : (choices : SinkChoices) (w : World) (m : InsertionMode) (x : Change) (xs : List Change) → mode_after choices (apply choices x w) (mode_after choices w m (x ∷ [])) xs ≡ mode_after choices w m (x ∷ xs)
mode_in_turn choices w m (SetMode k) xs = refl
mode_in_turn choices w m ResetMode xs = refl
mode_in_turn choices w m _ xs = refl

pub changes_mode : (choices : SinkChoices) (xs : List Change) (w : World) → (apply_all choices xs w).mode ≡ mode_after choices w w.mode xs
changes_mode choices [] w = refl
changes_mode choices (x ∷ xs) w =
    changes_mode choices xs (apply choices x w) ∙ ap (λ m. mode_after choices (apply choices x w) m xs) (change_mode choices x w) ∙ mode_in_turn choices w w.mode x xs

-- Foster parenting is on for a row, and off again after it.

pub apply_append : (choices : SinkChoices) (xs ys : List Change) (w : World) → apply_all choices (xs ++ ys) w ≡ apply_all choices ys (apply_all choices xs w)
apply_append choices [] ys w = refl
apply_append choices (x ∷ xs) ys w = apply_append choices xs ys (apply choices x w)

mode_append : (choices : SinkChoices) (xs ys : List Change) (w : World) (m : InsertionMode) → mode_after choices w m (xs ++ ys) ≡ mode_after choices (apply_all choices xs w) (mode_after choices w m xs) ys
mode_append choices [] ys w m = refl
mode_append choices (x ∷ xs) ys w m =
    sym (mode_in_turn choices w m x (xs ++ ys))
    ∙ mode_append choices xs ys (apply choices x w) (mode_after choices w m (x ∷ []))
    ∙ ap (λ k. mode_after choices (apply_all choices xs (apply choices x w)) k ys) (mode_in_turn choices w m x xs)

-- an ending that doesn't look at the flag
abbrev pub IsBlind : Row → Type 0
IsBlind r = (on : Bool) (v : World) → next_mode r.ending (set_foster on v) ≡ next_mode r.ending v

pub kept_foster : (choices : SinkChoices) (w : World) (m : InsertionMode) (rule : TurnText → World → Row) (t : TurnText) → IsBlind (rule t (set_foster true w)) → Kept choices (set_foster true w) m (rule t (set_foster true w)) → Kept choices w m (foster rule t w)
unfolding names_of
kept_foster choices w m rule t blind kept h =
    let u = set_foster true w in
    let r = rule t u in
    let v = apply_all choices r.changes u in
    let off : List Change = SetFoster false ∷ [] in
    let one : FitsAs (mode_with (mode_after choices u m r.changes) (next_mode r.ending (set_foster false v))) (set_foster false v) =
    subst (λ o. FitsAs (mode_with (mode_after choices u m r.changes) o) v) (sym (blind false v)) (kept h) in
    subst (λ x. FitsAs (mode_with (mode_after choices u m (r.changes ++ off)) (next_mode r.ending x)) x) (sym (apply_append choices r.changes off u))
    (subst (λ j. FitsAs (mode_with j (next_mode r.ending (set_foster false v))) (set_foster false v)) (sym (mode_append choices r.changes off u m)) one)
