-- HTML standard, section 13.2.6.4.6, the "after head" insertion mode: for head content the head element is pushed, the
-- rules of "in head" insert an element or begin a text, and the head element is removed from the stack again.
use Rattle.std.proofs.Common.{◌≡◌, ◌≢◌, ℕ, true, [], ◌∷◌, ◌++◌, codes, Option, Some, None, refl, ap, sym, subst, ◌∙◌}
use Rattle.h5_names.specs.declared.qualified.QualName.{QualName}
use Rattle.h5_token.specs.TokenText.{TagText}
use Rattle.h5_interface.specs.Forest.{ElementNode}
use Rattle.h5_interface.specs.SinkChoices.{SinkChoices}
use Rattle.h5_interface.proofs.ForestLaws.{node_of_kind}
use Rattle.h5_tables.specs.TagSets.{html_namespace, is_one_of}
use Rattle.h5_tables.specs.declared.modes.InsertionMode.TheVariants.{AfterHead, InTemplate, Text}
use Rattle.h5_builder_spec.specs.formatting.FormattingList.{MarkerEntry}
use Rattle.h5_builder_spec.specs.formatting.FormattingNames.{html_name}
use Rattle.h5_builder_spec.specs.stack.Order.{last_or}
use Rattle.h5_builder_spec.specs.inner.NamesFit.{NamesFit}
use Rattle.h5_builder_spec.specs.reset.Roles.{is_html_element, PlainRole, role_of, role_of_local}
use Rattle.h5_builder_spec.specs.stack.Root.{IsRootOpen}
use Rattle.h5_builder_spec.proofs.fitting.NamesTableLaws.{names_template_put}
use Rattle.h5_builder_spec.proofs.fitting.OpenLaws.{names_root_open, open_push}
use Rattle.h5_builder_spec.proofs.roles.RoleLaws.{role_made}
use Rattle.h5_builder_spec.specs.formatting.AdoptionAgency.{remove_from_stack}
use Rattle.h5_builder_spec.specs.modes.AfterHead.{removes_known, with_head}
use Rattle.h5_builder_spec.specs.Changes.{insert_and_pop_element, insert_element, insert_script, push_head, save_mode, set_frameset_not_ok, set_mode, starts_marked}
use Rattle.h5_builder_spec.specs.formatting.Formatting.{insert_marker}
use Rattle.h5_builder_spec.specs.modes.InHead.{in_head_start_tag}
use Rattle.h5_builder_spec.specs.insertion.Place.{place}
use Rattle.h5_builder_spec.specs.Rows.{Row, apply_all}
use Rattle.h5_builder_spec.specs.modes.Shared.{head_start_names}
use Rattle.h5_builder_spec.specs.inner.Kept.{Fits, HasLists, HasHtmlRoot}
use Rattle.h5_builder_spec.specs.Sound.{Sound, situation_of}
use Rattle.h5_builder_spec.specs.insertion.Templates.{insert_template, push_template_mode}
use Rattle.h5_builder_spec.specs.World.{World, names_of, root}
use Rattle.h5_builder_spec.proofs.changes.FormattingLaws.{all_listed}
use Rattle.h5_builder_spec.proofs.modes.InHead.{IsContent, IsHeadRow, begins_script, begins_text, head_content, is_content, puts_leaf, puts_template, script_plain}
use Rattle.h5_builder_spec.proofs.rows.EndingLaws.{stops_next}
use Rattle.h5_builder_spec.proofs.rows.KeptLaws.{FitsAs, Kept, apply_append, as_before, fits_at, mode_after, mode_with}
use Rattle.h5_builder_spec.proofs.changes.ListsLaws.{steady_changes}
use Rattle.h5_builder_spec.proofs.changes.NameLaws.{names-insert, names-insert_and_pop, names_pushed}
use Rattle.h5_builder_spec.proofs.changes.PlaceLaws.{current_place_is_there, new_element_rearranges}
use Rattle.h5_builder_spec.proofs.modes.PushHeadLaws.{OnlyRoot, head_left_ready, head_not_root, lists_push_head, names_first_removed, names_push_head, names_second_removed, only_root, situation_push_head, situation_removed, sound_push_head, stack_push_head}
use Rattle.h5_builder_spec.proofs.changes.SituationLaws.{KeepsSituation, situation_insert, situation_leaf, situation_then}
use Rattle.h5_builder_spec.proofs.changes.TemplateLaws.{names-insert_template, situation_insert_template, template_on_top, tree_insert_template}
use Rattle.h5_builder_spec.proofs.modes.TextBeginsLaws.{text_fits}

-- the row of the head, while the head element is current
pub by_head : (tag : TagText) (w : World) → is_one_of head_start_names tag.name ≡ true → IsHeadRow AfterHead (push_head w) (in_head_start_tag tag (push_head w))
by_head tag w p = head_content AfterHead refl tag (push_head w) p (λ q. refl)

module _ (choices : SinkChoices) (tag : TagText) (v : World) (sound : Sound v) where
  -- a script is pushed
  names_script : names_of (insert_script choices tag.attrs tag.had_duplicate_attributes v) ≡ html_name (codes "script") ∷ names_of v
  unfolding insert_script
  names_script = names_pushed choices (place v) (codes "script") tag.attrs tag.had_duplicate_attributes (starts_marked choices v) v sound (current_place_is_there v sound)

  -- the world in which a template is put
  abbrev opened : World
  opened = push_template_mode InTemplate (set_mode InTemplate (set_frameset_not_ok (insert_marker v)))

  sound_opened : Sound opened
  unfolding insert_marker
  sound_opened = all_listed v.forest v.stack v.formatting (MarkerEntry ∷ v.formatting) sound sound.listed sound.formatting

  content_head : (r : Row) → IsContent tag v r → (apply_all choices r.changes v).head ≡ v.head
  unfolding insert_and_pop_element insert_element insert_script insert_marker
  content_head _ (puts_leaf encoding) = refl
  content_head _ (begins_text kind plain) = refl
  content_head _ begins_script = refl
  content_head _ (puts_template p) = ap (λ (x : World). x.head) (tree_insert_template choices tag.attrs tag.had_duplicate_attributes opened)

  content_root : (r : Row) → IsContent tag v r → IsRootOpen (names_of v) → IsRootOpen (names_of (apply_all choices r.changes v))
  unfolding names_of insert_marker
  content_root _ (puts_leaf encoding) h = subst IsRootOpen (sym (names-insert_and_pop choices tag.name tag.attrs tag.had_duplicate_attributes v sound)) h
  content_root _ (begins_text kind plain) h = subst IsRootOpen (sym (names-insert choices tag.name tag.attrs tag.had_duplicate_attributes v sound)) (open_push (html_name tag.name) (names_of v) h)
  content_root _ begins_script h = subst IsRootOpen (sym names_script) (open_push (html_name (codes "script")) (names_of v) h)
  content_root _ (puts_template p) h = subst IsRootOpen (sym (names-insert_template choices tag.attrs tag.had_duplicate_attributes opened sound_opened)) (open_push (html_name (codes "template")) (names_of v) h)

  content_top : (d : ℕ) (r : Row) → IsContent tag v r → (n m : ℕ) → v.stack ≡ n ∷ m ∷ [] → last_or d (apply_all choices r.changes v).stack ≡ m
  unfolding insert_and_pop_element insert_element insert_script insert_marker
  content_top d _ (puts_leaf encoding) n m e = ap (last_or d) e
  content_top d _ (begins_text kind plain) n m e = ap (last_or (choices.fresh v.forest)) e
  content_top d _ begins_script n m e = ap (last_or (choices.fresh v.forest)) e
  content_top d _ (puts_template p) n m e =
      let top = template_on_top choices tag.attrs tag.had_duplicate_attributes opened sound_opened in
      ap (last_or d) top.stack ∙ ap (last_or top.node) e

-- The world is sound, and the list agrees with the stack.

known_left_ready : (choices : SinkChoices) (o : Option ℕ) (u : World) → u.head ≡ o → HasHtmlRoot u → HasHtmlRoot (apply_all choices (removes_known o) u)
known_left_ready choices None u known ready = ready
known_left_ready choices (Some h) u known ready = head_left_ready choices h u known ready

pub ready_with_head : (choices : SinkChoices) (tag : TagText) (w : World) → Sound w → HasLists w → FitsAs AfterHead w → is_one_of head_start_names tag.name ≡ true
    → HasHtmlRoot (apply_all choices (with_head in_head_start_tag tag w).changes w)
unfolding with_head
ready_with_head choices tag w k lists fit p =
    let v = push_head w in
    let o = only_root w fit in
    let r = in_head_start_tag tag v in
    let c = is_content tag v p in
    let sound : Sound v = sound_push_head w k o in
    let steady = steady_changes choices r.changes v (by_head tag w p).ends.needs (record { sound = sound; lists = lists_push_head w k lists }) in
    let open_root : IsRootOpen (names_of v) =
    subst IsRootOpen (sym (names_push_head w o.head k o.known)) (open_push (html_name (codes "head")) (names_of w) (names_root_open (situation_of w) AfterHead (names_of w) refl fit)) in
    subst HasHtmlRoot (sym (apply_append choices r.changes (removes_known w.head) v))
    (known_left_ready choices w.head (apply_all choices r.changes v) (content_head choices tag v sound r c)
    (record { sound = steady.sound; lists = steady.lists; root = content_root choices tag v sound r c open_root }))

pub lists_with_head : (choices : SinkChoices) (tag : TagText) (w : World) → Sound w → Fits w → w.mode ≡ AfterHead → is_one_of head_start_names tag.name ≡ true
    → HasLists (apply_all choices (with_head in_head_start_tag tag w).changes w)
lists_with_head choices tag w k fits same p = (ready_with_head choices tag w k fits.lists (subst (λ m. FitsAs m w) same fits.mode) p).lists

pub sound_with_head : (choices : SinkChoices) (tag : TagText) (w : World) → Sound w → Fits w → w.mode ≡ AfterHead → is_one_of head_start_names tag.name ≡ true
    → Sound (apply_all choices (with_head in_head_start_tag tag w).changes w)
sound_with_head choices tag w k fits same p = (ready_with_head choices tag w k fits.lists (subst (λ m. FitsAs m w) same fits.mode) p).sound

-- The open elements fit the mode that is left.

module _ (choices : SinkChoices) (tag : TagText) (w : World) (k : Sound w) (same : w.mode ≡ AfterHead) (fit : FitsAs AfterHead w) (o : OnlyRoot w) where
  abbrev v : World
  v = push_head w

  sound_v : Sound v
  sound_v = sound_push_head w k o

  names_v : names_of v ≡ html_name (codes "head") ∷ names_of w
  names_v = names_push_head w o.head k o.known

  -- a new element is not the head element
  new_apart : choices.fresh v.forest ≢ o.head
  new_apart e = node_of_kind w.forest o.head (ElementNode (html_name (codes "head"))) (k.head_node o.head o.known) (ap w.forest.node (sym e) ∙ choices.fresh_is_new w.forest k.stands.is_forest)

  leaf_fits : FitsAs AfterHead (remove_from_stack choices o.head (insert_and_pop_element choices tag.name tag.attrs tag.had_duplicate_attributes v))
  unfolding insert_and_pop_element
  leaf_fits =
      let u = insert_and_pop_element choices tag.name tag.attrs tag.had_duplicate_attributes v in
      let z = remove_from_stack choices o.head u in
      as_before AfterHead w z k
      (situation_then w v z (situation_push_head w) (situation_then v u z (situation_leaf choices v tag.name tag.attrs tag.had_duplicate_attributes sound_v) (situation_removed choices o.head u)))
      (names_first_removed choices o.head u w.stack (html_name (codes "head")) (names_of w) (stack_push_head w o.head o.known) (names-insert_and_pop choices tag.name tag.attrs tag.had_duplicate_attributes v sound_v ∙ names_v)) fit

  -- an element is pushed, and the mode is kept
  text_above : (x : QualName) (u : World) → KeepsSituation v u → role_of x ≡ PlainRole → is_html_element x ≡ true → u.mode ≡ v.mode → u.stack ≡ choices.fresh v.forest ∷ v.stack → names_of u ≡ x ∷ names_of v
      → FitsAs Text (remove_from_stack choices o.head (set_mode Text (save_mode u)))
  unfolding names_of
  text_above x u s plain html mode stack names =
      let t = set_mode Text (save_mode u) in
      let z = remove_from_stack choices o.head t in
      let a = situation_then w v u (situation_push_head w) s in
      text_fits w z AfterHead x refl k (names_root_open (situation_of w) AfterHead (names_of w) refl fit) plain html
      (situation_then (record w { saved_mode = Some AfterHead }) t z (record { kinds = a.kinds; modes = a.modes; saved = ap (λ m. Some m) (mode ∙ same); context = a.context; head = a.head; ok = a.ok }) (situation_removed choices o.head t))
      (names_second_removed choices o.head t (choices.fresh v.forest) w.stack x (html_name (codes "head")) (names_of w) new_apart
      (stack ∙ ap (λ s. choices.fresh v.forest ∷ s) (stack_push_head w o.head o.known)) (names ∙ ap (λ ns. x ∷ ns) names_v)) fit

  element_fits : role_of_local tag.name ≡ PlainRole → FitsAs Text (remove_from_stack choices o.head (set_mode Text (save_mode (insert_element choices tag.name tag.attrs tag.had_duplicate_attributes v))))
  unfolding insert_element html_namespace
  element_fits plain =
      text_above (html_name tag.name) (insert_element choices tag.name tag.attrs tag.had_duplicate_attributes v) (situation_insert choices v tag.name tag.attrs tag.had_duplicate_attributes sound_v) (role_made tag.name ∙ plain) refl refl refl
      (names-insert choices tag.name tag.attrs tag.had_duplicate_attributes v sound_v)

  situation_script : KeepsSituation v (insert_script choices tag.attrs tag.had_duplicate_attributes v)
  unfolding insert_script
  situation_script =
      let r = new_element_rearranges choices v.forest (place v) (html_name (codes "script")) tag.attrs tag.had_duplicate_attributes (starts_marked choices v) sound_v.stands.is_forest (current_place_is_there v sound_v) in
      record { kinds = r.same_kind; modes = refl; saved = refl; context = refl; head = λ h. h; ok = λ h. h }

  script_fits : FitsAs Text (remove_from_stack choices o.head (set_mode Text (save_mode (insert_script choices tag.attrs tag.had_duplicate_attributes v))))
  unfolding insert_script html_namespace
  script_fits =
      text_above (html_name (codes "script")) (insert_script choices tag.attrs tag.had_duplicate_attributes v) situation_script (role_made (codes "script") ∙ script_plain) refl refl refl
      (names_script choices tag v sound_v)

  -- a template is put, and the head element leaves from below it
  template_put : FitsAs InTemplate (remove_from_stack choices o.head (insert_template choices tag.attrs tag.had_duplicate_attributes (opened choices tag v sound_v)))
  unfolding names_of insert_marker role_of_local
  template_put =
      let u = opened choices tag v sound_v in
      let k : Sound u = sound_opened choices tag v sound_v in
      let t = insert_template choices tag.attrs tag.had_duplicate_attributes u in
      let z = remove_from_stack choices o.head t in
      let top = template_on_top choices tag.attrs tag.had_duplicate_attributes u k in
      let head_is_node = node_of_kind w.forest o.head (ElementNode (html_name (codes "head"))) (k.head_node o.head o.known) in
      fits_at InTemplate u z k (situation_then u t z (situation_insert_template choices tag.attrs tag.had_duplicate_attributes u k) (situation_removed choices o.head t))
      (subst (NamesFit (situation_of u) InTemplate)
      (sym (names_second_removed choices o.head t top.node w.stack (html_name (codes "template")) (html_name (codes "head")) (names_of w) (top.new o.head head_is_node)
      (top.stack ∙ ap (λ s. top.node ∷ s) (stack_push_head w o.head o.known)) (names-insert_template choices tag.attrs tag.had_duplicate_attributes u k ∙ ap (λ ns. html_name (codes "template") ∷ ns) names_v)))
      (names_template_put (situation_of w) (names_of w) AfterHead (html_name (codes "template")) refl (role_made (codes "template")) fit))

  content_fits : (r : Row) → IsContent tag v r → FitsAs (mode_after choices v AfterHead (r.changes ++ removes_known (Some o.head))) (apply_all choices (r.changes ++ removes_known (Some o.head)) v)
  content_fits _ (puts_leaf encoding) = leaf_fits
  content_fits _ (begins_text kind plain) = element_fits plain
  content_fits _ begins_script = script_fits
  content_fits _ (puts_template p) = template_put

pub kept_with_head : (choices : SinkChoices) (w : World) (sound : Sound w) → w.mode ≡ AfterHead → (tag : TagText) → is_one_of head_start_names tag.name ≡ true → Kept choices w AfterHead (with_head in_head_start_tag tag w)
unfolding with_head
kept_with_head choices w sound same tag p fit =
    let v = push_head w in
    let o = only_root w fit in
    let r = in_head_start_tag tag v in
    let z = apply_all choices (r.changes ++ removes_known w.head) v in
    subst (λ j. FitsAs (mode_with (mode_after choices v AfterHead (r.changes ++ removes_known w.head)) j) z) (sym (stops_next r.ending (by_head tag w p).ends.stops z))
    (subst (λ h. FitsAs (mode_after choices v AfterHead (r.changes ++ removes_known h)) (apply_all choices (r.changes ++ removes_known h) v)) (sym o.known) (content_fits choices tag w sound same fit o r (is_content tag v p)))

-- Where the rules of the head have gone, the head element isn't the root.

pub head_stays_above : (choices : SinkChoices) (tag : TagText) (w : World) → Sound w → FitsAs AfterHead w → is_one_of head_start_names tag.name ≡ true → (h : ℕ) → w.head ≡ Some h
    → h ≢ root (apply_all choices (in_head_start_tag tag (push_head w)).changes (push_head w))
head_stays_above choices tag w k fit p h known e =
    let v = push_head w in
    let o = only_root w fit in
    let u = apply_all choices (in_head_start_tag tag v).changes v in
    let same : h ≡ o.head = let both : Some h ≡ Some o.head = sym known ∙ o.known in cc in
    head_not_root w k o (sym same ∙ e ∙ content_top choices tag v (sound_push_head w k o) u.forest.document (in_head_start_tag tag v) (is_content tag v p) o.head o.root (stack_push_head w o.head o.known ∙ ap (λ s. o.head ∷ s) o.stack))

-- and it stays the head element
pub head_stays_known : (choices : SinkChoices) (tag : TagText) (w : World) → Sound w → FitsAs AfterHead w → is_one_of head_start_names tag.name ≡ true
    → (apply_all choices (in_head_start_tag tag (push_head w)).changes (push_head w)).head ≡ w.head
head_stays_known choices tag w k fit p =
    let v = push_head w in
    content_head choices tag v (sound_push_head w k (only_root w fit)) (in_head_start_tag tag v) (is_content tag v p)
