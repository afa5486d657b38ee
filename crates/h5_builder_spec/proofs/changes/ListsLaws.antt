-- What each change leaves of a sound world whose list of active formatting elements agrees with the
-- stack of open elements.
use Rattle.std.proofs.Common.{◌≡◌, ◌≢◌, ℕ, Bool, true, false, cond, List, [], ◌∷◌, codes, Option, Some, None, refl}
use Rattle.h5_names.specs.AttributeText.{AttributeText}
use Rattle.h5_names.specs.declared.qualified.QualName.{QualName}
use Rattle.h5_interface.specs.Forest.{ChildText, Forest, parent_of}
use Rattle.h5_interface.specs.SinkChoices.{Rearranges, SinkChoices}
use Rattle.h5_interface.proofs.ForestLaws.{document_is_node}
use Rattle.h5_interface.proofs.MakingLaws.{add_missing_rearranges, mark_rearranges}
use Rattle.h5_tables.specs.TagSets.{is_cell, is_default_scope, is_heading, is_html_named, is_implied, is_thorough_implied}
use Rattle.h5_builder_spec.specs.formatting.FormattingList.{MarkerEntry, clear_to_marker}
use Rattle.h5_builder_spec.specs.formatting.FormattingNames.{html_name}
use Rattle.h5_builder_spec.specs.stack.Order.{second_from_last}
use Rattle.h5_builder_spec.specs.stack.Scope.{first_passes, has_p_in_button_scope, in_scope}
use Rattle.h5_builder_spec.specs.stack.Root.{IsRootOpen}
use Rattle.h5_builder_spec.proofs.entries.EachLaws.{each_cleared}
use Rattle.h5_builder_spec.proofs.entries.KeptListsLaws.{lists_cleared, lists_marked, lists_pushed}
use Rattle.h5_builder_spec.proofs.entries.PassLaws.{lists_cut_above, ordered_distinct}
use Rattle.h5_builder_spec.specs.insertion.FormOwner.{Marking}
use Rattle.h5_builder_spec.specs.Changes.{add_attrs_at, add_attrs_to_html, add_attrs_to_second, append_comment, append_comment_to_doc, append_comment_to_html, append_pending_text, append_text, create_root, generate_implied_end_except, insert_and_pop_element, insert_and_pop_form, insert_element, insert_form, insert_head, insert_script, mark_started, new_comment, new_element, owned, pop, pop_until_current, pop_until_named, push_new, remove_body, set_frameset_ok_by_text, set_quirks_mode, starts_marked, with_forest}
use Rattle.h5_builder_spec.specs.stack.Closing.{close_item, close_list_item, close_p_element, close_p_element_in_button_scope, generate_implied_end_tags, generate_implied_end_in_select, generate_implied_end_thoroughly, newest_item, pop_heading, pop_until_cell, pop_until_heading}
use Rattle.h5_builder_spec.specs.formatting.Formatting.{clear_active_formatting_to_marker, insert_marker, reconstruct_active_formatting_elements}
use Rattle.h5_builder_spec.specs.insertion.Place.{IsPlaceIn, LastChild, Place, place, put}
use Rattle.h5_builder_spec.specs.Rows.{AddAttrsToHtml, AddAttrsToSecond, AdoptionAgency, AppendComment, AppendCommentToDoc, AppendCommentToHtml, AppendPendingText, AppendText, Change, ClearActiveFormattingToMarker, ClearForm, CloseListItem, ClosePElement, ClosePElementInButtonScope, CopyClosedOption, CreateFormattingElement, CreateRoot, GenerateImpliedEnd, GenerateImpliedEndExcept, GenerateImpliedEndInSelect, GenerateImpliedEndThoroughly, HandleMisnestedATags, HandleMisnestedNobrTags, InsertAndPopElement, InsertAndPopForeignElement, InsertAndPopForm, InsertElement, InsertForeignElement, InsertForm, InsertHead, InsertMarker, InsertScript, InsertTemplate, LeaveForeignContent, MarkStarted, Pop, PopHeading, PopTemplateMode, PopUntilCell, PopUntilCurrent, PopUntilHeading, PopUntilNamed, PopUntilNamedInAnyCase, PushHead, PushTemplateMode, ReconstructActiveFormattingElements, RemoveBody, RemoveFromStack, ResetMode, SaveMode, SetFoster, SetFramesetNotOk, SetFramesetOkByText, SetIgnoreLf, SetMode, SetQuirksMode, SwitchTemplateMode, TakePendingText, apply, apply_all}
use Rattle.h5_builder_spec.specs.inner.Kept.{HasLists, HasHtmlRoot}
use Rattle.h5_builder_spec.specs.Sound.{Sound}
use Rattle.h5_builder_spec.specs.insertion.Templates.{insert_template}
use Rattle.h5_builder_spec.specs.World.{World, current, names_of, root}
use Rattle.h5_builder_spec.proofs.adoption.AdoptionAgencyLaws.{Keeps, cut_keeps, implied_keeps, pop_keeps, until_named_keeps, while_keeps}
use Rattle.h5_builder_spec.proofs.changes.ForeignLaws.{insert_and_pop_foreign_lists, insert_and_pop_foreign_stands, insert_foreign_lists, insert_foreign_stands, leave_keeps, until_in_any_case_keeps}
use Rattle.h5_builder_spec.proofs.changes.FormattingLaws.{all_listed, lists_reconstruct, new_is_unlisted, sound_reconstruct}
use Rattle.h5_builder_spec.proofs.changes.FramesetLaws.{remove_body_lists, remove_body_stands}
use Rattle.h5_builder_spec.proofs.changes.PlaceLaws.{all_inserted, current_place_is_there, first_place, form_open_stands, form_stands, head_stands, new_comment_rearranges, new_element_rearranges, no_form_stands, text_put_rearranges}
use Rattle.h5_builder_spec.proofs.changes.PopLaws.{all_cut_above}
use Rattle.h5_builder_spec.proofs.changes.SoundLaws.{all_rearranged, root_is_node}
use Rattle.h5_builder_spec.proofs.changes.TemplateLaws.{insert_template_lists, insert_template_stands}

-- the world is sound, and the list agrees with the stack
pub record IsSteady (w : World) : Type 0 where
  pub sound : Sound w
  pub lists : HasLists w

-- ready is steady, with the root open
pub ready_steady : (w : World) → HasHtmlRoot w → IsSteady w
ready_steady w k = record { sound = k.sound; lists = k.lists }

pub steady_ready : (w : World) → IsSteady w → IsRootOpen (names_of w) → HasHtmlRoot w
steady_ready w k h = record { sound = k.sound; lists = k.lists; root = h }

kept_steady : (w v : World) → Keeps w v → IsSteady v
kept_steady w v k = record { sound = k.sound; lists = k.lists }

-- one of two worlds
steady_if : (b : Bool) (v w : World) → IsSteady v → IsSteady w → IsSteady (cond b v w)
steady_if true v w k h = k
steady_if false v w k h = h

-- the forest alone changes
pub steady_rearranged : (w : World) (g : Forest) → Rearranges w.forest g → IsSteady w → IsSteady (with_forest g w)
steady_rearranged w g r k = record { sound = all_rearranged w.forest g w.stack k.sound r; lists = k.lists }

module _ (w : World) (k : IsSteady w) where
  steady_quirks : (q : _) → IsSteady (set_quirks_mode q w)
  unfolding set_quirks_mode
  steady_quirks q = record { sound = k.sound; lists = k.lists }

  steady_frameset : (t : List ℕ) → IsSteady (set_frameset_ok_by_text t w)
  unfolding set_frameset_ok_by_text
  steady_frameset t = record { sound = k.sound; lists = k.lists }

  -- a text is appended
  pub steady_text : (t : List ℕ) → t ≢ [] → IsSteady (append_text t w)
  unfolding append_text
  steady_text t some = steady_rearranged w (put (place w) (ChildText t) w.forest) (text_put_rearranges w.forest (place w) t k.sound.stands.is_forest some (current_place_is_there w k.sound)) k

  -- attributes
  steady_root_attrs : (attrs : List AttributeText) → IsSteady (add_attrs_to_html attrs w)
  unfolding add_attrs_to_html
  steady_root_attrs attrs = steady_rearranged w _ (add_missing_rearranges w.forest (root w) attrs k.sound.stands.is_forest) k

  steady_second_attrs : (attrs : List AttributeText) → IsSteady (add_attrs_to_second attrs w)
  unfolding add_attrs_to_second
  steady_second_attrs attrs = at (second_from_last w.stack)
    where
      at : (o : Option ℕ) → IsSteady (add_attrs_at o attrs w)
      at None = k
      at (Some n) = steady_rearranged w _ (add_missing_rearranges w.forest n attrs k.sound.stands.is_forest) k

  -- cuts
  steady_until_named : (local : List ℕ) → IsSteady (pop_until_named local w)
  steady_until_named local = kept_steady w _ (until_named_keeps local w k.sound k.lists)

  steady_until_heading : IsSteady (pop_until_heading w)
  unfolding pop_until_heading
  steady_until_heading = kept_steady w _ (cut_keeps is_heading w k.sound k.lists)

  steady_until_cell : IsSteady (pop_until_cell w)
  unfolding pop_until_cell
  steady_until_cell = kept_steady w _ (cut_keeps is_cell w k.sound k.lists)

  steady_until_current : (is : QualName → Bool) → IsSteady (pop_until_current is w)
  unfolding pop_until_current
  steady_until_current is = record {
    sound = all_cut_above w.forest is (names_of w) w.stack k.sound;
    lists = lists_cut_above is (names_of w) w.stack w.formatting (ordered_distinct (parent_of w.forest) w.stack k.sound.stands.ordered) k.lists;
  }

  -- markers
  pub steady_marker : IsSteady (insert_marker w)
  unfolding insert_marker
  steady_marker = record {
    sound = all_listed w.forest w.stack w.formatting (MarkerEntry ∷ w.formatting) k.sound k.sound.listed k.sound.formatting;
    lists = lists_marked w.stack w.formatting k.lists;
  }

  pub steady_cleared : IsSteady (clear_active_formatting_to_marker w)
  unfolding clear_active_formatting_to_marker
  steady_cleared = record {
    sound = all_listed w.forest w.stack w.formatting (clear_to_marker w.formatting) k.sound (each_cleared _ w.formatting k.sound.listed) (each_cleared _ w.formatting k.sound.formatting);
    lists = lists_cleared w.stack w.formatting k.lists;
  }

  -- the body is taken away, and all but the root are closed
  pub steady_remove_body : IsSteady (remove_body w)
  steady_remove_body = record { sound = remove_body_stands w k.sound; lists = remove_body_lists w k.sound k.lists }

  -- text of a table
  steady_pending : (t : List ℕ) → IsSteady (append_pending_text t w)
  unfolding append_pending_text
  steady_pending t = record { sound = k.sound; lists = k.lists }

module _ (choices : SinkChoices) (w : World) (k : IsSteady w) where
  -- a new element is pushed
  steady_pushed : (p : Place) (local : List ℕ) (attrs : List AttributeText) (duplicates : Bool) (marks : Marking) → IsPlaceIn w.forest p → (w.stack ≡ [] → p ≡ LastChild w.forest.document) → IsSteady (push_new choices p local attrs duplicates marks w)
  steady_pushed p local attrs duplicates marks there first = record {
    sound = all_inserted choices p (html_name local) attrs duplicates marks w k.sound there first;
    lists = lists_pushed (choices.fresh w.forest) w.stack w.formatting (new_is_unlisted choices w k.sound) k.lists;
  }

  steady_insert : (local : List ℕ) (attrs : List AttributeText) (duplicates : Bool) → IsSteady (insert_element choices local attrs duplicates w)
  unfolding insert_element
  steady_insert local attrs duplicates = steady_pushed (place w) local attrs duplicates (owned choices local attrs w) (current_place_is_there w k.sound) (λ e. first_place w k.sound.stands.is_forest e)

  steady_head : (attrs : List AttributeText) (duplicates : Bool) → IsSteady (insert_head choices attrs duplicates w)
  unfolding insert_head
  steady_head attrs duplicates =
      let new = steady_insert (codes "head") attrs duplicates in
      record { sound = head_stands choices attrs duplicates w k.sound new.sound; lists = new.lists }

  steady_root : (attrs : List AttributeText) → IsSteady (create_root choices attrs w)
  unfolding create_root
  steady_root attrs = steady_pushed (LastChild w.forest.document) (codes "html") attrs false None (document_is_node w.forest k.sound.stands.is_forest) (λ e. refl)

  -- a new one that isn't open
  pub steady_leaf : (local : List ℕ) (attrs : List AttributeText) (duplicates : Bool) → IsSteady (insert_and_pop_element choices local attrs duplicates w)
  unfolding insert_and_pop_element
  steady_leaf local attrs duplicates =
      steady_rearranged w (new_element choices (place w) (html_name local) attrs duplicates (owned choices local attrs w) w.forest)
      (new_element_rearranges choices w.forest (place w) (html_name local) attrs duplicates (owned choices local attrs w) k.sound.stands.is_forest (current_place_is_there w k.sound)) k

  steady_form : (attrs : List AttributeText) (duplicates : Bool) → IsSteady (insert_and_pop_form choices attrs duplicates w)
  unfolding insert_and_pop_form
  steady_form attrs duplicates =
      let new = steady_leaf (codes "form") attrs duplicates in
      record { sound = form_stands choices attrs duplicates w k.sound new.sound; lists = new.lists }

  steady_form_open : (attrs : List AttributeText) (duplicates : Bool) → IsSteady (insert_form choices attrs duplicates w)
  unfolding insert_form
  steady_form_open attrs duplicates =
      let new = steady_insert (codes "form") attrs duplicates in
      record { sound = form_open_stands choices attrs duplicates w k.sound new.sound; lists = new.lists }

  steady_script : (attrs : List AttributeText) (duplicates : Bool) → IsSteady (insert_script choices attrs duplicates w)
  unfolding insert_script
  steady_script attrs duplicates = steady_pushed (place w) (codes "script") attrs duplicates (starts_marked choices w) (current_place_is_there w k.sound) (λ e. first_place w k.sound.stands.is_forest e)

  -- a template, with a shadow root or without
  pub steady_template : (attrs : List AttributeText) (duplicates : Bool) → IsSteady (insert_template choices attrs duplicates w)
  steady_template attrs duplicates = record {
    sound = insert_template_stands choices attrs duplicates w k.sound;
    lists = insert_template_lists choices attrs duplicates w k.sound k.lists;
  }

  -- the current node is marked
  steady_started : IsSteady (mark_started choices w)
  unfolding mark_started
  steady_started = steady_rearranged w _ (mark_rearranges w.forest (choices.marks_after_started w.forest (current w)) k.sound.stands.is_forest) k

  -- comments
  steady_comment : (p : Place) (t : List ℕ) → IsPlaceIn w.forest p → IsSteady (with_forest (new_comment choices p t w.forest) w)
  steady_comment p t there = steady_rearranged w (new_comment choices p t w.forest) (new_comment_rearranges choices w.forest p t k.sound.stands.is_forest there) k

  steady_comment_here : (t : List ℕ) → IsSteady (append_comment choices t w)
  unfolding append_comment
  steady_comment_here t = steady_comment (place w) t (current_place_is_there w k.sound)

  steady_comment_to_document : (t : List ℕ) → IsSteady (append_comment_to_doc choices t w)
  unfolding append_comment_to_doc
  steady_comment_to_document t = steady_comment (LastChild w.forest.document) t (document_is_node w.forest k.sound.stands.is_forest)

  steady_comment_to_root : (t : List ℕ) → IsSteady (append_comment_to_html choices t w)
  unfolding append_comment_to_html
  steady_comment_to_root t = steady_comment (LastChild (root w)) t (root_is_node w k.sound)

  -- pops
  steady_pop : IsSteady (pop choices w)
  steady_pop = kept_steady w (pop choices w) (pop_keeps choices w k.sound k.lists)

  steady_implied_except : (local : List ℕ) → IsSteady (generate_implied_end_except choices local w)
  steady_implied_except local = kept_steady w _ (implied_keeps choices local w k.sound k.lists)

  steady_implied : IsSteady (generate_implied_end_tags choices w)
  unfolding generate_implied_end_tags
  steady_implied = kept_steady w _ (while_keeps choices is_implied (names_of w) w k.sound k.lists)

  pub steady_implied_thoroughly : IsSteady (generate_implied_end_thoroughly choices w)
  unfolding generate_implied_end_thoroughly
  steady_implied_thoroughly = kept_steady w _ (while_keeps choices is_thorough_implied (names_of w) w k.sound k.lists)

  steady_pop_heading : IsSteady (pop_heading choices w)
  unfolding pop_heading
  steady_pop_heading = steady_if (first_passes is_heading (names_of w)) (pop choices w) w steady_pop k

  steady_in_select : IsSteady (generate_implied_end_in_select choices w)
  unfolding generate_implied_end_in_select
  steady_in_select = steady_if (in_scope (is_html_named (codes "select")) is_default_scope (names_of w)) (generate_implied_end_tags choices w) w steady_implied k

  -- active formatting elements
  steady_reconstruct : IsSteady (reconstruct_active_formatting_elements choices w)
  steady_reconstruct = record { sound = sound_reconstruct choices w k.sound; lists = lists_reconstruct choices w k.sound k.lists }

steady_close_p : (choices : SinkChoices) (w : World) → IsSteady w → IsSteady (close_p_element choices w)
unfolding close_p_element
steady_close_p choices w k = steady_until_named (generate_implied_end_except choices (codes "p") w) (steady_implied_except choices w k (codes "p")) (codes "p")

steady_close_p_in_scope : (choices : SinkChoices) (w : World) → IsSteady w → IsSteady (close_p_element_in_button_scope choices w)
unfolding close_p_element_in_button_scope
steady_close_p_in_scope choices w k = steady_if (has_p_in_button_scope (names_of w)) (close_p_element choices w) w (steady_close_p choices w k) k

steady_item : (choices : SinkChoices) (o : Option (List ℕ)) (w : World) → IsSteady w → IsSteady (close_item choices o w)
steady_item choices None w k = k
steady_item choices (Some local) w k = steady_until_named (generate_implied_end_except choices local w) (steady_implied_except choices w k local) local

steady_list_item : (choices : SinkChoices) (locals : List (List ℕ)) (w : World) → IsSteady w → IsSteady (close_list_item choices locals w)
unfolding close_list_item
steady_list_item choices locals w k = steady_item choices (newest_item locals (names_of w)) w k

-- what a change needs: formatting elements are for the rows that make and close them, and what takes an element that the
-- row knows of is for that row
abbrev pub NeedsOf : Change → Type 0
NeedsOf (AppendText text) = text ≢ []
NeedsOf (CreateFormattingElement tag) = ⊥
NeedsOf (AdoptionAgency name) = ⊥
NeedsOf HandleMisnestedATags = ⊥
NeedsOf HandleMisnestedNobrTags = ⊥
NeedsOf (CopyClosedOption option) = ⊥
NeedsOf (RemoveFromStack element) = ⊥
NeedsOf PushHead = ⊥
NeedsOf _ = Unit {0}

abbrev pub NeedsOfAll : List Change → Type 0
NeedsOfAll [] = Unit {0}
NeedsOfAll (x ∷ xs) = NeedsOf x × NeedsOfAll xs

-- so it leaves a steady world
steady_change : (choices : SinkChoices) (x : Change) (w : World) → NeedsOf x → IsSteady w → IsSteady (apply choices x w)
steady_change choices (SetMode mode) w needs k = record { sound = k.sound; lists = k.lists }
steady_change choices (SetQuirksMode mode) w needs k = steady_quirks w k mode
steady_change choices SetFramesetNotOk w needs k = record { sound = k.sound; lists = k.lists }
steady_change choices (SetFramesetOkByText text) w needs k = steady_frameset w k text
steady_change choices (InsertElement local attrs duplicates) w needs k = steady_insert choices w k local attrs duplicates
steady_change choices (InsertAndPopElement local attrs duplicates) w needs k = steady_leaf choices w k local attrs duplicates
steady_change choices (InsertHead attrs duplicates) w needs k = steady_head choices w k attrs duplicates
steady_change choices (CreateRoot attrs) w needs k = steady_root choices w k attrs
steady_change choices (AppendText text) w needs k = steady_text w k text needs
steady_change choices (AppendComment text) w needs k = steady_comment_here choices w k text
steady_change choices (AppendCommentToDoc text) w needs k = steady_comment_to_document choices w k text
steady_change choices (AppendCommentToHtml text) w needs k = steady_comment_to_root choices w k text
steady_change choices (AddAttrsToHtml attrs) w needs k = steady_root_attrs w k attrs
steady_change choices (AddAttrsToSecond attrs) w needs k = steady_second_attrs w k attrs
steady_change choices Pop w needs k = steady_pop choices w k
steady_change choices (GenerateImpliedEndExcept local) w needs k = steady_implied_except choices w k local
steady_change choices (PopUntilNamed local) w needs k = steady_until_named w k local
steady_change choices GenerateImpliedEnd w needs k = steady_implied choices w k
steady_change choices ClosePElement w needs k = steady_close_p choices w k
steady_change choices ClosePElementInButtonScope w needs k = steady_close_p_in_scope choices w k
steady_change choices PopHeading w needs k = steady_pop_heading choices w k
steady_change choices PopUntilHeading w needs k = steady_until_heading w k
steady_change choices ReconstructActiveFormattingElements w needs k = steady_reconstruct choices w k
steady_change choices (CreateFormattingElement tag) w needs k = absurd needs
steady_change choices (AdoptionAgency name) w needs k = absurd needs
steady_change choices HandleMisnestedATags w needs k = absurd needs
steady_change choices HandleMisnestedNobrTags w needs k = absurd needs
steady_change choices InsertMarker w needs k = steady_marker w k
steady_change choices ClearActiveFormattingToMarker w needs k = steady_cleared w k
steady_change choices (PopUntilCurrent is) w needs k = steady_until_current w k is
steady_change choices PopUntilCell w needs k = steady_until_cell w k
steady_change choices (InsertAndPopForm attrs duplicates) w needs k = steady_form choices w k attrs duplicates
steady_change choices SaveMode w needs k = record { sound = k.sound; lists = k.lists }
steady_change choices ResetMode w needs k = record { sound = k.sound; lists = k.lists }
steady_change choices (SetFoster on) w needs k = record { sound = k.sound; lists = k.lists }
steady_change choices (AppendPendingText text) w needs k = steady_pending w k text
steady_change choices TakePendingText w needs k = record { sound = k.sound; lists = k.lists }
steady_change choices SetIgnoreLf w needs k = record { sound = k.sound; lists = k.lists }
steady_change choices (InsertForm attrs duplicates) w needs k = steady_form_open choices w k attrs duplicates
steady_change choices ClearForm w needs k = record { sound = no_form_stands w k.sound; lists = k.lists }
steady_change choices (CloseListItem locals) w needs k = steady_list_item choices locals w k
steady_change choices GenerateImpliedEndInSelect w needs k = steady_in_select choices w k
steady_change choices (CopyClosedOption option) w needs k = absurd needs
steady_change choices (RemoveFromStack element) w needs k = absurd needs
steady_change choices (InsertScript attrs duplicates) w needs k = steady_script choices w k attrs duplicates
steady_change choices MarkStarted w needs k = steady_started choices w k
steady_change choices PushHead w needs k = absurd needs
steady_change choices GenerateImpliedEndThoroughly w needs k = steady_implied_thoroughly choices w k
steady_change choices (PushTemplateMode mode) w needs k = record { sound = k.sound; lists = k.lists }
steady_change choices PopTemplateMode w needs k = record { sound = k.sound; lists = k.lists }
steady_change choices (SwitchTemplateMode mode) w needs k = record { sound = k.sound; lists = k.lists }
steady_change choices (InsertTemplate attrs duplicates) w needs k = steady_template choices w k attrs duplicates
steady_change choices RemoveBody w needs k = steady_remove_body w k
steady_change choices (InsertForeignElement name attrs duplicates) w needs k = record {
  sound = insert_foreign_stands choices name attrs duplicates w k.sound;
  lists = insert_foreign_lists choices name attrs duplicates w k.sound k.lists;
}
steady_change choices (InsertAndPopForeignElement name attrs duplicates) w needs k = record {
  sound = insert_and_pop_foreign_stands choices name attrs duplicates w k.sound;
  lists = insert_and_pop_foreign_lists choices name attrs duplicates w k.lists;
}
steady_change choices LeaveForeignContent w needs k = kept_steady w _ (leave_keeps choices w k.sound k.lists)
steady_change choices (PopUntilNamedInAnyCase local) w needs k = kept_steady w _ (until_in_any_case_keeps local w k.sound k.lists)

-- one after another
pub steady_changes : (choices : SinkChoices) (xs : List Change) (w : World) → NeedsOfAll xs → IsSteady w → IsSteady (apply_all choices xs w)
steady_changes choices [] w needs k = k
steady_changes choices (x ∷ xs) w needs k = steady_changes choices xs (apply choices x w) needs.1 (steady_change choices x w needs.0 k)
