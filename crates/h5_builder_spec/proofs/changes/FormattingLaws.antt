-- What new elements for entries, and new formatting elements, leave of a world.
use Rattle.std.proofs.Common.{◌≡◌, inl, inr, ℕ, suc, Bool, true, false, cond, List, [], ◌∷◌, ◌++◌, length, take, Option, None, IsTrue, refl, ap, sym, subst, ◌∙◌}
use Rattle.std.proofs.lemmas.List.{take_at}
use Rattle.h5_token.specs.TokenText.{TagText}
use Rattle.h5_interface.specs.Forest.{Forest, IsNode}
use Rattle.h5_interface.specs.SinkChoices.{Rearranges, SinkChoices}
use Rattle.h5_interface.proofs.ForestLaws.{rearranged_node}
use Rattle.h5_tables.specs.TagSets.{formatting_names, is_one_of}
use Rattle.h5_builder_spec.specs.formatting.FormattingList.{ElementEntry, Entry, MarkerEntry, after_marker, closed_front, made_anew, nodes_of, push_formatting, reconstructed}
use Rattle.h5_builder_spec.specs.formatting.FormattingNames.{AllFormatting, AllOfTags, IsOfTag, html_name}
use Rattle.h5_builder_spec.specs.formatting.Fresh.{AreFresh}
use Rattle.h5_builder_spec.specs.inner.Lists.{Lists, OpenFirst}
use Rattle.h5_builder_spec.specs.stack.Order.{Distinct, IsIn, is_in}
use Rattle.h5_builder_spec.proofs.entries.EachLaws.{each_push_formatting, each_reconstructed, each_tag_reconstructed}
use Rattle.h5_builder_spec.proofs.entries.FreshLaws.{each_listed}
use Rattle.h5_builder_spec.proofs.entries.PushLaws.{lists_push_formatting}
use Rattle.h5_builder_spec.proofs.entries.ReconstructLaws.{front_reconstructed, lists_reconstructed, open_after, reconstructed_is_open, reconstructed_none}
use Rattle.h5_builder_spec.specs.stack.Root.{IsRootOpen}
use Rattle.h5_builder_spec.proofs.fitting.OpenLaws.{open_push}
use Rattle.h5_builder_spec.specs.Changes.{owned, append_text, insert_element, set_frameset_ok_by_text}
use Rattle.h5_builder_spec.specs.formatting.Formatting.{create_formatting_element, insert_anew, insert_for, reconstruct_active_formatting_elements}
use Rattle.h5_builder_spec.specs.insertion.Place.{place}
use Rattle.h5_builder_spec.specs.Sound.{AllStand, Sound}
use Rattle.h5_builder_spec.specs.inner.Kept.{HasLists, HasHtmlRoot}
use Rattle.h5_builder_spec.specs.World.{World, names_of}
use Rattle.h5_builder_spec.proofs.changes.NameLaws.{names-insert}
use Rattle.h5_builder_spec.proofs.changes.PlaceLaws.{all_inserted, current_place_is_there, first_place, new_element_kind, new_element_rearranges}
use Rattle.h5_builder_spec.proofs.changes.SoundLaws.{element_is_node, listed_kept}

-- the list is another
pub all_listed : {head form context : Option ℕ} (f : Forest) (s : List ℕ) (l m : List Entry) → AllStand f s l head form context → AllOfTags f m → AllFormatting m → AllStand f s m head form context
all_listed f s l m k listed formatting = record {
  stands = k.stands;
  root_top = k.root_top;
  head_node = k.head_node;
  form_node = k.form_node;
  form_name = k.form_name;
  apart = k.apart;
  context_node = k.context_node;
  context_out = k.context_out;
  context_no_head = k.context_no_head;
  listed = listed;
  formatting = formatting;
}

-- what is made next isn't listed
pub new_is_unlisted : (choices : SinkChoices) (w : World) → Sound w → ¬ (IsIn (choices.fresh w.forest) (nodes_of w.formatting))
new_is_unlisted choices w k i = each_listed w.forest w.formatting (choices.fresh w.forest) k.listed i (choices.fresh_is_new w.forest k.stands.is_forest)

-- ONE element is inserted: what it is, and what it leaves
module _ (choices : SinkChoices) (tag : TagText) (w : World) where
  pub sound_insert_for : Sound w → Sound (insert_for choices tag w)
  unfolding insert_element
  sound_insert_for k =
      all_inserted choices (place w) (html_name tag.name) tag.attrs tag.had_duplicate_attributes (owned choices tag.name tag.attrs w) w k (current_place_is_there w k) (λ e. first_place w k.stands.is_forest e)

  pub stack-insert_for : (insert_for choices tag w).stack ≡ choices.fresh w.forest ∷ w.stack
  unfolding insert_element
  stack-insert_for = refl

  pub formatting-insert_for : (insert_for choices tag w).formatting ≡ w.formatting
  unfolding insert_element
  formatting-insert_for = refl

  pub insert_for_rearranges : Sound w → Rearranges w.forest (insert_for choices tag w).forest
  unfolding insert_element
  insert_for_rearranges k = new_element_rearranges choices w.forest (place w) (html_name tag.name) tag.attrs tag.had_duplicate_attributes (owned choices tag.name tag.attrs w) k.stands.is_forest (current_place_is_there w k)

  -- the new element is one of the tag's name
  pub kind-insert_for : Sound w → IsOfTag (insert_for choices tag w).forest (choices.fresh w.forest) tag
  unfolding insert_element
  kind-insert_for k = new_element_kind choices w.forest (place w) (html_name tag.name) tag.attrs tag.had_duplicate_attributes (owned choices tag.name tag.attrs w) k.stands.is_forest (current_place_is_there w k)

  new_is_there : Sound w → IsNode (insert_for choices tag w).forest (choices.fresh w.forest)
  new_is_there k =
      element_is_node (insert_for choices tag w).forest (choices.fresh w.forest) ((sound_insert_for k).stands.elements (choices.fresh w.forest) (subst (IsIn (choices.fresh w.forest)) (sym stack-insert_for) (inl refl)))

  insert_for_keeps_node : (n : ℕ) → Sound w → IsNode w.forest n → IsNode (insert_for choices tag w).forest n
  insert_for_keeps_node n k there = rearranged_node w.forest (insert_for choices tag w).forest n (insert_for_rearranges k) there

  -- the list is what it was, and the new element isn't listed

  pub root_insert_for : Sound w → IsRootOpen (names_of w) → IsRootOpen (names_of (insert_for choices tag w))
  root_insert_for k h = subst IsRootOpen (sym (names-insert choices tag.name tag.attrs tag.had_duplicate_attributes w k)) (open_push (html_name tag.name) (names_of w) h)

-- NEW ELEMENTS for entries are created, the oldest entry's first; the list has them with the newest first
abbrev pub made_nodes : SinkChoices → List Entry → World → List ℕ
made_nodes choices [] w = []
made_nodes choices (MarkerEntry ∷ l) w = made_nodes choices l w
made_nodes choices (ElementEntry n tag ∷ l) w = choices.fresh (insert_anew choices l w).forest ∷ made_nodes choices l w

pub sound_anew : (choices : SinkChoices) (l : List Entry) (w : World) → Sound w → Sound (insert_anew choices l w)
sound_anew choices [] w k = k
sound_anew choices (MarkerEntry ∷ l) w k = sound_anew choices l w k
sound_anew choices (ElementEntry n tag ∷ l) w k = sound_insert_for choices tag (insert_anew choices l w) (sound_anew choices l w k)

pub root_anew : (choices : SinkChoices) (l : List Entry) (w : World) → Sound w → IsRootOpen (names_of w) → IsRootOpen (names_of (insert_anew choices l w))
root_anew choices [] w k h = h
root_anew choices (MarkerEntry ∷ l) w k h = root_anew choices l w k h
root_anew choices (ElementEntry n tag ∷ l) w k h = root_insert_for choices tag (insert_anew choices l w) (sound_anew choices l w k) (root_anew choices l w k h)

anew_keeps_node : (choices : SinkChoices) (l : List Entry) (w : World) (n : ℕ) → Sound w → IsNode w.forest n → IsNode (insert_anew choices l w).forest n
anew_keeps_node choices [] w n k there = there
anew_keeps_node choices (MarkerEntry ∷ l) w n k there = anew_keeps_node choices l w n k there
anew_keeps_node choices (ElementEntry m tag ∷ l) w n k there = insert_for_keeps_node choices tag (insert_anew choices l w) n (sound_anew choices l w k) (anew_keeps_node choices l w n k there)

made_is_new : (choices : SinkChoices) (l : List Entry) (w : World) (n : ℕ) → Sound w → IsIn n (made_nodes choices l w) → ¬ (IsNode w.forest n)
made_is_new choices [] w n k h there = h
made_is_new choices (MarkerEntry ∷ l) w n k h there = made_is_new choices l w n k h there
made_is_new choices (ElementEntry m tag ∷ l) w n k (inl h) there =
    let v = insert_anew choices l w in
    anew_keeps_node choices l w n k there (subst (λ z. v.forest.node z ≡ None) (sym h) (choices.fresh_is_new v.forest (sound_anew choices l w k).stands.is_forest))
made_is_new choices (ElementEntry m tag ∷ l) w n k (inr h) there = made_is_new choices l w n k h there

made_is_there : (choices : SinkChoices) (l : List Entry) (w : World) (n : ℕ) → Sound w → IsIn n (made_nodes choices l w) → IsNode (insert_anew choices l w).forest n
made_is_there choices [] w n k h = absurd h
made_is_there choices (MarkerEntry ∷ l) w n k h = made_is_there choices l w n k h
made_is_there choices (ElementEntry m tag ∷ l) w n k (inl h) =
    let v = insert_anew choices l w in
    subst (IsNode (insert_for choices tag v).forest) (sym h) (new_is_there choices tag v (sound_anew choices l w k))
made_is_there choices (ElementEntry m tag ∷ l) w n k (inr h) = insert_for_keeps_node choices tag (insert_anew choices l w) n (sound_anew choices l w k) (made_is_there choices l w n k h)

made_distinct : (choices : SinkChoices) (l : List Entry) (w : World) → Sound w → Distinct (made_nodes choices l w)
made_distinct choices [] w k x h = h
made_distinct choices (MarkerEntry ∷ l) w k x h = made_distinct choices l w k x h
made_distinct choices (ElementEntry n tag ∷ l) w k x (inl h) =
    let v = insert_anew choices l w in
    made_is_there choices l w x k h.1 (subst (λ z. v.forest.node z ≡ None) (sym h.0) (choices.fresh_is_new v.forest (sound_anew choices l w k).stands.is_forest))
made_distinct choices (ElementEntry n tag ∷ l) w k x (inr h) = made_distinct choices l w k x h

made_fresh : (choices : SinkChoices) (l : List Entry) (w : World) → Sound w → AreFresh (made_nodes choices l w) w.stack w.formatting
made_fresh choices l w k = record {
  distinct = made_distinct choices l w k;
  unopened = λ x h i. made_is_new choices l w x k h (element_is_node w.forest x (k.stands.elements x i));
  unlisted = λ x h i. made_is_new choices l w x k h (each_listed w.forest w.formatting x k.listed i);
}

made_stack : (choices : SinkChoices) (l : List Entry) (w : World) → (insert_anew choices l w).stack ≡ made_nodes choices l w ++ w.stack
made_stack choices [] w = refl
made_stack choices (MarkerEntry ∷ l) w = made_stack choices l w
made_stack choices (ElementEntry n tag ∷ l) w = stack-insert_for choices tag (insert_anew choices l w) ∙ ap (λ s. choices.fresh (insert_anew choices l w).forest ∷ s) (made_stack choices l w)

-- as many as the entries, among which there is no marker
made_many : (choices : SinkChoices) (s : List ℕ) (l : List Entry) (w : World) → length (made_nodes choices (closed_front s l) w) ≡ length (closed_front s l)
made_many choices s [] w = refl
made_many choices s (MarkerEntry ∷ l) w = refl
made_many choices s (ElementEntry n tag ∷ l) w = at (is_in n s) (made_many choices s l w)
  where
    at : (b : Bool) → length (made_nodes choices (closed_front s l) w) ≡ length (closed_front s l)
        → length (made_nodes choices (cond b [] (ElementEntry n tag ∷ closed_front s l)) w) ≡ length (cond b [] (ElementEntry n tag ∷ closed_front s l))
    at true go = refl
    at false go = ap suc go

anew_keeps_kind : (choices : SinkChoices) (l : List Entry) (w : World) → Sound w → AllOfTags w.forest w.formatting → AllOfTags (insert_anew choices l w).forest w.formatting
anew_keeps_kind choices [] w k h = h
anew_keeps_kind choices (MarkerEntry ∷ l) w k h = anew_keeps_kind choices l w k h
anew_keeps_kind choices (ElementEntry n tag ∷ l) w k h =
    let v = insert_anew choices l w in
    listed_kept v.forest (insert_for choices tag v).forest w.formatting (insert_for_rearranges choices tag v (sound_anew choices l w k)) (anew_keeps_kind choices l w k h)

-- each is of its entry's tag
made_kinds : (choices : SinkChoices) (l : List Entry) (w : World) → Sound w → AllOfTags (insert_anew choices l w).forest (made_anew (made_nodes choices l w) l)
made_kinds choices [] w k = tt
made_kinds choices (MarkerEntry ∷ l) w k = none (made_nodes choices l w)
  where
    none : (ms : List ℕ) → AllOfTags (insert_anew choices l w).forest (made_anew ms (MarkerEntry ∷ l))
    none [] = tt
    none (m ∷ ms) = tt
made_kinds choices (ElementEntry n tag ∷ l) w k =
    let v = insert_anew choices l w in
    let sound = sound_anew choices l w k in
    (kind-insert_for choices tag v sound, listed_kept v.forest (insert_for choices tag v).forest (made_anew (made_nodes choices l w) l) (insert_for_rearranges choices tag v sound) (made_kinds choices l w k))

-- RECONSTRUCTING, as a change of stack and list alone
module _ (choices : SinkChoices) (w : World) where
  abbrev front : List Entry
  front = closed_front w.stack w.formatting

  abbrev made : List ℕ
  made = made_nodes choices front w

  abbrev anew : World
  anew = insert_anew choices front w

  taken : take (length front) anew.stack ≡ made
  taken = ap (take (length front)) (made_stack choices front w) ∙ take_at made w.stack (length front) (made_many choices w.stack w.formatting w)

  -- at once, as the list is written when all were made
  pub reconstruct_as_made : reconstruct_active_formatting_elements choices w ≡ record anew { formatting = reconstructed made w.stack w.formatting }
  unfolding reconstruct_active_formatting_elements
  reconstruct_as_made = ap (λ ms. record anew { formatting = reconstructed ms w.stack w.formatting }) taken

  pub formatting-reconstruct : (reconstruct_active_formatting_elements choices w).formatting ≡ reconstructed made w.stack w.formatting
  unfolding reconstruct_active_formatting_elements
  formatting-reconstruct = ap (λ ms. reconstructed ms w.stack w.formatting) taken

  pub stack-reconstruct : (reconstruct_active_formatting_elements choices w).stack ≡ made ++ w.stack
  unfolding reconstruct_active_formatting_elements
  stack-reconstruct = made_stack choices front w

  sound_list : Sound w → AllStand anew.forest anew.stack (reconstructed made w.stack w.formatting) anew.head anew.form anew.context
  sound_list k =
      all_listed anew.forest anew.stack anew.formatting (reconstructed made w.stack w.formatting) (sound_anew choices front w k)
      (each_reconstructed (IsOfTag anew.forest) made w.stack w.formatting (made_kinds choices front w k) (anew_keeps_kind choices front w k k.listed))
      (each_tag_reconstructed (λ t. IsTrue (is_one_of formatting_names t.name)) made w.stack w.formatting k.formatting)

  pub sound_reconstruct : Sound w → Sound (reconstruct_active_formatting_elements choices w)
  unfolding reconstruct_active_formatting_elements
  sound_reconstruct k = subst (λ ms. AllStand anew.forest anew.stack (reconstructed ms w.stack w.formatting) anew.head anew.form anew.context) (sym taken) (sound_list k)

  pub lists_reconstruct : Sound w → HasLists w → HasLists (reconstruct_active_formatting_elements choices w)
  lists_reconstruct k lists =
      subst (λ s. Lists s (reconstruct_active_formatting_elements choices w).formatting) (sym stack-reconstruct)
      (subst (Lists (made ++ w.stack)) (sym formatting-reconstruct) (lists_reconstructed made w.stack w.formatting (made_many choices w.stack w.formatting w) (made_fresh choices front w k) lists))

  -- every listed element after the last marker is open then
  pub open_reconstruct : OpenFirst w.stack (after_marker w.formatting) → (n : ℕ) → IsIn n (nodes_of (after_marker (reconstruct_active_formatting_elements choices w).formatting)) → IsIn n (reconstruct_active_formatting_elements choices w).stack
  open_reconstruct k n h =
      subst (IsIn n) (sym stack-reconstruct)
      (reconstructed_is_open made w.stack w.formatting (made_many choices w.stack w.formatting w) k n (subst (λ l. IsIn n (nodes_of (after_marker l))) formatting-reconstruct h))

  pub root_reconstruct : Sound w → IsRootOpen (names_of w) → IsRootOpen (names_of (reconstruct_active_formatting_elements choices w))
  unfolding names_of reconstruct_active_formatting_elements
  root_reconstruct k h = root_anew choices front w k h

  -- if there is nothing to make, nothing changes
  pub reconstruct_none : closed_front w.stack w.formatting ≡ [] → reconstruct_active_formatting_elements choices w ≡ w
  unfolding reconstruct_active_formatting_elements
  reconstruct_none e =
      ap (λ l. let v = insert_anew choices l w in record v { formatting = reconstructed (take (length l) v.stack) w.stack w.formatting }) e
      ∙ ap (λ l. record w { formatting = l }) (reconstructed_none w.stack w.formatting e)

  -- and so it is right after it
  closed_reconstruct : closed_front (reconstruct_active_formatting_elements choices w).stack (reconstruct_active_formatting_elements choices w).formatting ≡ []
  closed_reconstruct =
      ap (λ s. closed_front s (reconstruct_active_formatting_elements choices w).formatting) stack-reconstruct
      ∙ ap (closed_front (made ++ w.stack)) formatting-reconstruct
      ∙ front_reconstructed made w.stack w.formatting (made_many choices w.stack w.formatting w)

pub reconstruct_after_flag_and_text : (choices : SinkChoices) (t : List ℕ) (w : World)
    → let v = append_text t (set_frameset_ok_by_text t (reconstruct_active_formatting_elements choices w)) in reconstruct_active_formatting_elements choices v ≡ v
unfolding append_text set_frameset_ok_by_text
reconstruct_after_flag_and_text choices t w = reconstruct_none choices (append_text t (set_frameset_ok_by_text t (reconstruct_active_formatting_elements choices w))) (closed_reconstruct choices w)

-- A NEW formatting element
module _ (choices : SinkChoices) (tag : TagText) (w : World) where
  pub sound_format : IsTrue (is_one_of formatting_names tag.name) → Sound w → Sound (create_formatting_element choices tag w)
  unfolding create_formatting_element insert_element
  sound_format named k =
      let v = insert_for choices tag w in
      let new = sound_insert_for choices tag w k in
      all_listed v.forest v.stack v.formatting (push_formatting (choices.fresh w.forest) tag w.formatting) new
      (each_push_formatting (IsOfTag v.forest) (choices.fresh w.forest) tag w.formatting (kind-insert_for choices tag w k) new.listed)
      (each_push_formatting (λ n t. IsTrue (is_one_of formatting_names t.name)) (choices.fresh w.forest) tag w.formatting named k.formatting)

  pub lists_format : ((n : ℕ) → IsIn n (nodes_of (after_marker w.formatting)) → IsIn n w.stack) → Sound w → HasLists w → HasLists (create_formatting_element choices tag w)
  unfolding create_formatting_element insert_element
  lists_format all k lists = lists_push_formatting (choices.fresh w.forest) tag w.stack w.formatting all (new_is_unlisted choices w k) lists

  pub root_format : Sound w → IsRootOpen (names_of w) → IsRootOpen (names_of (create_formatting_element choices tag w))
  unfolding names_of create_formatting_element
  root_format k h = root_insert_for choices tag w k h

-- every element that is listed after the last marker is open
abbrev pub AllListedOpen : World → Type 0
AllListedOpen w = (n : ℕ) → IsIn n (nodes_of (after_marker w.formatting)) → IsIn n w.stack

-- so it is after reconstructing, where the list agrees with the stack
pub reconstruct_opens : (choices : SinkChoices) (w : World) → HasLists w → AllListedOpen (reconstruct_active_formatting_elements choices w)
reconstruct_opens choices w lists = open_reconstruct choices w (open_after w.stack w.formatting lists.agrees.open_first)

pub reconstruct_ready : (choices : SinkChoices) (w : World) → HasHtmlRoot w → HasHtmlRoot (reconstruct_active_formatting_elements choices w)
reconstruct_ready choices w k = record {
  sound = sound_reconstruct choices w k.sound;
  lists = lists_reconstruct choices w k.sound k.lists;
  root = root_reconstruct choices w k.sound k.root;
}

-- a new formatting element
pub format_ready : (choices : SinkChoices) (tag : TagText) (w : World) → IsTrue (is_one_of formatting_names tag.name) → AllListedOpen w → HasHtmlRoot w → HasHtmlRoot (create_formatting_element choices tag w)
format_ready choices tag w named all k = record {
  sound = sound_format choices tag w named k.sound;
  lists = lists_format choices tag w all k.sound k.lists;
  root = root_format choices tag w k.sound k.root;
}
