-- Changes that leave all that modes see of a world besides the names of open elements: only the frameset-ok flag may go
-- off, and a head become known.
use Rattle.std.proofs.Common.{◌≡◌, ◌≢◌, ℕ, Bool, true, false, List, [], ◌∷◌, codes, Option, Some, None, is_some, refl, ap, sym, ◌∙◌}
use Rattle.h5_names.specs.AttributeText.{AttributeText}
use Rattle.h5_names.specs.declared.qualified.QualName.{QualName}
use Rattle.h5_token.specs.TokenText.{TagText}
use Rattle.h5_interface.specs.Forest.{ChildText, Forest}
use Rattle.h5_interface.specs.SinkChoices.{Rearranges, SinkChoices}
use Rattle.h5_interface.proofs.ForestLaws.{document_is_node}
use Rattle.h5_interface.proofs.MakingLaws.{add_missing_rearranges}
use Rattle.h5_tables.specs.TagSets.{is_thorough_implied}
use Rattle.h5_builder_spec.specs.formatting.FormattingList.{ElementEntry, Entry, MarkerEntry, closed_front}
use Rattle.h5_builder_spec.specs.formatting.FormattingNames.{html_name}
use Rattle.h5_builder_spec.specs.stack.Order.{second_from_last}
use Rattle.h5_builder_spec.specs.reset.Roles.{role_of}
use Rattle.h5_builder_spec.proofs.BoolLaws.{and_both}
use Rattle.h5_builder_spec.proofs.fitting.SituationRoleLaws.{Later}
use Rattle.h5_builder_spec.specs.formatting.AdoptionAgency.{KeepsKinds}
use Rattle.h5_builder_spec.specs.Blanks.{all_blank}
use Rattle.h5_builder_spec.specs.Changes.{owned, pop_while, add_attrs_at, add_attrs_to_html, add_attrs_to_second, append_comment, append_comment_to_doc, append_comment_to_html, append_text, create_root, insert_and_pop_element, insert_element, insert_head, pop, set_frameset_ok_by_text, with_forest}
use Rattle.h5_builder_spec.specs.stack.Closing.{generate_implied_end_thoroughly}
use Rattle.h5_builder_spec.specs.formatting.Formatting.{create_formatting_element, insert_anew, insert_for, reconstruct_active_formatting_elements}
use Rattle.h5_builder_spec.specs.insertion.Place.{LastChild, place, put}
use Rattle.h5_builder_spec.specs.Sound.{Sound, role_at, situation_of}
use Rattle.h5_builder_spec.specs.World.{World, name_of_found, names_of, root}
use Rattle.h5_builder_spec.proofs.adoption.AdoptionForest.{kinds_refl, kinds_trans, marked_kinds}
use Rattle.h5_builder_spec.proofs.changes.ClosingLaws.{while_holds}
use Rattle.h5_builder_spec.proofs.changes.FormattingLaws.{insert_for_rearranges, sound_anew}
use Rattle.h5_builder_spec.proofs.changes.PlaceLaws.{current_place_is_there, new_comment_rearranges, new_element_rearranges, text_put_rearranges}
use Rattle.h5_builder_spec.proofs.changes.SoundLaws.{element_is_node, root_is_node}
use Rattle.h5_builder_spec.proofs.changes.TreeLaws.{OnlyTree, tree_reconstruct}

pub record KeepsSituation (w v : World) : Type 0 where
  pub kinds : KeepsKinds w.forest v.forest
  pub modes : v.template_modes ≡ w.template_modes
  pub saved : v.saved_mode ≡ w.saved_mode
  pub context : v.context ≡ w.context
  pub head : is_some w.head ≡ true → is_some v.head ≡ true
  pub ok : v.frameset_ok ≡ true → w.frameset_ok ≡ true

pub situation_same : (w : World) → KeepsSituation w w
situation_same w = record { kinds = kinds_refl w.forest; modes = refl; saved = refl; context = refl; head = λ h. h; ok = λ h. h }

pub situation_then : (u v w : World) → KeepsSituation u v → KeepsSituation v w → KeepsSituation u w
situation_then u v w a b = record {
  kinds = kinds_trans u.forest v.forest w.forest a.kinds b.kinds;
  modes = b.modes ∙ a.modes;
  saved = b.saved ∙ a.saved;
  context = b.context ∙ a.context;
  head = λ h. b.head (a.head h);
  ok = λ h. a.ok (b.ok h);
}

-- so the situation comes after the one before
pub situation_later : (w v : World) → Sound w → KeepsSituation w v → Later (situation_of w) (situation_of v)
situation_later w v k s = record {
  modes = s.modes;
  saved = s.saved;
  context = ap (role_at v.forest) s.context ∙ at w.context refl;
  head = s.head;
  ok = s.ok;
}
  where
    at : (o : Option ℕ) → w.context ≡ o → role_at v.forest o ≡ role_at w.forest o
    at None e = refl
    at (Some n) e = ap (λ q. Some (role_of (name_of_found q))) (s.kinds n (element_is_node w.forest n (k.context_node n e)))

-- what changes only forest, stack and list
pub situation_tree : (w v : World) → OnlyTree w v → KeepsKinds w.forest v.forest → KeepsSituation w v
situation_tree w v e kinds = record {
  kinds = kinds;
  modes = ap (λ (x : World). x.template_modes) e;
  saved = ap (λ (x : World). x.saved_mode) e;
  context = ap (λ (x : World). x.context) e;
  head = λ h. ap (λ (x : World). is_some x.head) e ∙ h;
  ok = λ h. sym (ap (λ (x : World). x.frameset_ok) e) ∙ h;
}

-- only the forest
pub situation_forest : (w : World) (g : Forest) → Rearranges w.forest g → KeepsSituation w (with_forest g w)
situation_forest w g r = record { kinds = r.same_kind; modes = refl; saved = refl; context = refl; head = λ h. h; ok = λ h. h }

module _ (w : World) where
  pub situation_frameset : (t : List ℕ) → KeepsSituation w (set_frameset_ok_by_text t w)
  unfolding set_frameset_ok_by_text
  situation_frameset t = record { kinds = kinds_refl w.forest; modes = refl; saved = refl; context = refl; head = λ h. h; ok = λ h. (and_both w.frameset_ok (all_blank t) h).0 }

  pub situation_text : (t : List ℕ) → t ≢ [] → Sound w → KeepsSituation w (append_text t w)
  unfolding append_text
  situation_text t some k = situation_forest w (put (place w) (ChildText t) w.forest) (text_put_rearranges w.forest (place w) t k.stands.is_forest some (current_place_is_there w k))

  pub situation_add_to_root : (attrs : List AttributeText) → Sound w → KeepsSituation w (add_attrs_to_html attrs w)
  unfolding add_attrs_to_html
  situation_add_to_root attrs k = situation_forest w _ (add_missing_rearranges w.forest (root w) attrs k.stands.is_forest)

  pub situation_add_to_second : (attrs : List AttributeText) → Sound w → KeepsSituation w (add_attrs_to_second attrs w)
  unfolding add_attrs_to_second
  situation_add_to_second attrs k = at (second_from_last w.stack)
    where
      at : (o : Option ℕ) → KeepsSituation w (add_attrs_at o attrs w)
      at None = situation_same w
      at (Some n) = situation_forest w _ (add_missing_rearranges w.forest n attrs k.stands.is_forest)

module _ (choices : SinkChoices) (w : World) where
  pub situation_pop : KeepsSituation w (pop choices w)
  unfolding pop
  situation_pop = record { kinds = marked_kinds (choices.marks_after_pop w.forest _) w.forest; modes = refl; saved = refl; context = refl; head = λ h. h; ok = λ h. h }

  pub situation_insert : (local : List ℕ) (attrs : List AttributeText) (duplicates : Bool) → Sound w → KeepsSituation w (insert_element choices local attrs duplicates w)
  unfolding insert_element
  situation_insert local attrs duplicates k = record {
    kinds = (new_element_rearranges choices w.forest (place w) (html_name local) attrs duplicates (owned choices local attrs w) k.stands.is_forest (current_place_is_there w k)).same_kind;
    modes = refl;
    saved = refl;
    context = refl;
    head = λ h. h;
    ok = λ h. h;
  }

  pub situation_head : (attrs : List AttributeText) (duplicates : Bool) → Sound w → KeepsSituation w (insert_head choices attrs duplicates w)
  unfolding insert_head insert_element
  situation_head attrs duplicates k =
      let s = situation_insert (codes "head") attrs duplicates k in
      record { kinds = s.kinds; modes = refl; saved = refl; context = refl; head = λ h. refl; ok = λ h. h }

  pub situation_root : (attrs : List AttributeText) → Sound w → KeepsSituation w (create_root choices attrs w)
  unfolding create_root
  situation_root attrs k = record {
    kinds = (new_element_rearranges choices w.forest (LastChild w.forest.document) (html_name (codes "html")) attrs false None k.stands.is_forest (document_is_node w.forest k.stands.is_forest)).same_kind;
    modes = refl;
    saved = refl;
    context = refl;
    head = λ h. h;
    ok = λ h. h;
  }

  pub situation_leaf : (local : List ℕ) (attrs : List AttributeText) (duplicates : Bool) → Sound w → KeepsSituation w (insert_and_pop_element choices local attrs duplicates w)
  unfolding insert_and_pop_element
  situation_leaf local attrs duplicates k =
      situation_forest w _ (new_element_rearranges choices w.forest (place w) (html_name local) attrs duplicates (owned choices local attrs w) k.stands.is_forest (current_place_is_there w k))

  pub situation_comment : (t : List ℕ) → Sound w → KeepsSituation w (append_comment choices t w)
  unfolding append_comment
  situation_comment t k = situation_forest w _ (new_comment_rearranges choices w.forest (place w) t k.stands.is_forest (current_place_is_there w k))

  pub situation_comment_to_document : (t : List ℕ) → Sound w → KeepsSituation w (append_comment_to_doc choices t w)
  unfolding append_comment_to_doc
  situation_comment_to_document t k = situation_forest w _ (new_comment_rearranges choices w.forest (LastChild w.forest.document) t k.stands.is_forest (document_is_node w.forest k.stands.is_forest))

  pub situation_comment_to_root : (t : List ℕ) → Sound w → KeepsSituation w (append_comment_to_html choices t w)
  unfolding append_comment_to_html
  situation_comment_to_root t k = situation_forest w _ (new_comment_rearranges choices w.forest (LastChild (root w)) t k.stands.is_forest (root_is_node w k))

-- new elements for entries
anew_kinds : (choices : SinkChoices) (l : List Entry) (w : World) → Sound w → KeepsKinds w.forest (insert_anew choices l w).forest
anew_kinds choices [] w k = kinds_refl w.forest
anew_kinds choices (MarkerEntry ∷ l) w k = anew_kinds choices l w k
anew_kinds choices (ElementEntry n tag ∷ l) w k =
    let v = insert_anew choices l w in
    let u = insert_for choices tag v in
    kinds_trans w.forest v.forest u.forest (anew_kinds choices l w k) (insert_for_rearranges choices tag v (sound_anew choices l w k)).same_kind

reconstruct_kinds : (choices : SinkChoices) (w : World) → Sound w → KeepsKinds w.forest (reconstruct_active_formatting_elements choices w).forest
unfolding reconstruct_active_formatting_elements
reconstruct_kinds choices w k = anew_kinds choices (closed_front w.stack w.formatting) w k

pub situation_reconstruct : (choices : SinkChoices) (w : World) → Sound w → KeepsSituation w (reconstruct_active_formatting_elements choices w)
situation_reconstruct choices w k = situation_tree w (reconstruct_active_formatting_elements choices w) (tree_reconstruct choices w) (reconstruct_kinds choices w k)

pub situation_format : (choices : SinkChoices) (tag : TagText) (w : World) → Sound w → KeepsSituation w (create_formatting_element choices tag w)
unfolding create_formatting_element insert_element
situation_format choices tag w k =
    let s = situation_insert choices w tag.name tag.attrs tag.had_duplicate_attributes k in
    record { kinds = s.kinds; modes = refl; saved = refl; context = refl; head = λ h. h; ok = λ h. h }

-- Changes of template modes, and what modes see after them: a mode is pushed for a template that is opened, with the
-- frameset-ok flag off; it leaves with one that is closed; and it gives way to another.

-- implied ends, however thorough
pub situation_while : (choices : SinkChoices) (popped : QualName → Bool) (ns : List QualName) (w : World) → KeepsSituation w (pop_while choices popped ns w)
situation_while choices popped ns w =
    while_holds (KeepsSituation w) choices popped (λ v k. situation_then w v (pop choices v) k (situation_pop choices v)) ns w (situation_same w)

pub situation_thorough : (choices : SinkChoices) (w : World) → KeepsSituation w (generate_implied_end_thoroughly choices w)
unfolding generate_implied_end_thoroughly
situation_thorough choices w = situation_while choices is_thorough_implied (names_of w) w
