-- Elements of SVG and MathML: what making them, and leaving them, keeps.
use Rattle.std.proofs.Common.{◌≡◌, ℕ, Bool, true, false, not, ◌||◌, cond, List, [], ◌∷◌, map, None, refl, ap, ◌∙◌}
use Rattle.h5_names.specs.AttributeText.{AttributeText}
use Rattle.h5_names.specs.declared.qualified.QualName.{QualName}
use Rattle.h5_interface.specs.SinkChoices.{SinkChoices}
use Rattle.h5_builder_spec.specs.stack.Scope.{cut_names}
use Rattle.h5_builder_spec.proofs.entries.KeptListsLaws.{lists_pushed}
use Rattle.h5_builder_spec.specs.Changes.{new_element, pop}
use Rattle.h5_builder_spec.specs.insertion.Foreign.{foreign_name, insert_and_pop_foreign_element, insert_foreign_element, is_left, is_named_in_any_case, leave_foreign_content, pop_left, pop_until_named_in_any_case}
use Rattle.h5_builder_spec.specs.insertion.Place.{place}
use Rattle.h5_builder_spec.specs.inner.Kept.{HasLists}
use Rattle.h5_builder_spec.specs.Sound.{Sound}
use Rattle.h5_builder_spec.specs.World.{World, name_in, name_of_found, names_of}
use Rattle.h5_builder_spec.proofs.adoption.AdoptionAgencyLaws.{Keeps, cut_keeps, keeps_then, pop_keeps}
use Rattle.h5_builder_spec.proofs.adoption.AdoptionForest.{kinds_refl}
use Rattle.h5_builder_spec.proofs.changes.FormattingLaws.{new_is_unlisted}
use Rattle.h5_builder_spec.proofs.changes.NameLaws.{cut_map, names_kept}
use Rattle.h5_builder_spec.proofs.changes.PopLaws.{pop_stack}
use Rattle.h5_builder_spec.proofs.changes.PlaceLaws.{all_inserted, current_place_is_there, first_place, new_element_kind, new_element_rearranges}
use Rattle.h5_builder_spec.proofs.changes.SituationLaws.{KeepsSituation, situation_forest, situation_pop, situation_same, situation_then}
use Rattle.h5_builder_spec.proofs.changes.SoundLaws.{all_rearranged}
use Rattle.h5_builder_spec.proofs.changes.TreeLaws.{OnlyTree, tree_pop, tree_then}
use Rattle.h5_interface.specs.Forest.{Forest}
use Rattle.h5_builder_spec.specs.stack.Order.{but_first}
use Rattle.h5_tables.specs.TagSets.{html_namespace, mathml_namespace, svg_namespace}
use Rattle.h5_builder_spec.specs.reset.Roles.{is_html_element}

-- MathML and SVG aren't HTML
pub mathml_no_html : (local : List ℕ) → is_html_element (foreign_name mathml_namespace local) ≡ false
unfolding mathml_namespace html_namespace
mathml_no_html local = refl

pub svg_no_html : (local : List ℕ) → is_html_element (foreign_name svg_namespace local) ≡ false
unfolding svg_namespace html_namespace
svg_no_html local = refl

-- what is left isn't an element of HTML
left_foreign : (choices : SinkChoices) (f : Forest) (n : ℕ) → is_left choices f n ≡ true → is_html_element (name_in f n) ≡ false
unfolding is_left
left_foreign choices f n h = not_first (is_html_element (name_in f n)) _ h
  where
    not_first : (a b : Bool) → not (a || b) ≡ true → a ≡ false
    not_first true b h = absurd (cc)
    not_first false b h = refl

-- so what stays where a current node that isn't of HTML is popped stays where foreign content is left
pub leave_holds : (P : World → Type 0) (choices : SinkChoices) → ((v : World) (x : QualName) (ns : List QualName) → names_of v ≡ x ∷ ns → is_html_element x ≡ false → P v → P (pop choices v)) → (w : World) → P w → P (leave_foreign_content choices w)
unfolding leave_foreign_content names_of
leave_holds P choices step w h = down w.stack w refl h
  where
    down : (s : List ℕ) (v : World) → v.stack ≡ s → P v → P (pop_left choices s v)
    down [] v e k = k
    down (n ∷ s) v e k = at (is_left choices v.forest n) refl (down s)
      where
        at : (b : Bool) → is_left choices v.forest n ≡ b → ((u : World) → u.stack ≡ s → P u → P (pop_left choices s u)) → P (cond b (pop_left choices s (pop choices v)) v)
        at true l next = next (pop choices v) (pop_stack choices v ∙ ap but_first e) (step v (name_in v.forest n) (map (name_in v.forest) s) (ap (map (name_in v.forest)) e) (left_foreign choices v.forest n l) k)
        at false l next = k

-- leaving foreign content
pub leave_keeps : (choices : SinkChoices) (w : World) → Sound w → HasLists w → Keeps w (leave_foreign_content choices w)
leave_keeps choices w k h = leave_holds (Keeps w) choices (λ v x ns e f one. keeps_then w v (pop choices v) one (pop_keeps choices v one.sound one.lists)) w (record { sound = k; lists = h; kinds = kinds_refl w.forest })

pub tree_leave : (choices : SinkChoices) (w : World) → OnlyTree w (leave_foreign_content choices w)
tree_leave choices w = leave_holds (OnlyTree w) choices (λ v x ns e f one. tree_then w v (pop choices v) one (tree_pop choices v)) w refl

pub situation_leave : (choices : SinkChoices) (w : World) → KeepsSituation w (leave_foreign_content choices w)
situation_leave choices w = leave_holds (KeepsSituation w) choices (λ v x ns e f one. situation_then w v (pop choices v) one (situation_pop choices v)) w (situation_same w)

-- up to and including an element of a name
pub until_in_any_case_keeps : (local : List ℕ) (w : World) → Sound w → HasLists w → Keeps w (pop_until_named_in_any_case local w)
unfolding pop_until_named_in_any_case
until_in_any_case_keeps local w k h = cut_keeps (is_named_in_any_case local) w k h

pub tree_until_in_any_case : (local : List ℕ) (w : World) → OnlyTree w (pop_until_named_in_any_case local w)
unfolding pop_until_named_in_any_case
tree_until_in_any_case local w = refl

pub names-until_in_any_case : (local : List ℕ) (w : World) → names_of (pop_until_named_in_any_case local w) ≡ cut_names (is_named_in_any_case local) (names_of w)
unfolding names_of pop_until_named_in_any_case
names-until_in_any_case local w = cut_map w.forest (is_named_in_any_case local) w.stack

pub situation_until_in_any_case : (local : List ℕ) (w : World) → KeepsSituation w (pop_until_named_in_any_case local w)
unfolding pop_until_named_in_any_case
situation_until_in_any_case local w = record { kinds = (situation_same w).kinds; modes = refl; saved = refl; context = refl; head = λ h. h; ok = λ h. h }

-- a new element
module _ (choices : SinkChoices) (name : QualName) (attrs : List AttributeText) (duplicates : Bool) (w : World) where
  pub tree_insert_foreign : OnlyTree w (insert_foreign_element choices name attrs duplicates w)
  unfolding insert_foreign_element
  tree_insert_foreign = refl

  pub tree_insert_and_pop_foreign : OnlyTree w (insert_and_pop_foreign_element choices name attrs duplicates w)
  unfolding insert_and_pop_foreign_element
  tree_insert_and_pop_foreign = refl

  pub insert_foreign_stands : Sound w → Sound (insert_foreign_element choices name attrs duplicates w)
  unfolding insert_foreign_element
  insert_foreign_stands k = all_inserted choices (place w) name attrs duplicates None w k (current_place_is_there w k) (λ e. first_place w k.stands.is_forest e)

  pub insert_foreign_lists : Sound w → HasLists w → HasLists (insert_foreign_element choices name attrs duplicates w)
  unfolding insert_foreign_element
  insert_foreign_lists k h = lists_pushed (choices.fresh w.forest) w.stack w.formatting (new_is_unlisted choices w k) h

  pub insert_and_pop_foreign_stands : Sound w → Sound (insert_and_pop_foreign_element choices name attrs duplicates w)
  unfolding insert_and_pop_foreign_element
  insert_and_pop_foreign_stands k =
      all_rearranged w.forest _ w.stack k (new_element_rearranges choices w.forest (place w) name attrs duplicates None k.stands.is_forest (current_place_is_there w k))

  pub insert_and_pop_foreign_lists : HasLists w → HasLists (insert_and_pop_foreign_element choices name attrs duplicates w)
  unfolding insert_and_pop_foreign_element
  insert_and_pop_foreign_lists h = h

  pub names-insert_foreign : Sound w → names_of (insert_foreign_element choices name attrs duplicates w) ≡ name ∷ names_of w
  unfolding names_of insert_foreign_element
  names-insert_foreign k =
      let there = current_place_is_there w k in
      ap (λ x. x ∷ map (name_in (new_element choices (place w) name attrs duplicates None w.forest)) w.stack) (ap name_of_found (new_element_kind choices w.forest (place w) name attrs duplicates None k.stands.is_forest there))
      ∙ ap (λ xs. name ∷ xs) (names_kept w _ k (new_element_rearranges choices w.forest (place w) name attrs duplicates None k.stands.is_forest there))

  pub names-insert_and_pop_foreign : Sound w → names_of (insert_and_pop_foreign_element choices name attrs duplicates w) ≡ names_of w
  unfolding names_of insert_and_pop_foreign_element
  names-insert_and_pop_foreign k =
      names_kept w _ k (new_element_rearranges choices w.forest (place w) name attrs duplicates None k.stands.is_forest (current_place_is_there w k))

  pub situation_insert_foreign : Sound w → KeepsSituation w (insert_foreign_element choices name attrs duplicates w)
  unfolding insert_foreign_element
  situation_insert_foreign k = record {
    kinds = (new_element_rearranges choices w.forest (place w) name attrs duplicates None k.stands.is_forest (current_place_is_there w k)).same_kind;
    modes = refl;
    saved = refl;
    context = refl;
    head = λ h. h;
    ok = λ h. h;
  }

  pub situation_insert_and_pop_foreign : Sound w → KeepsSituation w (insert_and_pop_foreign_element choices name attrs duplicates w)
  unfolding insert_and_pop_foreign_element
  situation_insert_and_pop_foreign k =
      situation_forest w _ (new_element_rearranges choices w.forest (place w) name attrs duplicates None k.stands.is_forest (current_place_is_there w k))
