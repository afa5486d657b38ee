-- An element of raw text begins: the mode is saved, and the open elements fit "text".
use Rattle.std.proofs.Common.{◌≡◌, ℕ, Bool, true, List, [], ◌∷◌, Some, codes, refl, ap, sym, subst, ◌∙◌}
use Rattle.h5_names.specs.AttributeText.{AttributeText}
use Rattle.h5_names.specs.declared.qualified.QualName.{QualName}
use Rattle.h5_interface.specs.SinkChoices.{SinkChoices}
use Rattle.h5_tables.specs.declared.modes.InsertionMode.{InsertionMode}
use Rattle.h5_tables.specs.declared.modes.InsertionMode.TheVariants.{Text}
use Rattle.h5_builder_spec.specs.formatting.FormattingNames.{html_name}
use Rattle.h5_tables.specs.TagSets.{html_namespace}
use Rattle.h5_builder_spec.specs.reset.SituationChanges.{with_saved}
use Rattle.h5_builder_spec.specs.inner.Fits.{may_be_left}
use Rattle.h5_builder_spec.specs.inner.NamesFit.{NamesFit}
use Rattle.h5_builder_spec.specs.reset.Roles.{is_html_element, PlainRole, role_of, role_of_local}
use Rattle.h5_builder_spec.specs.stack.Root.{IsRootOpen}
use Rattle.h5_builder_spec.proofs.fitting.NamesFitLaws.{names_text_pushed}
use Rattle.h5_builder_spec.proofs.roles.RoleLaws.{role_made}
use Rattle.h5_builder_spec.proofs.fitting.SituationRoleLaws.{names_later}
use Rattle.h5_builder_spec.specs.Changes.{insert_element, insert_script, save_mode, set_mode, starts_marked}
use Rattle.h5_builder_spec.specs.insertion.Place.{place}
use Rattle.h5_builder_spec.specs.Sound.{Sound, situation_of}
use Rattle.h5_builder_spec.specs.World.{World, names_of}
use Rattle.h5_builder_spec.proofs.rows.KeptLaws.{FitsAs}
use Rattle.h5_builder_spec.proofs.changes.NameLaws.{names-insert, names_pushed}
use Rattle.h5_builder_spec.proofs.changes.PlaceLaws.{current_place_is_there, new_element_rearranges}
use Rattle.h5_builder_spec.proofs.changes.SituationLaws.{KeepsSituation, situation_insert, situation_later}

-- the mode of a world that fits it is kept, and an HTML element of a plain name is pushed
pub text_fits : (w z : World) (m : InsertionMode) (x : QualName) → may_be_left m ≡ true → Sound w → IsRootOpen (names_of w) → role_of x ≡ PlainRole → is_html_element x ≡ true
    → KeepsSituation (record w { saved_mode = Some m }) z → names_of z ≡ x ∷ names_of w → FitsAs m w → FitsAs Text z
text_fits w z m x left sound root plain html k names h =
    names_later (with_saved m (situation_of w)) (situation_of z) (situation_later (record w { saved_mode = Some m }) z sound k) Text (names_of z)
    (subst (NamesFit (with_saved m (situation_of w)) Text) (sym names) (put (names_of w) root h))
  where
    put : (ns : List QualName) → IsRootOpen ns → NamesFit (situation_of w) m ns → NamesFit (with_saved m (situation_of w)) Text (x ∷ ns)
    put [] o f = absurd o
    put (n ∷ ns) o f = names_text_pushed (situation_of w) m x n ns left plain html f

module _ (choices : SinkChoices) (w : World) (m : InsertionMode) (is : w.mode ≡ m) (left : may_be_left m ≡ true) (sound : Sound w) (root : IsRootOpen (names_of w)) where
  -- an element for a tag
  pub text_begins : (local : List ℕ) (attrs : List AttributeText) (duplicates : Bool) → role_of_local local ≡ PlainRole → FitsAs m w
      → FitsAs Text (set_mode Text (save_mode (insert_element choices local attrs duplicates w)))
  unfolding insert_element names_of html_namespace
  text_begins local attrs duplicates plain h =
      let v = insert_element choices local attrs duplicates w in
      let s = situation_insert choices w local attrs duplicates sound in
      text_fits w (set_mode Text (save_mode v)) m (html_name local) left sound root (role_made local ∙ plain) refl
      (record { kinds = s.kinds; modes = refl; saved = ap (λ k. Some k) is; context = refl; head = λ e. e; ok = λ e. e }) (names-insert choices local attrs duplicates w sound) h

  -- a script
  pub script_begins : (attrs : List AttributeText) (duplicates : Bool) → role_of_local (codes "script") ≡ PlainRole → FitsAs m w → FitsAs Text (set_mode Text (save_mode (insert_script choices attrs duplicates w)))
  unfolding insert_script names_of html_namespace
  script_begins attrs duplicates plain h =
      let v = insert_script choices attrs duplicates w in
      let r = new_element_rearranges choices w.forest (place w) (html_name (codes "script")) attrs duplicates (starts_marked choices w) sound.stands.is_forest (current_place_is_there w sound) in
      text_fits w (set_mode Text (save_mode v)) m (html_name (codes "script")) left sound root (role_made (codes "script") ∙ plain) refl
      (record { kinds = r.same_kind; modes = refl; saved = ap (λ k. Some k) is; context = refl; head = λ e. e; ok = λ e. e })
      (names_pushed choices (place w) (codes "script") attrs duplicates (starts_marked choices w) w sound (current_place_is_there w sound)) h
