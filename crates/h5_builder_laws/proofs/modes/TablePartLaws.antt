-- What the changes of rows in tables leave of the open elements.
use Rattle.std.proofs.Common.{◌∙◌, ◌∷◌, ◌≡◌, Bool, List, [], ap, codes, refl, subst, sym, true, ℕ}
use Rattle.h5_names.specs.AttributeText.{AttributeText}
use Rattle.h5_names.specs.declared.qualified.QualName.{QualName}
use Rattle.h5_token.specs.TokenText.{TagText}
use Rattle.h5_interface.specs.SinkChoices.{SinkChoices}
use Rattle.h5_tables.specs.TagSets.{cell_names, is_one_of}
use Rattle.h5_tables.specs.declared.modes.InsertionMode.{InsertionMode}
use Rattle.h5_builder_spec.specs.Changes.{insert_and_pop_element, insert_and_pop_form, insert_element, pop, pop_until_current, pop_until_named}
use Rattle.h5_builder_spec.specs.Rows.{PopUntilCurrent}
use Rattle.h5_builder_spec.specs.Sound.{Sound, situation_of}
use Rattle.h5_builder_spec.specs.World.{World, names_of}
use Rattle.h5_builder_spec.specs.inner.NamesFit.{NamesFit}
use Rattle.h5_builder_spec.specs.reset.Roles.{CellRole, SectionRole, is_cell_role, is_section, role_of_local}
use Rattle.h5_builder_spec.specs.formatting.Formatting.{clear_active_formatting_to_marker, insert_marker}
use Rattle.h5_builder_spec.specs.formatting.FormattingNames.{html_name}
use Rattle.h5_builder_spec.specs.modes.Tables.{table_section_names}
use Rattle.h5_builder_spec.specs.stack.Scope.{down_names, later_names}
use Rattle.h5_builder_spec.proofs.adoption.AdoptionForest.{kinds_refl}
use Rattle.h5_builder_spec.proofs.changes.ListsLaws.{IsSteady, steady_changes}
use Rattle.h5_builder_spec.proofs.changes.NameLaws.{names-insert, names-insert_and_pop, names-until_current}
use Rattle.h5_builder_spec.proofs.changes.PopLaws.{names-pop}
use Rattle.h5_builder_spec.proofs.changes.SituationLaws.{KeepsSituation, situation_insert, situation_leaf, situation_pop, situation_then, situation_tree}
use Rattle.h5_builder_spec.proofs.fitting.TableModeLaws.{cell_only, section_only}
use Rattle.h5_builder_spec.proofs.roles.RoleSetLaws.{all_pass}
use Rattle.h5_builder_spec.proofs.rows.KeptLaws.{FitsAs, as_before, fits_at}

-- NAMES

pub section_local : (l : List ℕ) → is_one_of table_section_names l ≡ true → role_of_local l ≡ SectionRole
unfolding role_of_local table_section_names
section_local l h = section_only (role_of_local l) (all_pass is_section table_section_names l (refl, (refl, (refl, tt))) h)

pub cell_local : (l : List ℕ) → is_one_of cell_names l ≡ true → role_of_local l ≡ CellRole
unfolding role_of_local cell_names
cell_local l h = cell_only (role_of_local l) (all_pass is_cell_role cell_names l (refl, (refl, tt)) h)

-- CHANGES

-- clearing the list of active formatting elements, or cutting the stack, leaves the situation
pub fits_cleared : (m : InsertionMode) (w : World) → FitsAs m w → FitsAs m (clear_active_formatting_to_marker w)
unfolding clear_active_formatting_to_marker names_of
fits_cleared m w h = h

pub fits_cut_at : (m : InsertionMode) (local : List ℕ) (w : World) → NamesFit (situation_of w) m (names_of (pop_until_named local w)) → FitsAs m (pop_until_named local w)
unfolding pop_until_named
fits_cut_at m local w h = h

pub marker_situation : (w : World) → KeepsSituation w (insert_marker w)
unfolding insert_marker
marker_situation w = situation_tree w (insert_marker w) refl (kinds_refl w.forest)

pub marker_names : (w : World) → names_of (insert_marker w) ≡ names_of w
unfolding insert_marker names_of
marker_names w = refl

pub down_situation : (test : QualName → Bool) (w : World) → KeepsSituation w (pop_until_current test w)
unfolding pop_until_current
down_situation test w = situation_tree w (pop_until_current test w) refl (kinds_refl w.forest)

pub form_situation : (choices : SinkChoices) (attrs : List AttributeText) (duplicates : Bool) (w : World) → Sound w → KeepsSituation w (insert_and_pop_form choices attrs duplicates w)
unfolding insert_and_pop_form insert_and_pop_element
form_situation choices attrs duplicates w k =
    let s = situation_leaf choices w (codes "form") attrs duplicates k in
    record { kinds = s.kinds; modes = refl; saved = refl; context = refl; head = λ h. h; ok = λ h. h }

module _ (choices : SinkChoices) (w : World) (steady : IsSteady w) where
  abbrev sound : Sound w
  sound = steady.sound

  -- an element is pushed in a world whose situation is the same
  pub pushed : (v : World) (k : InsertionMode) (ns : List QualName) (local : List ℕ) (attrs : List AttributeText) (duplicates : Bool) → IsSteady v → KeepsSituation w v → names_of v ≡ ns
      → NamesFit (situation_of w) k (html_name local ∷ ns) → FitsAs k (insert_element choices local attrs duplicates v)
  pushed v k ns local attrs duplicates kept s e f =
      let u = insert_element choices local attrs duplicates v in
      fits_at k w u steady.sound (situation_then w v u s (situation_insert choices v local attrs duplicates kept.sound))
      (subst (NamesFit (situation_of w) k) (sym (names-insert choices local attrs duplicates v kept.sound ∙ ap (λ l. html_name local ∷ l) e)) f)

  -- the stack is cleared back to a context, and a part of a table is put
  pub put : (test : QualName → Bool) (k : InsertionMode) (local : List ℕ) (attrs : List AttributeText) (duplicates : Bool) → NamesFit (situation_of w) k (html_name local ∷ down_names test (names_of w))
      → FitsAs k (insert_element choices local attrs duplicates (pop_until_current test w))
  put test k local attrs duplicates f =
      pushed (pop_until_current test w) k (down_names test (names_of w)) local attrs duplicates (steady_changes choices (PopUntilCurrent test ∷ []) w (tt, tt) steady) (down_situation test w) (names-until_current test w) f

  -- it is cleared back, and the current node is popped then
  pub left_at : (test : QualName → Bool) (k : InsertionMode) → NamesFit (situation_of w) k (later_names (down_names test (names_of w))) → FitsAs k (pop choices (pop_until_current test w))
  left_at test k f =
      let v = pop_until_current test w in
      fits_at k w (pop choices v) steady.sound (situation_then w v (pop choices v) (down_situation test w) (situation_pop choices v))
      (subst (NamesFit (situation_of w) k) (sym (names-pop choices v ∙ ap later_names (names-until_current test w))) f)

  -- an element is put and popped at once
  pub leaf_fits : (m : InsertionMode) (tag : TagText) → FitsAs m w → FitsAs m (insert_and_pop_element choices tag.name tag.attrs tag.had_duplicate_attributes w)
  leaf_fits m tag =
      as_before m w (insert_and_pop_element choices tag.name tag.attrs tag.had_duplicate_attributes w) steady.sound (situation_leaf choices w tag.name tag.attrs tag.had_duplicate_attributes steady.sound)
      (names-insert_and_pop choices tag.name tag.attrs tag.had_duplicate_attributes w steady.sound)
