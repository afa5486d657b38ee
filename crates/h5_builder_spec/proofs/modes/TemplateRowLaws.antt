-- What the rows of templates keep: after each the open elements fit the mode that it leaves.
use Rattle.std.proofs.Common.{Option, ap, codes, false, refl, subst, sym, true, ◌∙◌, ◌∷◌, ◌≡◌}
use Rattle.h5_token.specs.TokenText.{TagText}
use Rattle.h5_interface.specs.SinkChoices.{SinkChoices}
use Rattle.h5_tables.specs.TagSets.{is_html_named}
use Rattle.h5_tables.specs.declared.modes.InsertionMode.TheVariants.{AfterHead, InHead, InTemplate}
use Rattle.h5_tables.specs.declared.modes.InsertionMode.{InsertionMode}
use Rattle.h5_builder_spec.specs.Changes.{pop_until_named, set_frameset_not_ok, set_mode}
use Rattle.h5_builder_spec.specs.Sound.{Sound, situation_of}
use Rattle.h5_builder_spec.specs.World.{World, names_of}
use Rattle.h5_builder_spec.specs.reset.Situation.{Situation}
use Rattle.h5_builder_spec.specs.inner.Fits.{goes_by_body, is_template_mode, takes_template}
use Rattle.h5_builder_spec.specs.inner.NamesFit.{NamesFit}
use Rattle.h5_builder_spec.specs.reset.Reset.{reset_mode}
use Rattle.h5_builder_spec.specs.reset.ResetByRoles.{reset}
use Rattle.h5_builder_spec.specs.reset.Roles.{Role, TemplateRole, has_role, is_template, role_of_local, roles}
use Rattle.h5_builder_spec.specs.reset.SituationChanges.{without_template}
use Rattle.h5_builder_spec.specs.formatting.AdoptionAgency.{KeepsKinds}
use Rattle.h5_builder_spec.specs.formatting.Formatting.{clear_active_formatting_to_marker, insert_marker}
use Rattle.h5_builder_spec.specs.formatting.FormattingList.{MarkerEntry}
use Rattle.h5_builder_spec.specs.formatting.FormattingNames.{html_name}
use Rattle.h5_builder_spec.specs.insertion.Templates.{insert_template, pop_template_mode, push_template_mode}
use Rattle.h5_builder_spec.specs.modes.InHead.{in_head_start_template}
use Rattle.h5_builder_spec.specs.modes.InTemplate.{in_template_as}
use Rattle.h5_builder_spec.specs.stack.Closing.{generate_implied_end_thoroughly}
use Rattle.h5_builder_spec.specs.stack.Scope.{cut_names, has_template}
use Rattle.h5_builder_spec.proofs.adoption.AdoptionForest.{kinds_refl}
use Rattle.h5_builder_spec.proofs.changes.FormattingLaws.{all_listed}
use Rattle.h5_builder_spec.proofs.changes.NameLaws.{names-cut}
use Rattle.h5_builder_spec.proofs.changes.SituationLaws.{situation_later, situation_thorough}
use Rattle.h5_builder_spec.proofs.changes.TemplateLaws.{names-close_template, names-insert_template, situation_insert_template}
use Rattle.h5_builder_spec.proofs.changes.TreeLaws.{OnlyTree, tree_implied_thoroughly, tree_then}
use Rattle.h5_builder_spec.proofs.fitting.NamesTableLaws.{names_template_closed, names_template_mode, names_template_put}
use Rattle.h5_builder_spec.proofs.roles.RoleLaws.{role_made}
use Rattle.h5_builder_spec.proofs.roles.TestLaws.{has_template_test}
use Rattle.h5_builder_spec.proofs.rows.KeptLaws.{FitsAs, Kept, fits_at}

is_template_role : role_of_local (codes "template") ≡ TemplateRole
unfolding role_of_local
is_template_role = refl

-- changes of forest, stack and list alone, in which nodes stay what they are, leave what modes see
pub same_situation : (w v : World) → Sound w → OnlyTree w v → KeepsKinds w.forest v.forest → situation_of v ≡ situation_of w
same_situation w v k e kinds =
    ap situation_of e
    ∙ ap (λ (o : Option Role). let s : Situation = record (situation_of w) { context = o } in s) (situation_later w (record w { forest = v.forest }) k (record { kinds = kinds; modes = refl; saved = refl; context = refl; head = λ h. h; ok = λ h. h })).context

-- the newest template is closed by an end tag, and the mode is reset
abbrev pub ClosedByTag : SinkChoices → World → Type 0
ClosedByTag choices w = let x = pop_template_mode (clear_active_formatting_to_marker (pop_until_named (codes "template") (generate_implied_end_thoroughly choices w))) in FitsAs (reset_mode x) (set_mode (reset_mode x) x)

module _ (choices : SinkChoices) (w : World) (sound : Sound w) (m : InsertionMode) where
  -- a template is put, with its mode, and a marker in the list
  pub template_opened : (tag : TagText) → takes_template m ≡ true → FitsAs m w
      → FitsAs InTemplate (insert_template choices tag.attrs tag.had_duplicate_attributes (push_template_mode InTemplate (set_mode InTemplate (set_frameset_not_ok (insert_marker w)))))
  unfolding insert_marker names_of
  template_opened tag takes h =
      let u : World = push_template_mode InTemplate (set_mode InTemplate (set_frameset_not_ok (insert_marker w))) in
      let v = insert_template choices tag.attrs tag.had_duplicate_attributes u in
      let k : Sound u = all_listed w.forest w.stack w.formatting (MarkerEntry ∷ w.formatting) sound sound.listed sound.formatting in
      fits_at InTemplate u v k (situation_insert_template choices tag.attrs tag.had_duplicate_attributes u k)
      (subst (NamesFit (situation_of u) InTemplate) (sym (names-insert_template choices tag.attrs tag.had_duplicate_attributes u k))
      (names_template_put (situation_of w) (names_of w) m (html_name (codes "template")) takes (role_made (codes "template") ∙ is_template_role) h))

  pub kept_start_template : (tag : TagText) → takes_template m ≡ true → Kept choices w m (in_head_start_template tag w)
  kept_start_template tag takes h = template_opened tag takes h

  -- one is closed, and the mode is reset
  template_closed : (y : World) → goes_by_body m ≡ true → OnlyTree w y → KeepsKinds w.forest y.forest → names_of y ≡ cut_names (is_html_named (codes "template")) (names_of w) → has_template (names_of w) ≡ true
      → FitsAs m w → (let x = pop_template_mode (clear_active_formatting_to_marker y) in FitsAs (reset_mode x) x)
  unfolding reset_mode clear_active_formatting_to_marker names_of
  template_closed y goes tree kinds names has h =
      let x = pop_template_mode (clear_active_formatting_to_marker y) in
      let same : situation_of x ≡ without_template (situation_of w) = ap without_template (same_situation w y sound tree kinds) in
      subst (λ s. NamesFit s (reset s (roles (names_of x))) (names_of x)) (sym same)
      (subst (λ ns. NamesFit (without_template (situation_of w)) (reset (without_template (situation_of w)) (roles ns)) ns) (sym names)
      (names_template_closed (situation_of w) (names_of w) m goes has h))

  -- by an end tag
  pub closed_by_tag : goes_by_body m ≡ true → has_template (names_of w) ≡ true → FitsAs m w → ClosedByTag choices w
  unfolding pop_until_named names_of
  closed_by_tag goes has h =
      let v = generate_implied_end_thoroughly choices w in
      template_closed (pop_until_named (codes "template") v) goes (tree_then w v (pop_until_named (codes "template") v) (tree_implied_thoroughly choices w) refl) (situation_thorough choices w).kinds (names-close_template choices w) has h

  -- at the end of the file
  pub closed_by_eof : goes_by_body m ≡ true → has_template (names_of w) ≡ true → FitsAs m w
      → (let x = pop_template_mode (clear_active_formatting_to_marker (pop_until_named (codes "template") w)) in FitsAs (reset_mode (set_mode (reset_mode x) x)) (set_mode (reset_mode x) x))
  unfolding pop_until_named names_of reset_mode
  closed_by_eof goes has h = template_closed (pop_until_named (codes "template") w) goes refl (kinds_refl w.forest) (names-cut (codes "template") w) has h

-- none can be open in the head, and after it
pub none_in_head : (w : World) → FitsAs InHead w → has_template (names_of w) ≡ false
none_in_head w h = has_template_test (names_of w) ∙ ap (has_role is_template) h.fits.place.1

pub none_after_head : (w : World) → FitsAs AfterHead w → has_template (names_of w) ≡ false
none_after_head w h = has_template_test (names_of w) ∙ ap (has_role is_template) h.fits.place.1.0

-- its mode gives way to another
pub kept_template_mode : (choices : SinkChoices) (w : World) (tag : TagText) (m : InsertionMode) → is_template_mode m ≡ true → Kept choices w InTemplate (in_template_as m tag w)
unfolding names_of
kept_template_mode choices w tag m is h = names_template_mode (situation_of w) (names_of w) m is h
