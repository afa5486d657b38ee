-- A frameset after the head, and in place of the body: the open elements fit the mode that it leaves.
use Rattle.std.proofs.Common.{◌∙◌, ◌∷◌, ◌≡◌, List, ap, codes, refl, subst, sym, true, ℕ}
use Rattle.h5_names.specs.declared.known_name.KnownName.TheVariants.{Frameset}
use Rattle.h5_names.specs.declared.qualified.QualName.{QualName}
use Rattle.h5_token.specs.TokenText.{TagText}
use Rattle.h5_interface.specs.SinkChoices.{SinkChoices}
use Rattle.h5_tables.specs.TagSets.{is_html_named}
use Rattle.h5_tables.specs.declared.modes.InsertionMode.{InsertionMode}
use Rattle.h5_tables.specs.declared.modes.InsertionMode.TheVariants.{AfterHead, InFrameset}
use Rattle.h5_builder_spec.specs.ByName.{named}
use Rattle.h5_builder_spec.specs.Changes.{insert_element, remove_body}
use Rattle.h5_builder_spec.specs.Sound.{Sound, situation_of}
use Rattle.h5_builder_spec.specs.World.{World, names_of}
use Rattle.h5_builder_spec.specs.inner.Fits.{may_be_left}
use Rattle.h5_builder_spec.specs.inner.NamesFit.{NamesFit}
use Rattle.h5_builder_spec.specs.reset.Roles.{FramesetRole, HtmlRole, role_of, role_of_local}
use Rattle.h5_builder_spec.specs.formatting.FormattingNames.{html_name}
use Rattle.h5_builder_spec.specs.modes.AfterHead.{after_head_start_frameset}
use Rattle.h5_builder_spec.proofs.changes.FramesetLaws.{remove_body_situation, remove_body_stands, root_stays}
use Rattle.h5_builder_spec.proofs.changes.NameLaws.{names-insert}
use Rattle.h5_builder_spec.proofs.changes.SituationLaws.{situation_insert, situation_then}
use Rattle.h5_builder_spec.proofs.fitting.NamesFitLaws.{names_frameset_begun}
use Rattle.h5_builder_spec.proofs.fitting.NamesTableLaws.{names_frameset_put}
use Rattle.h5_builder_spec.proofs.fitting.OpenLaws.{left_after_root, names_root_open}
use Rattle.h5_builder_spec.proofs.roles.RoleLaws.{role_made, role_named}
use Rattle.h5_builder_spec.proofs.rows.ByNameLaws.{of_named}
use Rattle.h5_builder_spec.proofs.rows.KeptLaws.{FitsAs, Kept, fits_at}

pub frameset_role : (l : List ℕ) → named Frameset l ≡ true → role_of_local l ≡ FramesetRole
unfolding role_of_local
frameset_role l h = of_named (λ n. role_of_local n ≡ FramesetRole) Frameset l refl h

html_role : (n : QualName) → is_html_named (codes "html") n ≡ true → role_of n ≡ HtmlRole
unfolding role_of_local
html_role n h = role_named (codes "html") n h

module _ (choices : SinkChoices) (w : World) (sound : Sound w) where
  -- after the head
  pub kept_after_head_frameset : (tag : TagText) → named Frameset tag.name ≡ true → Kept choices w AfterHead (after_head_start_frameset tag w)
  unfolding names_of
  kept_after_head_frameset tag p h =
      fits_at InFrameset w (insert_element choices tag.name tag.attrs tag.had_duplicate_attributes w) sound (situation_insert choices w tag.name tag.attrs tag.had_duplicate_attributes sound)
      (subst (NamesFit (situation_of w) InFrameset) (sym (names-insert choices tag.name tag.attrs tag.had_duplicate_attributes w sound))
      (names_frameset_begun (situation_of w) (html_name tag.name) (names_of w) (role_made tag.name ∙ frameset_role tag.name p) h))

  -- in place of the body
  pub body_replaced : (m : InsertionMode) → may_be_left m ≡ true → (tag : TagText) → named Frameset tag.name ≡ true → w.frameset_ok ≡ true → FitsAs m w → FitsAs InFrameset (insert_element choices tag.name tag.attrs tag.had_duplicate_attributes (remove_body w))
  body_replaced m left tag p ok h =
      let u = remove_body w in
      let v = insert_element choices tag.name tag.attrs tag.had_duplicate_attributes u in
      let k : Sound u = remove_body_stands w sound in
      let stays = root_stays w sound (names_root_open (situation_of w) m (names_of w) (left_after_root m left) h) in
      fits_at InFrameset w v sound (situation_then w u v (remove_body_situation w sound) (situation_insert choices u tag.name tag.attrs tag.had_duplicate_attributes k))
      (subst (NamesFit (situation_of w) InFrameset) (sym (names-insert choices tag.name tag.attrs tag.had_duplicate_attributes u k ∙ ap (λ ns. html_name tag.name ∷ ns) stays.names))
      (names_frameset_put (situation_of w) (names_of w) (html_name tag.name) stays.root (role_made tag.name ∙ frameset_role tag.name p) (html_role stays.root stays.is_html) ok h.fits.known))
