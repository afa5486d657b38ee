-- HTML standard, section 13.2.6.4.21, the "after after frameset" insertion mode: each of its rows is lawful.
use Rattle.std.proofs.Common.{◌∷◌, ◌≡◌, ◌≢◌, List, [], arith, refl, subst, sym, true, ℕ}
use Rattle.h5_names.specs.declared.qualified.QualName.{QualName}
use Rattle.h5_token.specs.TokenText.{TagText}
use Rattle.h5_token.specs.declared.tag.TagKind.{TagKind}
use Rattle.h5_token.specs.declared.tag.TagKind.TheVariants.{EndTag, StartTag}
use Rattle.h5_interface.specs.SinkChoices.{SinkChoices}
use Rattle.h5_tables.specs.TurnText.{CommentTurn, EofTurn, TagTurn, TextTurn, TurnText}
use Rattle.h5_tables.specs.declared.modes.InsertionMode.TheVariants.{AfterAfterFrameset}
use Rattle.h5_tables.specs.declared.modes.SplitStatus.TheVariants.{Whitespace}
use Rattle.h5_builder_spec.specs.ByName.{by_kind, by_name, ignored_tag}
use Rattle.h5_builder_spec.specs.Changes.{append_text, set_frameset_ok_by_text}
use Rattle.h5_builder_spec.specs.Rows.{ignored}
use Rattle.h5_builder_spec.specs.Sound.{Sound, situation_of}
use Rattle.h5_builder_spec.specs.World.{World, names_of}
use Rattle.h5_builder_spec.specs.reset.Situation.{Situation}
use Rattle.h5_builder_spec.specs.inner.NamesFit.{NamesFit}
use Rattle.h5_builder_spec.specs.reset.Roles.{PlainRole, role_of}
use Rattle.h5_builder_spec.specs.formatting.Formatting.{insert_anew, insert_for, reconstruct_active_formatting_elements}
use Rattle.h5_builder_spec.specs.formatting.FormattingList.{ElementEntry, Entry, MarkerEntry, closed_front}
use Rattle.h5_builder_spec.specs.formatting.FormattingNames.{AllFormatting, html_name}
use Rattle.h5_builder_spec.specs.modes.AfterAfterFrameset.{after_after_frameset, after_after_frameset_tag}
use Rattle.h5_builder_spec.specs.modes.AfterFrameset.{after_frameset_start}
use Rattle.h5_builder_spec.specs.modes.Shared.{in_body_text}
use Rattle.h5_builder_spec.proofs.changes.FormattingLaws.{insert_for_rearranges, sound_anew, sound_reconstruct}
use Rattle.h5_builder_spec.proofs.changes.NameLaws.{names-append, names-insert}
use Rattle.h5_builder_spec.proofs.changes.SituationLaws.{situation_frameset, situation_text, situation_tree}
use Rattle.h5_builder_spec.proofs.changes.TreeLaws.{tree_insert_for}
use Rattle.h5_builder_spec.proofs.fitting.NamesTableLaws.{names_after_frameset_pushed}
use Rattle.h5_builder_spec.proofs.changes.ListsLaws.{steady_changes}
use Rattle.h5_builder_spec.proofs.modes.ReadyInLaws.{front_formatting}
use Rattle.h5_builder_spec.proofs.rows.KeptLaws.{FitsAs, Kept, as_before, fits_at}
use Rattle.h5_builder_laws.proofs.LawfulRow.{IsLawfulFor, IsLawfulTag, lawful_ignored, lawful_nothing}
use Rattle.h5_builder_laws.proofs.cuts.TableTextLaws.{formatting_role}
use Rattle.h5_builder_laws.proofs.modes.AfterFrameset.{after_start_lawful}
use Rattle.h5_builder_laws.proofs.modes.SharedRows.{comment_to_document_lawful}
use Rattle.h5_builder_laws.proofs.turns.RowEdges.{ByEdge}

after_pushed : (s : Situation) (n : QualName) (ns : List QualName) → role_of n ≡ PlainRole → NamesFit s AfterAfterFrameset ns → NamesFit s AfterAfterFrameset (n ∷ ns)
after_pushed s n [] e f = absurd (let h = f.fits.place in omega (arith, h))
after_pushed s n (x ∷ ns) e f = names_after_frameset_pushed s ns n x e f

-- a whitespace text may create new formatting elements
anew_fits : (choices : SinkChoices) (l : List Entry) (w : World) → AllFormatting l → Sound w → FitsAs AfterAfterFrameset w → FitsAs AfterAfterFrameset (insert_anew choices l w)
anew_fits choices [] w f k h = h
anew_fits choices (MarkerEntry ∷ l) w f k h = anew_fits choices l w f k h
anew_fits choices (ElementEntry n tag ∷ l) w f k h =
    let v = insert_anew choices l w in
    let u = insert_for choices tag v in
    let s : Sound v = sound_anew choices l w k in
    fits_at AfterAfterFrameset v u s (situation_tree v u (tree_insert_for choices tag v) (insert_for_rearranges choices tag v s).same_kind)
    (subst (NamesFit (situation_of v) AfterAfterFrameset) (sym (names-insert choices tag.name tag.attrs tag.had_duplicate_attributes v s))
    (after_pushed (situation_of v) (html_name tag.name) (names_of v) (formatting_role tag.name f.0) (anew_fits choices l w f.1 k h)))

module _ (choices : SinkChoices) (w : World) (sound : Sound w) where
  renewed_fits : FitsAs AfterAfterFrameset w → FitsAs AfterAfterFrameset (reconstruct_active_formatting_elements choices w)
  unfolding reconstruct_active_formatting_elements names_of
  renewed_fits h = anew_fits choices (closed_front w.stack w.formatting) w (front_formatting w.stack w.formatting sound.formatting) sound h

  kept_blank : (x : List ℕ) → x ≢ [] → Kept choices w AfterAfterFrameset (in_body_text x w)
  unfolding set_frameset_ok_by_text names_of
  kept_blank x some h =
      let v = reconstruct_active_formatting_elements choices w in
      let k : Sound v = sound_reconstruct choices w sound in
      let u = set_frameset_ok_by_text x v in
      let one : FitsAs AfterAfterFrameset u = as_before AfterAfterFrameset v u k (situation_frameset v x) refl (renewed_fits h) in
      as_before AfterAfterFrameset u (append_text x u) k (situation_text u x some k) (names-append x u some k) one

tag_lawful : (k : TagKind) (tag : TagText) (w : World) → IsLawfulTag k tag AfterAfterFrameset w (by_kind k (by_name after_frameset_start ignored_tag tag w) ignored)
tag_lawful StartTag tag w = after_start_lawful AfterAfterFrameset w refl tag
tag_lawful EndTag tag w = lawful_ignored

pub lawful_after_after_frameset : (t : TurnText) (w : World) → IsLawfulFor t AfterAfterFrameset w (after_after_frameset t w)
unfolding after_after_frameset_tag
lawful_after_after_frameset (TagTurn tag) w = tag_lawful tag.kind tag w
lawful_after_after_frameset (CommentTurn x) w = comment_to_document_lawful AfterAfterFrameset w x
lawful_after_after_frameset (TextTurn Whitespace x) w = record {
  steady = λ choices s same some h. steady_changes choices (in_body_text x w).changes w (tt, (tt, (some, tt))) s;
  fits = λ choices s same some. kept_blank choices w s.sound x some;
  told = λ n. (tt, tt);
  silent = λ n h. tt;
  leads = ByEdge tt;
}
lawful_after_after_frameset EofTurn w = lawful_nothing true
lawful_after_after_frameset t w = lawful_ignored
