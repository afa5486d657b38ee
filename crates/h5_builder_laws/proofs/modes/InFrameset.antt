-- HTML standard, section 13.2.6.4.18, the "in frameset" insertion mode: each of its rows is lawful.
use Rattle.std.proofs.Common.{◌&&◌, ◌∙◌, ◌∷◌, ◌≡◌, List, [], arith, false, is_some, not, refl, subst, sym, true, ℕ}
use Rattle.h5_names.specs.declared.known_name.KnownName.TheVariants.{Frameset, Noframes, Template}
use Rattle.h5_names.specs.declared.qualified.QualName.{QualName}
use Rattle.h5_token.specs.TokenText.{TagText}
use Rattle.h5_token.specs.declared.tag.TagKind.{TagKind}
use Rattle.h5_token.specs.declared.tag.TagKind.TheVariants.{EndTag, StartTag}
use Rattle.h5_interface.specs.SinkChoices.{SinkChoices}
use Rattle.h5_tables.specs.TagSets.{is_one_of}
use Rattle.h5_tables.specs.TurnText.{CommentTurn, EofTurn, TagTurn, TextTurn, TurnText}
use Rattle.h5_tables.specs.declared.modes.InsertionMode.{InsertionMode}
use Rattle.h5_tables.specs.declared.modes.InsertionMode.TheVariants.{AfterFrameset, InFrameset}
use Rattle.h5_tables.specs.declared.modes.SplitStatus.TheVariants.{Whitespace}
use Rattle.h5_builder_spec.specs.ByName.{by_kind, by_name, ignored_tag, named}
use Rattle.h5_builder_spec.specs.Changes.{insert_element, pop}
use Rattle.h5_builder_spec.specs.Rows.{IsDone, Pop, SetMode, row}
use Rattle.h5_builder_spec.specs.Sound.{Sound, situation_of}
use Rattle.h5_builder_spec.specs.World.{World, names_of}
use Rattle.h5_builder_spec.specs.reset.Situation.{Situation}
use Rattle.h5_builder_spec.specs.inner.Fits.{may_be_left}
use Rattle.h5_builder_spec.specs.inner.NamesFit.{NamesFit}
use Rattle.h5_builder_spec.specs.reset.Roles.{FramesetRole, role_of}
use Rattle.h5_builder_spec.specs.formatting.FormattingNames.{html_name}
use Rattle.h5_builder_spec.specs.modes.InFrameset.{in_frameset, in_frameset_end, in_frameset_end_frameset, in_frameset_start, in_frameset_start_frame, in_frameset_start_frameset, in_frameset_tag, is_in_frameset, is_root_alone}
use Rattle.h5_builder_spec.specs.modes.InHead.{in_head_start_tag}
use Rattle.h5_builder_spec.specs.modes.Shared.{head_start_names}
use Rattle.h5_builder_spec.specs.stack.Scope.{later_names}
use Rattle.h5_builder_spec.proofs.changes.NameLaws.{names-insert}
use Rattle.h5_builder_spec.proofs.changes.PopLaws.{names-pop}
use Rattle.h5_builder_spec.proofs.changes.SituationLaws.{situation_insert, situation_pop}
use Rattle.h5_builder_spec.proofs.fitting.NamesTableLaws.{names_frameset_left, names_frameset_popped, names_frameset_pushed}
use Rattle.h5_builder_spec.proofs.modes.InHead.{head_content}
use Rattle.h5_builder_spec.proofs.roles.RoleLaws.{role_made}
use Rattle.h5_builder_spec.proofs.rows.ByNameLaws.{◌&◌, holds_by_name, of_named}
use Rattle.h5_builder_spec.proofs.rows.KeptLaws.{FitsAs, Kept, fits_at}
use Rattle.h5_builder_laws.proofs.LawfulRow.{IsLawfulFor, IsLawfulTag, lawful_choose, lawful_if_not, lawful_ignored, lawful_nothing, lawful_row}
use Rattle.h5_builder_spec.proofs.modes.FramesetRowLaws.{frameset_role}
use Rattle.h5_builder_laws.proofs.modes.SharedRows.{comment_lawful, head_row_lawful, start_html_lawful, text_row_lawful}
use Rattle.h5_builder_laws.proofs.modes.TablePartLaws.{leaf_fits}

-- `noframes` is handled by the rules of "in head", and isn't a template
noframes_content : (l : List ℕ) → named Noframes l ≡ true → is_one_of head_start_names l ≡ true
unfolding head_start_names
noframes_content l h = of_named (λ n. is_one_of head_start_names n ≡ true) Noframes l refl h

noframes_apart : (A : Type 0) (l : List ℕ) → named Noframes l ≡ true → named Template l ≡ true → A
noframes_apart A l h p = absurd (let out = of_named (λ n. named Template n ≡ false) Noframes l refl h in let clash = sym p ∙ out in cc)

-- a start tag "noframes"
pub noframes_lawful : (m : InsertionMode) (w : World) → may_be_left m ≡ true → (tag : TagText) → named Noframes tag.name ≡ true → IsLawfulTag StartTag tag m w (in_head_start_tag tag w)
noframes_lawful m w left tag p = head_row_lawful m w _ (head_content m left tag w (noframes_content tag.name p) (λ q. noframes_apart _ tag.name p q))

nonempty_pushed : (s : Situation) (n : QualName) (ns : List QualName) → role_of n ≡ FramesetRole → NamesFit s InFrameset ns → NamesFit s InFrameset (n ∷ ns)
nonempty_pushed s n [] e f = absurd (let h = f.fits.place.0 in omega (arith, h))
nonempty_pushed s n (x ∷ ns) e f = names_frameset_pushed s ns n x e f

more_popped : (s : Situation) (ns : List QualName) → is_root_alone ns ≡ false → NamesFit s InFrameset ns → NamesFit s InFrameset (later_names ns)
more_popped s [] e f = f
more_popped s (n ∷ []) e f = absurd (cc)
more_popped s (n ∷ x ∷ ns) e f = names_frameset_popped s ns n x f

module _ (choices : SinkChoices) (w : World) (sound : Sound w) where
  popped : is_root_alone (names_of w) ≡ false → FitsAs InFrameset w → FitsAs InFrameset (pop choices w)
  popped e h =
      fits_at InFrameset w (pop choices w) sound (situation_pop choices w)
      (subst (NamesFit (situation_of w) InFrameset) (sym (names-pop choices w)) (more_popped (situation_of w) (names_of w) e h))

  kept_frameset : (tag : TagText) → named Frameset tag.name ≡ true → Kept choices w InFrameset (in_frameset_start_frameset tag w)
  kept_frameset tag p h =
      fits_at InFrameset w (insert_element choices tag.name tag.attrs tag.had_duplicate_attributes w) sound (situation_insert choices w tag.name tag.attrs tag.had_duplicate_attributes sound)
      (subst (NamesFit (situation_of w) InFrameset) (sym (names-insert choices tag.name tag.attrs tag.had_duplicate_attributes w sound))
      (nonempty_pushed (situation_of w) (html_name tag.name) (names_of w) (role_made tag.name ∙ frameset_role tag.name p) h))

-- THE ROWS

end_frameset_lawful : (tag : TagText) (w : World) → IsLawfulTag EndTag tag InFrameset w (in_frameset_end_frameset tag w)
unfolding in_frameset_end_frameset names_of
end_frameset_lawful tag w = lawful_if_not (is_root_alone (names_of w)) _ (λ e. lawful_choose (not (is_some w.context) && not (is_in_frameset (names_of w))) _ _
    (λ f. lawful_row (row (Pop ∷ SetMode AfterFrameset ∷ []) IsDone) (tt, (tt, tt)) (λ choices s h. names_frameset_left (situation_of (pop choices w)) (names_of (pop choices w)) (popped choices w s.sound e h)) (tt, (refl, tt)) tt tt)
    (λ f. lawful_row (row (Pop ∷ []) IsDone) (tt, tt) (λ choices s. popped choices w s.sound e) (tt, tt) tt tt))

tag_lawful : (k : TagKind) (tag : TagText) (w : World) → IsLawfulTag k tag InFrameset w (by_kind k (by_name in_frameset_start ignored_tag tag w) (by_name in_frameset_end ignored_tag tag w))
unfolding in_frameset_start in_frameset_end
tag_lawful StartTag tag w = holds_by_name (IsLawfulTag StartTag tag InFrameset w) in_frameset_start ignored_tag tag w (
    (λ p. start_html_lawful InFrameset w tag)
    & (λ p. lawful_row (in_frameset_start_frameset tag w) (tt, tt) (λ choices s. kept_frameset choices w s.sound tag p) (tt, tt) tt tt)
    & (λ p. lawful_row (in_frameset_start_frame tag w) (tt, tt) (λ choices s. leaf_fits choices w s InFrameset tag) (tt, tt) tt tt)
    & (λ p. noframes_lawful InFrameset w refl tag p)
    & tt
    )
    (λ n. lawful_ignored)
tag_lawful EndTag tag w = holds_by_name (IsLawfulTag EndTag tag InFrameset w) in_frameset_end ignored_tag tag w ((λ p. end_frameset_lawful tag w) & tt) (λ n. lawful_ignored)

pub lawful_in_frameset : (t : TurnText) (w : World) → IsLawfulFor t InFrameset w (in_frameset t w)
unfolding in_frameset_tag
lawful_in_frameset (TagTurn tag) w = tag_lawful tag.kind tag w
lawful_in_frameset (CommentTurn x) w = comment_lawful InFrameset w x
lawful_in_frameset (TextTurn Whitespace x) w = text_row_lawful InFrameset w Whitespace x
lawful_in_frameset EofTurn w = lawful_nothing (is_root_alone (names_of w))
lawful_in_frameset t w = lawful_ignored
