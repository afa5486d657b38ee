-- HTML standard, section 13.2.6.4.5, the "in head noscript" insertion mode: each of its rows is lawful.
use Rattle.std.proofs.Common.{◌∙◌, ◌∷◌, ◌≡◌, Bool, List, [], false, refl, subst, sym, true, ℕ}
use Rattle.h5_names.specs.declared.known_name.KnownName.TheVariants.{Template}
use Rattle.h5_token.specs.TokenText.{TagText}
use Rattle.h5_token.specs.declared.tag.TagKind.{TagKind}
use Rattle.h5_token.specs.declared.tag.TagKind.TheVariants.{EndTag, StartTag}
use Rattle.h5_interface.specs.SinkChoices.{SinkChoices}
use Rattle.h5_tables.specs.TagSets.{is_one_of}
use Rattle.h5_tables.specs.TurnText.{CommentTurn, TagTurn, TextTurn, TurnText}
use Rattle.h5_tables.specs.declared.modes.InsertionMode.TheVariants.{InHead, InHeadNoscript}
use Rattle.h5_tables.specs.declared.modes.SplitStatus.TheVariants.{Whitespace}
use Rattle.h5_builder_spec.specs.ByName.{by_kind, by_name, ignored_tag, named, of_tag}
use Rattle.h5_builder_spec.specs.Changes.{pop}
use Rattle.h5_builder_spec.specs.Rows.{Again, Pop, errs}
use Rattle.h5_builder_spec.specs.Sound.{Sound, situation_of}
use Rattle.h5_builder_spec.specs.World.{World, names_of}
use Rattle.h5_builder_spec.specs.inner.Fits.{takes_template}
use Rattle.h5_builder_spec.specs.inner.NamesFit.{NamesFit}
use Rattle.h5_builder_spec.specs.modes.InHeadNoscript.{in_head_noscript, in_head_noscript_else, in_head_noscript_end, in_head_noscript_end_noscript, in_head_noscript_start, in_head_noscript_tag, noscript_content_names}
use Rattle.h5_builder_spec.specs.modes.Shared.{head_start_names}
use Rattle.h5_builder_spec.proofs.changes.PopLaws.{names-pop}
use Rattle.h5_builder_spec.proofs.changes.SituationLaws.{situation_pop}
use Rattle.h5_builder_spec.proofs.fitting.NamesFitLaws.{names_noscript_popped}
use Rattle.h5_builder_spec.proofs.modes.InHead.{head_content}
use Rattle.h5_builder_spec.proofs.rows.ByNameLaws.{◌&◌, holds_by_name, of_named, of_one}
use Rattle.h5_builder_spec.proofs.rows.KeptLaws.{FitsAs, fits_at}
use Rattle.h5_builder_laws.proofs.LawfulRow.{IsLawfulFor, IsLawfulRow, IsLawfulTag, lawful_ignored, lawful_row}
use Rattle.h5_builder_laws.proofs.modes.SharedRows.{comment_lawful, head_row_lawful, start_html_lawful, text_row_lawful}
use Rattle.h5_builder_laws.proofs.turns.Ranks.{TurnKind}
use Rattle.h5_builder_laws.proofs.turns.Ranks as edges

-- each name that uses the rules of the head in a `noscript` goes so elsewhere, too
noscript_content : (l : List ℕ) → is_one_of noscript_content_names l ≡ true → is_one_of head_start_names l ≡ true
unfolding noscript_content_names head_start_names
noscript_content l h = of_one (λ n. is_one_of head_start_names n ≡ true) noscript_content_names l (refl, (refl, (refl, (refl, (refl, (refl, tt)))))) h

-- and none is a template
noscript_apart : (l : List ℕ) → is_one_of noscript_content_names l ≡ true → named Template l ≡ true → takes_template InHeadNoscript ≡ true
unfolding noscript_content_names
noscript_apart l h p = absurd (let out = of_named (λ n. is_one_of noscript_content_names n ≡ false) Template l refl p in let clash = sym h ∙ out in cc)

module _ (choices : SinkChoices) (w : World) (sound : Sound w) where
  noscript_popped : FitsAs InHeadNoscript w → FitsAs InHead (pop choices w)
  noscript_popped h =
      fits_at InHead w (pop choices w) sound (situation_pop choices w)
      (subst (NamesFit (situation_of w) InHead) (sym (names-pop choices w)) (names_noscript_popped (situation_of w) (names_of w) h))

else_lawful : {c : TurnKind} {starts : Bool} {given : Type 0} (w : World) → IsLawfulRow InHeadNoscript c starts given w (errs (Pop ∷ []) (Again InHead))
else_lawful {c = c} w = lawful_row _ (tt, tt) (λ choices s. noscript_popped choices w s.sound) (tt, (refl, tt)) tt (edges.in_head_noscript c)

tag_lawful : (k : TagKind) (tag : TagText) (w : World) → IsLawfulTag k tag InHeadNoscript w (by_kind k (by_name in_head_noscript_start (of_tag in_head_noscript_else) tag w) (by_name in_head_noscript_end ignored_tag tag w))
unfolding in_head_noscript_start in_head_noscript_end names_of
tag_lawful StartTag tag w = holds_by_name (IsLawfulTag StartTag tag InHeadNoscript w) in_head_noscript_start (of_tag in_head_noscript_else) tag w (
    (λ p. start_html_lawful InHeadNoscript w tag)
    & (λ p. head_row_lawful InHeadNoscript w _ (head_content InHeadNoscript refl tag w (noscript_content tag.name p) (λ q. noscript_apart tag.name p q)))
    & (λ p. lawful_ignored)
    & tt
    )
    (λ n. else_lawful w)
tag_lawful EndTag tag w = holds_by_name (IsLawfulTag EndTag tag InHeadNoscript w) in_head_noscript_end ignored_tag tag w
    (
    (λ p. lawful_row (in_head_noscript_end_noscript tag w) (tt, (tt, tt)) (λ choices s. noscript_popped choices w s.sound) (tt, (refl, tt)) tt tt)
    & (λ p. else_lawful w)
    & tt
    ) (λ n. lawful_ignored)

pub lawful_in_head_noscript : (t : TurnText) (w : World) → IsLawfulFor t InHeadNoscript w (in_head_noscript t w)
unfolding in_head_noscript_tag
lawful_in_head_noscript (TagTurn tag) w = tag_lawful tag.kind tag w
lawful_in_head_noscript (CommentTurn x) w = comment_lawful InHeadNoscript w x
lawful_in_head_noscript (TextTurn Whitespace x) w = text_row_lawful InHeadNoscript w Whitespace x
lawful_in_head_noscript t w = else_lawful w
