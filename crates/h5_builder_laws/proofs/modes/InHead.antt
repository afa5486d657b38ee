-- HTML standard, section 13.2.6.4.4, the "in head" insertion mode: each of its rows is lawful.
use Rattle.std.proofs.Common.{Bool, [], codes, refl, subst, sym, true, ◌∷◌, ◌≡◌}
use Rattle.h5_names.specs.declared.known_name.KnownName.TheVariants.{Noscript}
use Rattle.h5_token.specs.TokenText.{TagText}
use Rattle.h5_token.specs.declared.states.RawKind.TheVariants.{Rawtext}
use Rattle.h5_token.specs.declared.tag.TagKind.TheVariants.{EndTag, StartTag}
use Rattle.h5_token.specs.declared.tag.TagKind.{TagKind}
use Rattle.h5_interface.specs.SinkChoices.{SinkChoices}
use Rattle.h5_tables.specs.TagSets.{is_html_named}
use Rattle.h5_tables.specs.TurnText.{CommentTurn, TagTurn, TextTurn, TurnText}
use Rattle.h5_tables.specs.declared.modes.InsertionMode.TheVariants.{AfterHead, InHead, InHeadNoscript}
use Rattle.h5_tables.specs.declared.modes.SplitStatus.TheVariants.{Whitespace}
use Rattle.h5_builder_spec.specs.ByName.{by_kind, by_name, ignored_tag, named}
use Rattle.h5_builder_spec.specs.Changes.{insert_element, pop}
use Rattle.h5_builder_spec.specs.Rows.{Again, Pop, row}
use Rattle.h5_builder_spec.specs.Sound.{Sound, situation_of}
use Rattle.h5_builder_spec.specs.World.{World, names_of}
use Rattle.h5_builder_spec.specs.inner.NamesFit.{NamesFit}
use Rattle.h5_builder_spec.specs.formatting.FormattingNames.{html_name}
use Rattle.h5_builder_spec.specs.modes.InHead.{in_head, in_head_end, in_head_end_head, in_head_start_noscript, in_head_start_tag, in_head_tag}
use Rattle.h5_builder_spec.proofs.changes.NameLaws.{names-insert}
use Rattle.h5_builder_spec.proofs.changes.PopLaws.{names-pop}
use Rattle.h5_builder_spec.proofs.changes.SituationLaws.{situation_insert, situation_pop}
use Rattle.h5_builder_spec.proofs.fitting.NamesFitLaws.{names_head_popped, names_noscript_pushed}
use Rattle.h5_builder_spec.proofs.modes.InHead.{content_row, head_start_by, noscript_plain, raw_row}
use Rattle.h5_builder_spec.proofs.modes.TemplateRowLaws.{none_in_head}
use Rattle.h5_builder_spec.proofs.roles.RoleLaws.{made_named}
use Rattle.h5_builder_spec.proofs.rows.ByNameLaws.{◌&◌, holds_by_name, of_named}
use Rattle.h5_builder_spec.proofs.rows.KeptLaws.{FitsAs, fits_at}
use Rattle.h5_builder_laws.proofs.LawfulRow.{IsLawfulFor, IsLawfulRow, IsLawfulTag, lawful_choose, lawful_ignored, lawful_row}
use Rattle.h5_builder_laws.proofs.modes.SharedRows.{comment_lawful, head_row_lawful, no_template_lawful, start_html_lawful, text_row_lawful}
use Rattle.h5_builder_laws.proofs.turns.Ranks.{TurnKind}
use Rattle.h5_builder_laws.proofs.turns.Ranks as edges

module _ (choices : SinkChoices) (w : World) (sound : Sound w) where
  -- the head is popped
  head_popped : FitsAs InHead w → FitsAs AfterHead (pop choices w)
  head_popped h =
      fits_at AfterHead w (pop choices w) sound (situation_pop choices w)
      (subst (NamesFit (situation_of w) AfterHead) (sym (names-pop choices w)) (names_head_popped (situation_of w) (names_of w) h))

  -- a `noscript` is pushed
  noscript_pushed : (tag : TagText) → named Noscript tag.name ≡ true → FitsAs InHead w → FitsAs InHeadNoscript (insert_element choices tag.name tag.attrs tag.had_duplicate_attributes w)
  noscript_pushed tag p h =
      fits_at InHeadNoscript w (insert_element choices tag.name tag.attrs tag.had_duplicate_attributes w) sound (situation_insert choices w tag.name tag.attrs tag.had_duplicate_attributes sound)
      (subst (NamesFit (situation_of w) InHeadNoscript) (sym (names-insert choices tag.name tag.attrs tag.had_duplicate_attributes w sound))
      (names_noscript_pushed (situation_of w) (html_name tag.name) (names_of w) is_noscript h))
    where
      is_noscript : is_html_named (codes "noscript") (html_name tag.name) ≡ true
      is_noscript = of_named (λ n. is_html_named (codes "noscript") (html_name n) ≡ true) Noscript tag.name (made_named (codes "noscript")) p

else_lawful : {c : TurnKind} {starts : Bool} {given : Type 0} (w : World) → IsLawfulRow InHead c starts given w (row (Pop ∷ []) (Again AfterHead))
else_lawful {c = c} w = lawful_row _ (tt, tt) (λ choices s. head_popped choices w s.sound) (tt, (refl, tt)) tt (edges.in_head c)

-- a `noscript`, whose text is raw where scripts run
noscript_lawful : (tag : TagText) (w : World) → named Noscript tag.name ≡ true → IsLawfulTag StartTag tag InHead w (in_head_start_noscript tag w)
unfolding in_head_start_noscript names_of
noscript_lawful tag w p = lawful_choose w.options.scripting_enabled _ _
    (λ e. head_row_lawful InHead w _ (raw_row InHead refl tag w Rawtext (noscript_plain tag.name p)))
    (λ e. lawful_row _ (tt, (tt, tt)) (λ choices s. noscript_pushed choices w s.sound tag p) (tt, (refl, tt)) tt tt)

start_lawful : (tag : TagText) (w : World) → IsLawfulTag StartTag tag InHead w (in_head_start_tag tag w)
start_lawful tag w = head_start_by (IsLawfulTag StartTag tag InHead w) tag w (λ p. start_html_lawful InHead w tag) (λ r x. head_row_lawful InHead w r (content_row InHead refl tag w (λ p. refl) r x)) (λ p. noscript_lawful tag w p)
    (λ p. lawful_ignored) (λ n. else_lawful w)

tag_lawful : (k : TagKind) (tag : TagText) (w : World) → IsLawfulTag k tag InHead w (by_kind k (in_head_start_tag tag w) (by_name in_head_end ignored_tag tag w))
unfolding in_head_end names_of
tag_lawful StartTag tag w = start_lawful tag w
tag_lawful EndTag tag w = holds_by_name (IsLawfulTag EndTag tag InHead w) in_head_end ignored_tag tag w
    (
    (λ p. lawful_row (in_head_end_head tag w) (tt, (tt, tt)) (λ choices s. head_popped choices w s.sound) (tt, (refl, tt)) tt tt)
    & (λ p. else_lawful w)
    & (λ p. no_template_lawful InHead w tag (none_in_head w))
    & tt
    ) (λ n. lawful_ignored)

pub lawful_in_head : (t : TurnText) (w : World) → IsLawfulFor t InHead w (in_head t w)
unfolding in_head_tag
lawful_in_head (TagTurn tag) w = tag_lawful tag.kind tag w
lawful_in_head (CommentTurn x) w = comment_lawful InHead w x
lawful_in_head (TextTurn Whitespace x) w = text_row_lawful InHead w Whitespace x
lawful_in_head t w = else_lawful w
