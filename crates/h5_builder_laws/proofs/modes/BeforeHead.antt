-- HTML standard, section 13.2.6.4.3, the "before head" insertion mode: each of its rows is lawful.
use Rattle.std.proofs.Common.{◌∙◌, ◌∷◌, ◌≡◌, Bool, List, [], codes, false, refl, subst, sym, true}
use Rattle.h5_names.specs.AttributeText.{AttributeText}
use Rattle.h5_token.specs.TokenText.{TagText}
use Rattle.h5_token.specs.declared.tag.TagKind.{TagKind}
use Rattle.h5_token.specs.declared.tag.TagKind.TheVariants.{EndTag, StartTag}
use Rattle.h5_interface.specs.SinkChoices.{SinkChoices}
use Rattle.h5_tables.specs.TurnText.{CommentTurn, TagTurn, TextTurn, TurnText}
use Rattle.h5_tables.specs.declared.modes.InsertionMode.TheVariants.{BeforeHead, InHead}
use Rattle.h5_tables.specs.declared.modes.SplitStatus.TheVariants.{Whitespace}
use Rattle.h5_builder_spec.specs.ByName.{by_kind, by_name, ignored_tag, of_tag}
use Rattle.h5_builder_spec.specs.Changes.{insert_element, insert_head}
use Rattle.h5_builder_spec.specs.Rows.{Again, InsertHead, row}
use Rattle.h5_builder_spec.specs.Sound.{Sound, situation_of}
use Rattle.h5_builder_spec.specs.World.{World, names_of}
use Rattle.h5_builder_spec.specs.inner.NamesFit.{NamesFit}
use Rattle.h5_builder_spec.specs.reset.Roles.{HeadRole, role_of_local}
use Rattle.h5_builder_spec.specs.formatting.FormattingNames.{html_name}
use Rattle.h5_builder_spec.specs.reset.SituationChanges.{with_head}
use Rattle.h5_builder_spec.specs.modes.BeforeHead.{before_head, before_head_else, before_head_end, before_head_start, before_head_start_head, before_head_tag}
use Rattle.h5_builder_spec.proofs.changes.NameLaws.{names-insert_head}
use Rattle.h5_builder_spec.proofs.changes.SituationLaws.{situation_head, situation_later}
use Rattle.h5_builder_spec.proofs.fitting.NamesFitLaws.{names_head_pushed}
use Rattle.h5_builder_spec.proofs.fitting.SituationRoleLaws.{names_later}
use Rattle.h5_builder_spec.proofs.roles.RoleLaws.{role_made}
use Rattle.h5_builder_spec.proofs.rows.ByNameLaws.{◌&◌, holds_by_name}
use Rattle.h5_builder_spec.proofs.rows.KeptLaws.{FitsAs}
use Rattle.h5_builder_laws.proofs.LawfulRow.{IsLawfulFor, IsLawfulRow, IsLawfulTag, lawful_ignored, lawful_nothing, lawful_row}
use Rattle.h5_builder_laws.proofs.modes.SharedRows.{comment_lawful, start_html_lawful}
use Rattle.h5_builder_laws.proofs.turns.Ranks.{TurnKind}
use Rattle.h5_builder_laws.proofs.turns.Ranks as edges

module _ (choices : SinkChoices) (w : World) (sound : Sound w) where
  -- the head is pushed, and known
  head_pushed : (attrs : List AttributeText) (duplicates : Bool) → FitsAs BeforeHead w → FitsAs InHead (insert_head choices attrs duplicates w)
  unfolding insert_head insert_element role_of_local
  head_pushed attrs duplicates h =
      let v = insert_head choices attrs duplicates w in
      let l = situation_later w v sound (situation_head choices w attrs duplicates sound) in
      names_later (with_head (situation_of w)) (situation_of v) (record { modes = l.modes; saved = l.saved; context = l.context; head = λ e. refl; ok = l.ok }) InHead (names_of v)
      (subst (NamesFit (with_head (situation_of w)) InHead) (sym (names-insert_head choices attrs duplicates w sound))
      (names_head_pushed (situation_of w) (html_name (codes "head")) (names_of w) (role_made (codes "head") ∙ is_head) h))
    where
      is_head : role_of_local (codes "head") ≡ HeadRole
      is_head = refl

else_lawful : {c : TurnKind} {starts : Bool} {given : Type 0} (w : World) → IsLawfulRow BeforeHead c starts given w (row (InsertHead [] false ∷ []) (Again InHead))
else_lawful {c = c} w = lawful_row _ (tt, tt) (λ choices s. head_pushed choices w s.sound [] false) (tt, (refl, tt)) tt (edges.before_head c)

tag_lawful : (k : TagKind) (tag : TagText) (w : World) → IsLawfulTag k tag BeforeHead w (by_kind k (by_name before_head_start (of_tag before_head_else) tag w) (by_name before_head_end ignored_tag tag w))
unfolding before_head_start before_head_end names_of
tag_lawful StartTag tag w = holds_by_name (IsLawfulTag StartTag tag BeforeHead w) before_head_start (of_tag before_head_else) tag w
    (
    (λ p. start_html_lawful BeforeHead w tag)
    & (λ p. lawful_row (before_head_start_head tag w) (tt, (tt, tt)) (λ choices s h. head_pushed choices w s.sound tag.attrs tag.had_duplicate_attributes h) (tt, (refl, tt)) tt tt)
    & tt
    ) (λ n. else_lawful w)
tag_lawful EndTag tag w = holds_by_name (IsLawfulTag EndTag tag BeforeHead w) before_head_end ignored_tag tag w ((λ p. else_lawful w) & tt) (λ n. lawful_ignored)

pub lawful_before_head : (t : TurnText) (w : World) → IsLawfulFor t BeforeHead w (before_head t w)
unfolding before_head_tag
lawful_before_head (TagTurn tag) w = tag_lawful tag.kind tag w
lawful_before_head (CommentTurn x) w = comment_lawful BeforeHead w x
lawful_before_head (TextTurn Whitespace x) w = lawful_nothing true
lawful_before_head t w = else_lawful w
