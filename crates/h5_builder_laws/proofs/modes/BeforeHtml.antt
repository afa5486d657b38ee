-- HTML standard, section 13.2.6.4.2, the "before html" insertion mode: each of its rows is lawful.
use Rattle.std.proofs.Common.{◌∷◌, Bool, List, [], refl, subst, sym, true}
use Rattle.h5_names.specs.AttributeText.{AttributeText}
use Rattle.h5_token.specs.TokenText.{TagText}
use Rattle.h5_token.specs.declared.tag.TagKind.{TagKind}
use Rattle.h5_token.specs.declared.tag.TagKind.TheVariants.{EndTag, StartTag}
use Rattle.h5_interface.specs.SinkChoices.{SinkChoices}
use Rattle.h5_tables.specs.TurnText.{CommentTurn, TagTurn, TextTurn, TurnText}
use Rattle.h5_tables.specs.declared.modes.InsertionMode.TheVariants.{BeforeHead, BeforeHtml}
use Rattle.h5_tables.specs.declared.modes.SplitStatus.TheVariants.{Whitespace}
use Rattle.h5_builder_spec.specs.ByName.{by_kind, by_name, ignored_tag, of_tag}
use Rattle.h5_builder_spec.specs.Changes.{create_root}
use Rattle.h5_builder_spec.specs.Rows.{Again, CreateRoot, row}
use Rattle.h5_builder_spec.specs.Sound.{Sound, situation_of}
use Rattle.h5_builder_spec.specs.World.{World, names_of}
use Rattle.h5_builder_spec.specs.inner.NamesFit.{NamesFit}
use Rattle.h5_builder_spec.specs.modes.BeforeHtml.{before_html, before_html_else, before_html_end, before_html_start, before_html_start_html, before_html_tag}
use Rattle.h5_builder_spec.proofs.changes.NameLaws.{names-insert_root}
use Rattle.h5_builder_spec.proofs.changes.SituationLaws.{situation_root}
use Rattle.h5_builder_spec.proofs.fitting.NamesFitLaws.{names_root_pushed}
use Rattle.h5_builder_spec.proofs.rows.ByNameLaws.{◌&◌, holds_by_name}
use Rattle.h5_builder_spec.proofs.rows.KeptLaws.{FitsAs, fits_at}
use Rattle.h5_builder_laws.proofs.LawfulRow.{IsLawfulFor, IsLawfulRow, IsLawfulTag, lawful_ignored, lawful_nothing, lawful_row}
use Rattle.h5_builder_laws.proofs.modes.SharedRows.{comment_to_document_lawful}
use Rattle.h5_builder_laws.proofs.turns.Ranks.{TurnKind}
use Rattle.h5_builder_laws.proofs.turns.Ranks as edges

module _ (choices : SinkChoices) (w : World) (sound : Sound w) where
  -- the root is made
  root_made : (attrs : List AttributeText) → FitsAs BeforeHtml w → FitsAs BeforeHead (create_root choices attrs w)
  root_made attrs h =
      fits_at BeforeHead w (create_root choices attrs w) sound (situation_root choices w attrs sound)
      (subst (NamesFit (situation_of w) BeforeHead) (sym (names-insert_root choices attrs w sound)) (names_root_pushed (situation_of w) (names_of w) h))

else_lawful : {c : TurnKind} {starts : Bool} {given : Type 0} (w : World) → IsLawfulRow BeforeHtml c starts given w (row (CreateRoot [] ∷ []) (Again BeforeHead))
else_lawful {c = c} w = lawful_row _ (tt, tt) (λ choices s. root_made choices w s.sound []) (tt, (refl, tt)) tt (edges.before_html c)

tag_lawful : (k : TagKind) (tag : TagText) (w : World) → IsLawfulTag k tag BeforeHtml w (by_kind k (by_name before_html_start (of_tag before_html_else) tag w) (by_name before_html_end ignored_tag tag w))
unfolding before_html_start before_html_end names_of
tag_lawful StartTag tag w = holds_by_name (IsLawfulTag StartTag tag BeforeHtml w) before_html_start (of_tag before_html_else) tag w
    ((λ p. lawful_row (before_html_start_html tag w) (tt, (tt, tt)) (λ choices s. root_made choices w s.sound tag.attrs) (tt, (refl, tt)) tt tt) & tt) (λ n. else_lawful w)
tag_lawful EndTag tag w = holds_by_name (IsLawfulTag EndTag tag BeforeHtml w) before_html_end ignored_tag tag w ((λ p. else_lawful w) & tt) (λ n. lawful_ignored)

pub lawful_before_html : (t : TurnText) (w : World) → IsLawfulFor t BeforeHtml w (before_html t w)
unfolding before_html_tag
lawful_before_html (TagTurn tag) w = tag_lawful tag.kind tag w
lawful_before_html (CommentTurn x) w = comment_to_document_lawful BeforeHtml w x
lawful_before_html (TextTurn Whitespace x) w = lawful_nothing true
lawful_before_html t w = else_lawful w
