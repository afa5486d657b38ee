-- HTML standard, section 13.2.6.4.17, the "after body" insertion mode: each of its rows is lawful.
use Rattle.std.proofs.Common.{Bool, [], is_some, refl, true, ◌∷◌, ◌≡◌}
use Rattle.h5_token.specs.TokenText.{TagText}
use Rattle.h5_token.specs.declared.tag.TagKind.TheVariants.{EndTag, StartTag}
use Rattle.h5_token.specs.declared.tag.TagKind.{TagKind}
use Rattle.h5_tables.specs.TurnText.{CommentTurn, EofTurn, NullTurn, TagTurn, TextTurn, TurnText}
use Rattle.h5_tables.specs.declared.modes.InsertionMode.TheVariants.{AfterAfterBody, AfterBody, InBody}
use Rattle.h5_tables.specs.declared.modes.InsertionMode.{InsertionMode}
use Rattle.h5_tables.specs.declared.modes.SplitStatus.TheVariants.{NotSplit, NotWhitespace, Whitespace}
use Rattle.h5_builder_spec.specs.ByName.{by_kind, by_name, of_tag}
use Rattle.h5_builder_spec.specs.Rows.{Again, IsDone, SetMode, errs, row}
use Rattle.h5_builder_spec.specs.Sound.{situation_of}
use Rattle.h5_builder_spec.specs.World.{World, names_of}
use Rattle.h5_builder_spec.specs.inner.Fits.{goes_by_body}
use Rattle.h5_builder_spec.specs.modes.AfterBody.{after_body, after_body_end, after_body_start, after_body_tag, back_to_body}
use Rattle.h5_builder_spec.proofs.fitting.NamesBodyLaws.{names_after_after_body, names_in_body}
use Rattle.h5_builder_spec.proofs.rows.ByNameLaws.{◌&◌, holds_by_name}
use Rattle.h5_builder_spec.proofs.rows.KeptLaws.{FitsAs, kept_comment_to_root}
use Rattle.h5_builder_laws.proofs.LawfulRow.{IsLawfulFor, IsLawfulRow, IsLawfulTag, lawful_if_not, lawful_nothing, lawful_row}
use Rattle.h5_builder_laws.proofs.modes.InBody.{body_text_lawful}
use Rattle.h5_builder_laws.proofs.modes.SharedRows.{start_html_lawful}
use Rattle.h5_builder_laws.proofs.turns.AgainLaws.{end_leaves, kind_of_end, kind_of_start, start_leaves}
use Rattle.h5_builder_laws.proofs.turns.Ranks.{TextTurns, TurnKind}
use Rattle.h5_builder_laws.proofs.turns.Ranks as edges

-- anything else goes back to the body
pub back_lawful : {c : TurnKind} {starts : Bool} {given : Type 0} (m : InsertionMode) (w : World) → goes_by_body m ≡ true → edges.Again c m InBody → IsLawfulRow m c starts given w (errs [] (Again InBody))
back_lawful m w goes leads = lawful_row _ tt (λ choices s h. names_in_body (situation_of w) (names_of w) m goes h) (tt, (refl, tt)) tt leads

after_after_body_fits : (w : World) → FitsAs AfterBody w → FitsAs AfterAfterBody w
after_after_body_fits w h = names_after_after_body (situation_of w) (names_of w) (names_in_body (situation_of w) (names_of w) AfterBody refl h)

tag_lawful : (k : TagKind) (tag : TagText) (w : World) → IsLawfulTag k tag AfterBody w (by_kind k (by_name after_body_start (of_tag back_to_body) tag w) (by_name after_body_end (of_tag back_to_body) tag w))
unfolding after_body_start after_body_end names_of
tag_lawful StartTag tag w = holds_by_name (IsLawfulTag StartTag tag AfterBody w) after_body_start (of_tag back_to_body) tag w ((λ p. start_html_lawful AfterBody w tag) & tt) (λ n. back_lawful AfterBody w refl (edges.after_body (kind_of_start tag.name) (start_leaves tag.name)))
tag_lawful EndTag tag w = holds_by_name (IsLawfulTag EndTag tag AfterBody w) after_body_end (of_tag back_to_body) tag w
    ((λ p. lawful_if_not (is_some w.context) _ (λ e. lawful_row (row (SetMode AfterAfterBody ∷ []) IsDone) (tt, tt) (λ choices s. after_after_body_fits w) (tt, (refl, tt)) tt tt)) & tt)
    (λ n. back_lawful AfterBody w refl (edges.after_body (kind_of_end tag.name) (end_leaves tag.name n.0)))

pub lawful_after_body : (t : TurnText) (w : World) → IsLawfulFor t AfterBody w (after_body t w)
unfolding after_body_tag
lawful_after_body (TagTurn tag) w = tag_lawful tag.kind tag w
lawful_after_body (CommentTurn x) w = lawful_row _ (tt, tt) (λ choices s. kept_comment_to_root choices w s.sound AfterBody x) (tt, tt) tt tt
lawful_after_body (TextTurn Whitespace x) w = body_text_lawful AfterBody refl w Whitespace x
lawful_after_body EofTurn w = lawful_nothing true
lawful_after_body (TextTurn NotWhitespace x) w = back_lawful AfterBody w refl (edges.after_body TextTurns refl)
lawful_after_body (TextTurn NotSplit x) w = back_lawful AfterBody w refl (edges.after_body TextTurns refl)
lawful_after_body NullTurn w = back_lawful AfterBody w refl (edges.after_body TextTurns refl)
