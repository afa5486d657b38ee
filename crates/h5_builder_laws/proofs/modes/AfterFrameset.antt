-- HTML standard, section 13.2.6.4.19, the "after frameset" insertion mode: each of its rows is lawful.
use Rattle.std.proofs.Common.{◌≡◌, refl, true}
use Rattle.h5_token.specs.TokenText.{TagText}
use Rattle.h5_token.specs.declared.tag.TagKind.{TagKind}
use Rattle.h5_token.specs.declared.tag.TagKind.TheVariants.{EndTag, StartTag}
use Rattle.h5_tables.specs.TurnText.{CommentTurn, EofTurn, TagTurn, TextTurn, TurnText}
use Rattle.h5_tables.specs.declared.modes.InsertionMode.{InsertionMode}
use Rattle.h5_tables.specs.declared.modes.InsertionMode.TheVariants.{AfterFrameset}
use Rattle.h5_tables.specs.declared.modes.SplitStatus.TheVariants.{Whitespace}
use Rattle.h5_builder_spec.specs.ByName.{by_kind, by_name, ignored_tag}
use Rattle.h5_builder_spec.specs.Sound.{situation_of}
use Rattle.h5_builder_spec.specs.World.{World, names_of}
use Rattle.h5_builder_spec.specs.inner.Fits.{may_be_left}
use Rattle.h5_builder_spec.specs.modes.AfterFrameset.{after_frameset, after_frameset_end, after_frameset_end_html, after_frameset_start, after_frameset_tag}
use Rattle.h5_builder_spec.proofs.fitting.NamesTableLaws.{names_frameset_ended}
use Rattle.h5_builder_spec.proofs.rows.ByNameLaws.{◌&◌, holds_by_name}
use Rattle.h5_builder_laws.proofs.LawfulRow.{IsLawfulFor, IsLawfulTag, lawful_ignored, lawful_nothing, lawful_row}
use Rattle.h5_builder_laws.proofs.modes.InFrameset.{noframes_lawful}
use Rattle.h5_builder_laws.proofs.modes.SharedRows.{comment_lawful, start_html_lawful, text_row_lawful}

-- a start tag, here and in "after after frameset"
pub after_start_lawful : (m : InsertionMode) (w : World) → may_be_left m ≡ true → (tag : TagText) → IsLawfulTag StartTag tag m w (by_name after_frameset_start ignored_tag tag w)
unfolding after_frameset_start
after_start_lawful m w left tag = holds_by_name (IsLawfulTag StartTag tag m w) after_frameset_start ignored_tag tag w (
    (λ p. start_html_lawful m w tag)
    & (λ p. noframes_lawful m w left tag p)
    & tt
    ) (λ n. lawful_ignored)

tag_lawful : (k : TagKind) (tag : TagText) (w : World) → IsLawfulTag k tag AfterFrameset w (by_kind k (by_name after_frameset_start ignored_tag tag w) (by_name after_frameset_end ignored_tag tag w))
unfolding after_frameset_end names_of
tag_lawful StartTag tag w = after_start_lawful AfterFrameset w refl tag
tag_lawful EndTag tag w = holds_by_name (IsLawfulTag EndTag tag AfterFrameset w) after_frameset_end ignored_tag tag w
    ((λ p. lawful_row (after_frameset_end_html tag w) (tt, tt) (λ choices s h. names_frameset_ended (situation_of w) (names_of w) h) (tt, (refl, tt)) tt tt) & tt) (λ n. lawful_ignored)

pub lawful_after_frameset : (t : TurnText) (w : World) → IsLawfulFor t AfterFrameset w (after_frameset t w)
unfolding after_frameset_tag
lawful_after_frameset (TagTurn tag) w = tag_lawful tag.kind tag w
lawful_after_frameset (CommentTurn x) w = comment_lawful AfterFrameset w x
lawful_after_frameset (TextTurn Whitespace x) w = text_row_lawful AfterFrameset w Whitespace x
lawful_after_frameset EofTurn w = lawful_nothing true
lawful_after_frameset t w = lawful_ignored
