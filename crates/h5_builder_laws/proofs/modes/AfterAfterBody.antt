-- HTML standard, section 13.2.6.4.20, the "after after body" insertion mode: each of its rows is lawful.
use Rattle.std.proofs.Common.{refl, true}
use Rattle.h5_token.specs.TokenText.{TagText}
use Rattle.h5_token.specs.declared.tag.TagKind.TheVariants.{EndTag, StartTag}
use Rattle.h5_token.specs.declared.tag.TagKind.{TagKind}
use Rattle.h5_tables.specs.TurnText.{CommentTurn, EofTurn, NullTurn, TagTurn, TextTurn, TurnText}
use Rattle.h5_tables.specs.declared.modes.InsertionMode.TheVariants.{AfterAfterBody}
use Rattle.h5_tables.specs.declared.modes.SplitStatus.TheVariants.{NotSplit, NotWhitespace, Whitespace}
use Rattle.h5_builder_spec.specs.ByName.{by_kind, by_name, of_tag}
use Rattle.h5_builder_spec.specs.World.{World}
use Rattle.h5_builder_spec.specs.modes.AfterAfterBody.{after_after_body, after_after_body_start, after_after_body_tag}
use Rattle.h5_builder_spec.specs.modes.AfterBody.{back_to_body}
use Rattle.h5_builder_spec.proofs.rows.ByNameLaws.{◌&◌, holds_by_name}
use Rattle.h5_builder_laws.proofs.LawfulRow.{IsLawfulFor, IsLawfulTag, lawful_nothing}
use Rattle.h5_builder_laws.proofs.modes.AfterBody.{back_lawful}
use Rattle.h5_builder_laws.proofs.modes.InBody.{body_text_lawful}
use Rattle.h5_builder_laws.proofs.modes.SharedRows.{comment_to_document_lawful, start_html_lawful}
use Rattle.h5_builder_laws.proofs.turns.AgainLaws.{end_no_eof, kind_of_end, kind_of_start, start_no_eof}
use Rattle.h5_builder_laws.proofs.turns.Ranks.{TextTurns}
use Rattle.h5_builder_laws.proofs.turns.Ranks as edges

tag_lawful : (k : TagKind) (tag : TagText) (w : World) → IsLawfulTag k tag AfterAfterBody w (by_kind k (by_name after_after_body_start (of_tag back_to_body) tag w) (back_to_body (TagTurn tag) w))
unfolding after_after_body_start
tag_lawful StartTag tag w = holds_by_name (IsLawfulTag StartTag tag AfterAfterBody w) after_after_body_start (of_tag back_to_body) tag w
    ((λ p. start_html_lawful AfterAfterBody w tag) & tt) (λ n. back_lawful AfterAfterBody w refl (edges.after_after_body (kind_of_start tag.name) (start_no_eof tag.name)))
tag_lawful EndTag tag w = back_lawful AfterAfterBody w refl (edges.after_after_body (kind_of_end tag.name) (end_no_eof tag.name))

pub lawful_after_after_body : (t : TurnText) (w : World) → IsLawfulFor t AfterAfterBody w (after_after_body t w)
unfolding after_after_body_tag
lawful_after_after_body (TagTurn tag) w = tag_lawful tag.kind tag w
lawful_after_after_body (CommentTurn x) w = comment_to_document_lawful AfterAfterBody w x
lawful_after_after_body (TextTurn Whitespace x) w = body_text_lawful AfterAfterBody refl w Whitespace x
lawful_after_after_body EofTurn w = lawful_nothing true
lawful_after_after_body (TextTurn NotWhitespace x) w = back_lawful AfterAfterBody w refl (edges.after_after_body TextTurns refl)
lawful_after_after_body (TextTurn NotSplit x) w = back_lawful AfterAfterBody w refl (edges.after_after_body TextTurns refl)
lawful_after_after_body NullTurn w = back_lawful AfterAfterBody w refl (edges.after_after_body TextTurns refl)
