-- Rows that several modes have or share are lawful.
use Rattle.std.proofs.Common.{◌∙◌, ◌∷◌, ◌≡◌, List, [], false, refl, sym, true, ℕ}
use Rattle.h5_token.specs.TokenText.{TagText}
use Rattle.h5_token.specs.declared.tag.TagKind.TheVariants.{EndTag, StartTag}
use Rattle.h5_interface.specs.SinkChoices.{SinkChoices}
use Rattle.h5_tables.specs.TurnText.{CommentTurn, EofTurn, TextTurn}
use Rattle.h5_tables.specs.declared.modes.InsertionMode.{InsertionMode}
use Rattle.h5_tables.specs.declared.modes.SplitStatus.{SplitStatus}
use Rattle.h5_builder_spec.specs.Rows.{AppendComment, AppendCommentToDoc, AppendText, IsDone, Row, row}
use Rattle.h5_builder_spec.specs.World.{World, names_of}
use Rattle.h5_builder_spec.specs.inner.Fits.{goes_by_body}
use Rattle.h5_builder_spec.specs.modes.InHead.{in_head_end_template, template_eof}
use Rattle.h5_builder_spec.specs.modes.Shared.{in_body_start_html}
use Rattle.h5_builder_spec.specs.stack.Scope.{has_template}
use Rattle.h5_builder_spec.proofs.changes.ListsLaws.{IsSteady, steady_changes}
use Rattle.h5_builder_spec.proofs.modes.InHead.{IsHeadRow, html_row}
use Rattle.h5_builder_spec.proofs.modes.TemplateRowLaws.{ClosedByTag, closed_by_eof}
use Rattle.h5_builder_spec.proofs.rows.KeptLaws.{FitsAs, kept_append, kept_comment, kept_comment_to_document}
use Rattle.h5_builder_spec.proofs.rows.RowTexts.{reset_no_text}
use Rattle.h5_builder_laws.proofs.LawfulRow.{IsLawfulFor, IsLawfulRow, IsLawfulTag, lawful_choose, lawful_ending, lawful_if, lawful_leading, lawful_nothing, lawful_row}
use Rattle.h5_builder_laws.proofs.turns.RankWeightLaws.{closes_templates}
use Rattle.h5_builder_laws.proofs.turns.Ranks.{TurnKind}
use Rattle.h5_builder_laws.proofs.turns.RowEdges.{ByEdge, ClosesTemplate}

module _ (m : InsertionMode) (w : World) where
  -- of a start tag by the rules of the head
  pub head_row_lawful : {c : TurnKind} {given : Type 0} (r : Row) → IsHeadRow m w r → IsLawfulRow m c true given w r
  head_row_lawful r x = lawful_ending r x.ends (λ choices s same. x.fits choices s.sound same)

  -- a start tag "html"
  pub start_html_lawful : (tag : TagText) → IsLawfulTag StartTag tag m w (in_body_start_html tag w)
  start_html_lawful tag = head_row_lawful _ (html_row m tag w)

  -- the end of a template, by a tag
  pub end_template_lawful : (tag : TagText) → ((choices : SinkChoices) → IsSteady w → has_template (names_of w) ≡ true → FitsAs m w → ClosedByTag choices w) → IsLawfulTag EndTag tag m w (in_head_end_template tag w)
  unfolding in_head_end_template
  end_template_lawful tag fits = lawful_if (has_template (names_of w)) _ (λ e. lawful_row _ (tt, (tt, (tt, (tt, (tt, tt))))) (λ choices s. fits choices s e) (tt, tt) tt tt)

  -- if none can be open
  pub no_template_lawful : (tag : TagText) → (FitsAs m w → has_template (names_of w) ≡ false) → IsLawfulTag EndTag tag m w (in_head_end_template tag w)
  no_template_lawful tag none = end_template_lawful tag (λ choices s e h. absurd (let clash = sym e ∙ none h in cc))

  -- and by the end of the file
  pub eof_template_lawful : goes_by_body m ≡ true → closes_templates m ≡ true → IsLawfulFor EofTurn m w (template_eof w)
  unfolding template_eof
  eof_template_lawful goes closes = lawful_choose (has_template (names_of w)) _ (row [] IsDone)
      (λ e. lawful_leading _ (tt, (tt, (tt, (tt, tt)))) (λ choices s same. closed_by_eof choices w s.sound m goes e) (tt, (tt, reset_no_text)) tt (ClosesTemplate closes refl e refl refl))
      (λ e. lawful_nothing true)

  -- a text that goes into the tree as it is
  pub text_row_lawful : (status : SplitStatus) (x : List ℕ) → IsLawfulFor (TextTurn status x) m w (row (AppendText x ∷ []) IsDone)
  text_row_lawful status x = record {
    steady = λ choices s same some h. steady_changes choices (AppendText x ∷ []) w (some, tt) s;
    fits = λ choices s same some. kept_append choices w s.sound m x some;
    told = λ n. (tt, tt);
    silent = λ n h. tt;
    leads = ByEdge tt;
  }

  -- a comment at the current place, after the root, and in it
  pub comment_lawful : (x : List ℕ) → IsLawfulFor (CommentTurn x) m w (row (AppendComment x ∷ []) IsDone)
  comment_lawful x = lawful_row _ (tt, tt) (λ choices s. kept_comment choices w s.sound m x) (tt, tt) tt tt

  pub comment_to_document_lawful : (x : List ℕ) → IsLawfulFor (CommentTurn x) m w (row (AppendCommentToDoc x ∷ []) IsDone)
  comment_to_document_lawful x = lawful_row _ (tt, tt) (λ choices s. kept_comment_to_document choices w s.sound m x) (tt, tt) tt tt
