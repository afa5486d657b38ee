-- What is preserved by appended text, text in the body, buffered text, and the row of a text, is preserved by a text.
use Rattle.std.proofs.Common.{◌≡◌, ℕ, Bool, true, false, cond, List, [], ◌∷◌, codes, refl}
use Rattle.h5_interface.specs.SinkChoices.{SinkChoices}
use Rattle.h5_tables.specs.TurnText.{TextTurn}
use Rattle.h5_tables.specs.declared.modes.InsertionMode.{InsertionMode}
use Rattle.h5_tables.specs.declared.modes.InsertionMode.TheVariants.{Initial, BeforeHtml, BeforeHead, InHead, InHeadNoscript, AfterHead, InBody, Text, InTable, InTableText, InCaption, InColumnGroup, InTableBody, InRow, InCell, AfterBody, AfterAfterBody, InTemplate, InFrameset, AfterFrameset, AfterAfterFrameset}
use Rattle.h5_tables.specs.declared.modes.SplitStatus.TheVariants.{NotWhitespace}
use Rattle.h5_builder_spec.specs.modes.AfterBody.{back_to_body}
use Rattle.h5_builder_spec.specs.modes.AfterHead.{after_head_else}
use Rattle.h5_builder_spec.specs.modes.BeforeHead.{before_head_else}
use Rattle.h5_builder_spec.specs.modes.BeforeHtml.{before_html_else}
use Rattle.h5_builder_spec.specs.Blanks.{blanks_of, rest_of}
use Rattle.h5_builder_spec.specs.Changes.{append_pending_text, append_text, save_mode, set_foster, set_mode}
use Rattle.h5_builder_spec.specs.modes.InColumnGroup.{in_column_group_else}
use Rattle.h5_builder_spec.specs.modes.InHead.{in_head_else}
use Rattle.h5_builder_spec.specs.modes.InHeadNoscript.{in_head_noscript_else}
use Rattle.h5_builder_spec.specs.modes.InTable.{keeps_text}
use Rattle.h5_builder_spec.specs.modes.InitialMode.{initial_else}
use Rattle.h5_builder_spec.specs.modes.Modes.{rule}
use Rattle.h5_builder_spec.specs.modes.Shared.{current_is}
use Rattle.h5_builder_spec.specs.insertion.Foreign.{is_foreign_text}
use Rattle.h5_builder_spec.specs.Text.{after_row, all_blanks, by_else, closes_column_group, dropped, foreign_text, fostered_text, if_any, split, unless_foreign, text_after_body, text_after_head, text_before_head, text_before_html, text_in, text_in_body, text_in_column_group, text_in_head, text_in_head_noscript, text_in_table, text_in_table_text, text_initial, text_rule}
use Rattle.h5_builder_spec.specs.World.{World}
use Rattle.h5_builder_spec.proofs.rows.RowTexts.{is_text}

-- what is true of a world stays true
pub record IsKept (choices : SinkChoices) (P : World → Type 0) : Type 0 where
  pub append : (t : List ℕ) (w : World) → P w → P (append_text t w)
  pub foreign : (t : List ℕ) (w : World) → P w → P (foreign_text t w)
  pub body : (t : List ℕ) (w : World) → P w → P (text_in_body choices t w)
  pub pending : (t : List ℕ) (w : World) → P w → P (append_pending_text t w)
  pub fostered : (on : Bool) (w : World) → P w → P (set_foster on w)
  pub left : (w : World) → P w → P (set_mode InTableText (save_mode w))
  pub row : (m : InsertionMode) (t : List ℕ) (w : World) → is_text m ≡ false → P w → P (after_row choices (rule m (TextTurn NotWhitespace t) w) w)

module _ (choices : SinkChoices) (P : World → Type 0) (kept : IsKept choices P) where
  abbrev Keeps : (List ℕ → World → World) → Type 0
  Keeps f = (t : List ℕ) (w : World) → P w → P (f t w)

  any_keeps : (f : List ℕ → World → World) → Keeps f → Keeps (if_any f)
  any_keeps f k [] w h = h
  any_keeps f k (b ∷ t) w h = k (b ∷ t) w h

  split_keeps : (blanks others : List ℕ → World → World) → Keeps blanks → Keeps others → Keeps (split blanks others)
  split_keeps blanks others j k t w h = any_keeps others k (rest_of t) (if_any blanks (blanks_of t) w) (any_keeps blanks j (blanks_of t) w h)

  dropped_keeps : Keeps dropped
  dropped_keeps t w h = h

  unless_keeps : (f : List ℕ → World → World) → Keeps f → Keeps (unless_foreign choices f)
  unless_keeps f k t w h = at (is_foreign_text choices w)
    where
      at : (b : Bool) → P (cond b (foreign_text t w) (f t w))
      at true = kept.foreign t w h
      at false = k t w h

  -- by the row of a mode, and then as the next does
  else_keeps : (m : InsertionMode) (next : List ℕ → World → World) → is_text m ≡ false → Keeps next → Keeps (by_else choices (rule m) next)
  else_keeps m next e k t w h = unless_keeps next k t (after_row choices (rule m (TextTurn NotWhitespace t) w) w) (kept.row m t w e h)

  after_body_keeps : Keeps (text_after_body choices)
  unfolding text_after_body
  after_body_keeps = split_keeps (text_in_body choices) (by_else choices back_to_body (text_in_body choices)) kept.body (else_keeps AfterBody (text_in_body choices) refl kept.body)

  after_head_keeps : Keeps (text_after_head choices)
  unfolding text_after_head
  after_head_keeps = split_keeps append_text (by_else choices after_head_else (text_in_body choices)) kept.append (else_keeps AfterHead (text_in_body choices) refl kept.body)

  in_head_keeps : Keeps (text_in_head choices)
  unfolding text_in_head
  in_head_keeps = split_keeps append_text (by_else choices in_head_else (text_after_head choices)) kept.append (else_keeps InHead (text_after_head choices) refl after_head_keeps)

  in_head_noscript_keeps : Keeps (text_in_head_noscript choices)
  unfolding text_in_head_noscript
  in_head_noscript_keeps = split_keeps append_text (by_else choices in_head_noscript_else (text_in_head choices)) kept.append (else_keeps InHeadNoscript (text_in_head choices) refl in_head_keeps)

  before_head_keeps : Keeps (text_before_head choices)
  unfolding text_before_head
  before_head_keeps = split_keeps dropped (by_else choices before_head_else (text_in_head choices)) dropped_keeps (else_keeps BeforeHead (text_in_head choices) refl in_head_keeps)

  before_html_keeps : Keeps (text_before_html choices)
  unfolding text_before_html
  before_html_keeps = split_keeps dropped (by_else choices before_html_else (text_before_head choices)) dropped_keeps (else_keeps BeforeHtml (text_before_head choices) refl before_head_keeps)

  initial_keeps : Keeps (text_initial choices)
  unfolding text_initial
  initial_keeps = split_keeps dropped (by_else choices initial_else (text_before_html choices)) dropped_keeps (else_keeps Initial (text_before_html choices) refl before_html_keeps)

  -- in a table, a row group and a row, and in a column group
  table_keeps : Keeps (text_in_table choices)
  unfolding text_in_table
  table_keeps t w h = at (keeps_text w)
    where
      at : (b : Bool) → P (cond b (text_in_table_text t (set_mode InTableText (save_mode w))) (fostered_text choices t w))
      at true = kept.pending t (set_mode InTableText (save_mode w)) (kept.left w h)
      at false = kept.fostered false (text_in_body choices t (set_foster true w)) (kept.body t (set_foster true w) (kept.fostered true w h))

  column_group_keeps : Keeps (text_in_column_group choices)
  unfolding text_in_column_group
  column_group_keeps t w h = at (current_is (codes "colgroup") w)
    where
      at : (b : Bool) → P (cond b (closes_column_group choices t w) (if_any append_text (all_blanks t) w))
      at true = split_keeps append_text (by_else choices in_column_group_else (text_in_table choices)) kept.append (else_keeps InColumnGroup (text_in_table choices) refl table_keeps) t w h
      at false = any_keeps append_text kept.append (all_blanks t) w h

  in_keeps : (m : InsertionMode) → Keeps (text_in m choices)
  in_keeps Initial = initial_keeps
  in_keeps BeforeHtml = before_html_keeps
  in_keeps BeforeHead = before_head_keeps
  in_keeps InHead = in_head_keeps
  in_keeps InHeadNoscript = in_head_noscript_keeps
  in_keeps AfterHead = after_head_keeps
  in_keeps InBody = kept.body
  in_keeps Text = kept.append
  in_keeps InTable = table_keeps
  in_keeps InTableText = kept.pending
  in_keeps InCaption = kept.body
  in_keeps InColumnGroup = column_group_keeps
  in_keeps InTableBody = table_keeps
  in_keeps InRow = table_keeps
  in_keeps InCell = kept.body
  in_keeps AfterBody = after_body_keeps
  in_keeps AfterAfterBody = after_body_keeps
  in_keeps InTemplate = kept.body
  in_keeps InFrameset = λ t. any_keeps append_text kept.append (all_blanks t)
  in_keeps AfterFrameset = λ t. any_keeps append_text kept.append (all_blanks t)
  in_keeps AfterAfterFrameset = λ t. any_keeps (text_in_body choices) kept.body (all_blanks t)

  pub text_kept : (t : List ℕ) (w : World) → P w → P (text_rule choices t w)
  text_kept t w h = unless_keeps (text_in w.mode choices) (in_keeps w.mode) t w h
