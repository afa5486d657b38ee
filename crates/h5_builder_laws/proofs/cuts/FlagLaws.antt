-- No text sets the newline flag.
use Rattle.std.proofs.Common.{◌≡◌, ℕ, Bool, true, false, cond, List, [], ◌∷◌, codes, refl, ap, ◌∙◌}
use Rattle.h5_interface.specs.SinkChoices.{SinkChoices}
use Rattle.h5_tables.specs.TurnText.{TextTurn, TurnText}
use Rattle.h5_tables.specs.declared.modes.InsertionMode.{InsertionMode}
use Rattle.h5_tables.specs.declared.modes.SplitStatus.TheVariants.{NotWhitespace}
use Rattle.h5_tables.specs.declared.modes.InsertionMode.TheVariants.{Initial, BeforeHtml, BeforeHead, InHead, InHeadNoscript, AfterHead, InBody, Text, InTable, InTableText, InCaption, InColumnGroup, InTableBody, InRow, InCell, AfterBody, AfterAfterBody, InTemplate, InFrameset, AfterFrameset, AfterAfterFrameset}
use Rattle.h5_builder_spec.specs.Blanks.{blanks_of, rest_of}
use Rattle.h5_builder_spec.specs.Changes.{append_pending_text, append_text, insert_element, insert_head, create_root, save_mode, set_foster, set_frameset_ok_by_text, set_mode, pop, set_quirks_mode}
use Rattle.h5_builder_spec.specs.modes.AfterBody.{back_to_body}
use Rattle.h5_builder_spec.specs.modes.AfterHead.{after_head_else}
use Rattle.h5_builder_spec.specs.modes.BeforeHead.{before_head_else}
use Rattle.h5_builder_spec.specs.modes.BeforeHtml.{before_html_else}
use Rattle.h5_builder_spec.specs.modes.Shared.{current_is}
use Rattle.h5_builder_spec.specs.modes.InColumnGroup.{close_the_column_group, in_column_group_else}
use Rattle.h5_builder_spec.specs.modes.InHead.{in_head_else}
use Rattle.h5_builder_spec.specs.modes.InHeadNoscript.{in_head_noscript_else}
use Rattle.h5_builder_spec.specs.modes.InTable.{keeps_text}
use Rattle.h5_builder_spec.specs.modes.InitialMode.{initial_else}
use Rattle.h5_builder_spec.specs.Rows.{Again, Pop, Row, choose, ignored, row}
use Rattle.h5_builder_spec.specs.insertion.Foreign.{is_foreign_text}
use Rattle.h5_builder_spec.specs.Text.{after_row, all_blanks, closes_column_group, foreign_text, fostered_text, if_any, unless_foreign, split, dropped, by_else, text_in_body, text_in_column_group, text_in_table, text_in_table_text, text_after_body, text_after_head, text_in_head, text_in_head_noscript, text_before_head, text_before_html, text_initial, text_in, text_rule}
use Rattle.h5_builder_spec.specs.World.{World}
use Rattle.h5_builder_spec.proofs.changes.TreeLaws.{tree_reconstruct}

abbrev Keeps : (List ℕ → World → World) → Type 0
Keeps f = (t : List ℕ) (w : World) → (f t w).ignore_lf ≡ w.ignore_lf

any_keeps : (f : List ℕ → World → World) → Keeps f → (t : List ℕ) (w : World) → (if_any f t w).ignore_lf ≡ w.ignore_lf
any_keeps f h [] w = refl
any_keeps f h (b ∷ t) w = h (b ∷ t) w

split_keeps : (blanks others : List ℕ → World → World) → Keeps blanks → Keeps others → Keeps (split blanks others)
split_keeps blanks others h k t w = any_keeps others k (rest_of t) (if_any blanks (blanks_of t) w) ∙ any_keeps blanks h (blanks_of t) w

append_keeps : Keeps append_text
unfolding append_text
append_keeps t w = refl

foreign_keeps : Keeps foreign_text
unfolding append_text set_frameset_ok_by_text
foreign_keeps t w = refl

unless_keeps : (choices : SinkChoices) (f : List ℕ → World → World) → Keeps f → Keeps (unless_foreign choices f)
unless_keeps choices f h t w = at (is_foreign_text choices w)
  where
    at : (b : Bool) → (cond b (foreign_text t w) (f t w)).ignore_lf ≡ w.ignore_lf
    at true = foreign_keeps t w
    at false = h t w

else_keeps : (choices : SinkChoices) (r : TurnText → World → Row) (next : List ℕ → World → World) → Keeps next → ((t : List ℕ) (w : World) → (after_row choices (r (TextTurn NotWhitespace t) w) w).ignore_lf ≡ w.ignore_lf) → Keeps (by_else choices r next)
else_keeps choices r next h k t w = unless_keeps choices next h t (after_row choices (r (TextTurn NotWhitespace t) w) w) ∙ k t w

body_keeps : (choices : SinkChoices) → Keeps (text_in_body choices)
unfolding text_in_body append_text set_frameset_ok_by_text
body_keeps choices t w = ap (λ (v : World). v.ignore_lf) (tree_reconstruct choices w)

after_body_keeps : (choices : SinkChoices) → Keeps (text_after_body choices)
unfolding text_after_body
after_body_keeps choices = split_keeps (text_in_body choices) (by_else choices back_to_body (text_in_body choices)) (body_keeps choices) (else_keeps choices back_to_body (text_in_body choices) (body_keeps choices) (λ t w. refl))

after_head_keeps : (choices : SinkChoices) → Keeps (text_after_head choices)
unfolding text_after_head insert_element
after_head_keeps choices = split_keeps append_text (by_else choices after_head_else (text_in_body choices)) append_keeps (else_keeps choices after_head_else (text_in_body choices) (body_keeps choices) (λ t w. refl))

in_head_keeps : (choices : SinkChoices) → Keeps (text_in_head choices)
unfolding text_in_head pop
in_head_keeps choices = split_keeps append_text (by_else choices in_head_else (text_after_head choices)) append_keeps (else_keeps choices in_head_else (text_after_head choices) (after_head_keeps choices) (λ t w. refl))

in_head_noscript_keeps : (choices : SinkChoices) → Keeps (text_in_head_noscript choices)
unfolding text_in_head_noscript pop
in_head_noscript_keeps choices = split_keeps append_text (by_else choices in_head_noscript_else (text_in_head choices)) append_keeps (else_keeps choices in_head_noscript_else (text_in_head choices) (in_head_keeps choices) (λ t w. refl))

before_head_keeps : (choices : SinkChoices) → Keeps (text_before_head choices)
unfolding text_before_head insert_element insert_head
before_head_keeps choices = split_keeps dropped (by_else choices before_head_else (text_in_head choices)) (λ t w. refl) (else_keeps choices before_head_else (text_in_head choices) (in_head_keeps choices) (λ t w. refl))

before_html_keeps : (choices : SinkChoices) → Keeps (text_before_html choices)
unfolding text_before_html create_root
before_html_keeps choices = split_keeps dropped (by_else choices before_html_else (text_before_head choices)) (λ t w. refl) (else_keeps choices before_html_else (text_before_head choices) (before_head_keeps choices) (λ t w. refl))

initial_row_keeps : (choices : SinkChoices) (t : List ℕ) (w : World) → (after_row choices (initial_else (TextTurn NotWhitespace t) w) w).ignore_lf ≡ w.ignore_lf
unfolding initial_else set_quirks_mode
initial_row_keeps choices t w = elim w.options.iframe_srcdoc as (λ b. (after_row choices (choose b _ _) w).ignore_lf ≡ w.ignore_lf) [ true ↦ refl | false ↦ refl ]

initial_keeps : (choices : SinkChoices) → Keeps (text_initial choices)
unfolding text_initial
initial_keeps choices = split_keeps dropped (by_else choices initial_else (text_before_html choices)) (λ t w. refl) (else_keeps choices initial_else (text_before_html choices) (before_html_keeps choices) (initial_row_keeps choices))

-- in a table, a row group and a row, and in a column group
table_keeps : (choices : SinkChoices) → Keeps (text_in_table choices)
unfolding text_in_table append_pending_text
table_keeps choices t w = at (keeps_text w)
  where
    at : (b : Bool) → (cond b (text_in_table_text t (set_mode InTableText (save_mode w))) (fostered_text choices t w)).ignore_lf ≡ w.ignore_lf
    at true = refl
    at false = body_keeps choices t (set_foster true w)

column_row_keeps : (choices : SinkChoices) (t : List ℕ) (w : World) → (after_row choices (in_column_group_else (TextTurn NotWhitespace t) w) w).ignore_lf ≡ w.ignore_lf
unfolding close_the_column_group pop
column_row_keeps choices t w = elim (current_is (codes "colgroup") w) as (λ b. (after_row choices (choose b (row (Pop ∷ []) (Again InTable)) ignored) w).ignore_lf ≡ w.ignore_lf) [ true ↦ refl | false ↦ refl ]

column_group_keeps : (choices : SinkChoices) → Keeps (text_in_column_group choices)
unfolding text_in_column_group
column_group_keeps choices t w = at (current_is (codes "colgroup") w)
  where
    at : (b : Bool) → (cond b (closes_column_group choices t w) (if_any append_text (all_blanks t) w)).ignore_lf ≡ w.ignore_lf
    at true = split_keeps append_text (by_else choices in_column_group_else (text_in_table choices)) append_keeps (else_keeps choices in_column_group_else (text_in_table choices) (table_keeps choices) (column_row_keeps choices)) t w
    at false = any_keeps append_text append_keeps (all_blanks t) w

kept_keeps : Keeps text_in_table_text
unfolding append_pending_text
kept_keeps t w = refl

in_keeps : (choices : SinkChoices) (m : InsertionMode) → Keeps (text_in m choices)
in_keeps choices Initial = initial_keeps choices
in_keeps choices BeforeHtml = before_html_keeps choices
in_keeps choices BeforeHead = before_head_keeps choices
in_keeps choices InHead = in_head_keeps choices
in_keeps choices InHeadNoscript = in_head_noscript_keeps choices
in_keeps choices AfterHead = after_head_keeps choices
in_keeps choices InBody = body_keeps choices
in_keeps choices Text = append_keeps
in_keeps choices InTable = table_keeps choices
in_keeps choices InTableText = kept_keeps
in_keeps choices InCaption = body_keeps choices
in_keeps choices InColumnGroup = column_group_keeps choices
in_keeps choices InTableBody = table_keeps choices
in_keeps choices InRow = table_keeps choices
in_keeps choices InCell = body_keeps choices
in_keeps choices AfterBody = after_body_keeps choices
in_keeps choices AfterAfterBody = after_body_keeps choices
in_keeps choices InTemplate = body_keeps choices
in_keeps choices InFrameset = λ t w. any_keeps append_text append_keeps (all_blanks t) w
in_keeps choices AfterFrameset = λ t w. any_keeps append_text append_keeps (all_blanks t) w
in_keeps choices AfterAfterFrameset = λ t w. any_keeps (text_in_body choices) (body_keeps choices) (all_blanks t) w

pub text_keeps_flag : (choices : SinkChoices) (t : List ℕ) (w : World) → (text_rule choices t w).ignore_lf ≡ w.ignore_lf
text_keeps_flag choices t w = unless_keeps choices (text_in w.mode choices) (in_keeps choices w.mode) t w
