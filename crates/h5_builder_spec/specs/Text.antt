-- The rule of a text, in one step: in foreign content, or by the mode, for its longest prefix of ASCII whitespace and
-- for the remainder.
use Rattle.std.specs.Prelude.{◌≡◌, ℕ, Bool, true, false, List, [], ◌∷◌, codes, filter, Option, Some, None, if◌then◌else◌}
use Rattle.h5_interface.specs.SinkChoices.{SinkChoices}
use Rattle.h5_tables.specs.TurnText.{TextTurn, TurnText}
use Rattle.h5_tables.specs.declared.modes.InsertionMode.{InsertionMode}
use Rattle.h5_tables.specs.declared.modes.InsertionMode.TheVariants.{AfterAfterBody, AfterAfterFrameset, AfterBody, AfterFrameset, AfterHead, BeforeHead, BeforeHtml, InBody, InCaption, InCell, InColumnGroup, InFrameset, InHead, InHeadNoscript, InRow, InTable, InTableBody, InTableText, InTemplate, Initial, Text}
use Rattle.h5_tables.specs.declared.modes.SplitStatus.{SplitStatus}
use Rattle.h5_tables.specs.declared.modes.SplitStatus.TheVariants.{NotSplit, Whitespace, NotWhitespace}
use Rattle.h5_builder_spec.specs.modes.AfterBody.{back_to_body}
use Rattle.h5_builder_spec.specs.modes.AfterHead.{after_head_else}
use Rattle.h5_builder_spec.specs.modes.BeforeHead.{before_head_else}
use Rattle.h5_builder_spec.specs.modes.BeforeHtml.{before_html_else}
use Rattle.h5_builder_spec.specs.Blanks.{is_blank, blanks_of, rest_of}
use Rattle.h5_builder_spec.specs.Changes.{append_pending_text, append_text, save_mode, set_foster, set_frameset_ok_by_text, set_mode}
use Rattle.h5_builder_spec.specs.insertion.Foreign.{is_foreign_text}
use Rattle.h5_builder_spec.specs.formatting.Formatting.{reconstruct_active_formatting_elements}
use Rattle.h5_builder_spec.specs.modes.Shared.{current_is}
use Rattle.h5_builder_spec.specs.modes.InColumnGroup.{in_column_group_else}
use Rattle.h5_builder_spec.specs.modes.InHead.{in_head_else}
use Rattle.h5_builder_spec.specs.modes.InTable.{keeps_text}
use Rattle.h5_builder_spec.specs.modes.InitialMode.{initial_else}
use Rattle.h5_builder_spec.specs.Rows.{Row, changed_by, next_mode}
use Rattle.h5_builder_spec.specs.World.{World}
use Rattle.h5_builder_spec.specs.modes.InHeadNoscript.{in_head_noscript_else}

-- a rule for a text, if it isn't empty
abbrev pub if_any : (List ℕ → World → World) → List ℕ → World → World
if_any f [] w = w
if_any f (b ∷ t) w = f (b ∷ t) w

-- the prefix of whitespace and then the remainder, each if it isn't empty
abbrev pub split : (List ℕ → World → World) → (List ℕ → World → World) → List ℕ → World → World
split blanks others t w = if_any others (rest_of t) (if_any blanks (blanks_of t) w)

abbrev pub dropped : List ℕ → World → World
dropped t w = w

-- the world in which another turn is taken
abbrev pub in_next : Option InsertionMode → World → World
in_next None w = w
in_next (Some mode) w = set_mode mode w

abbrev pub after_row : SinkChoices → Row → World → World
after_row choices r w = in_next (next_mode r.ending (changed_by choices r w)) (changed_by choices r w)

-- in foreign content
abbrev pub foreign_text : List ℕ → World → World
foreign_text t w = append_text t (set_frameset_ok_by_text t w)

-- the rule of foreign content if the text is foreign, otherwise another rule
abbrev pub unless_foreign : SinkChoices → (List ℕ → World → World) → List ℕ → World → World
unless_foreign choices f t w = if is_foreign_text choices w then foreign_text t w else f t w

-- "anything else" of a mode, and then the rule of the mode that this leads to, unless the text is foreign there
abbrev pub by_else : SinkChoices → (TurnText → World → Row) → (List ℕ → World → World) → List ℕ → World → World
by_else choices r next t w = unless_foreign choices next t (after_row choices (r (TextTurn NotWhitespace t) w) w)

-- in the body (HTML standard, section 13.2.6.4.7, a character token)
unfoldable pub text_in_body : SinkChoices → List ℕ → World → World
text_in_body choices t w = append_text t (set_frameset_ok_by_text t (reconstruct_active_formatting_elements choices w))

-- with foster parenting on
abbrev pub fostered_text : SinkChoices → List ℕ → World → World
fostered_text choices t w = set_foster false (text_in_body choices t (set_foster true w))

-- the text is added to the pending text
abbrev pub text_in_table_text : List ℕ → World → World
text_in_table_text t w = append_pending_text t w

-- in a table, a row group and a row: if the current node buffers text, the mode is left for that
unfoldable pub text_in_table : SinkChoices → List ℕ → World → World
text_in_table choices t w = if keeps_text w then text_in_table_text t (set_mode InTableText (save_mode w)) else fostered_text choices t w

-- in a column group: if the current node is a `colgroup`, text that isn't whitespace closes it; otherwise only
-- whitespace is inserted
abbrev pub closes_column_group : SinkChoices → List ℕ → World → World
closes_column_group choices = split append_text (by_else choices in_column_group_else (text_in_table choices))

abbrev pub all_blanks : List ℕ → List ℕ
all_blanks t = filter is_blank t

unfoldable pub text_in_column_group : SinkChoices → List ℕ → World → World
text_in_column_group choices t w = if current_is (codes "colgroup") w then closes_column_group choices t w else if_any append_text (all_blanks t) w

unfoldable pub text_after_body : SinkChoices → List ℕ → World → World
text_after_body choices = split (text_in_body choices) (by_else choices back_to_body (text_in_body choices))

unfoldable pub text_after_head : SinkChoices → List ℕ → World → World
text_after_head choices = split append_text (by_else choices after_head_else (text_in_body choices))

unfoldable pub text_in_head : SinkChoices → List ℕ → World → World
text_in_head choices = split append_text (by_else choices in_head_else (text_after_head choices))

unfoldable pub text_in_head_noscript : SinkChoices → List ℕ → World → World
text_in_head_noscript choices = split append_text (by_else choices in_head_noscript_else (text_in_head choices))

unfoldable pub text_before_head : SinkChoices → List ℕ → World → World
text_before_head choices = split dropped (by_else choices before_head_else (text_in_head choices))

unfoldable pub text_before_html : SinkChoices → List ℕ → World → World
text_before_html choices = split dropped (by_else choices before_html_else (text_before_head choices))

unfoldable pub text_initial : SinkChoices → List ℕ → World → World
text_initial choices = split dropped (by_else choices initial_else (text_before_html choices))

-- in and after framesets: only whitespace, at the place of insertion or by the rule of the body
abbrev pub text_in_frameset : List ℕ → World → World
text_in_frameset t w = if_any append_text (all_blanks t) w

abbrev pub text_after_after_frameset : SinkChoices → List ℕ → World → World
text_after_after_frameset choices t w = if_any (text_in_body choices) (all_blanks t) w

-- the rule of each mode
abbrev pub text_in : InsertionMode → SinkChoices → List ℕ → World → World
text_in Initial choices = text_initial choices
text_in BeforeHtml choices = text_before_html choices
text_in BeforeHead choices = text_before_head choices
text_in InHead choices = text_in_head choices
text_in InHeadNoscript choices = text_in_head_noscript choices
text_in AfterHead choices = text_after_head choices
text_in InBody choices = text_in_body choices
text_in Text choices = append_text
text_in InTable choices = text_in_table choices
text_in InTableText choices = text_in_table_text
text_in InCaption choices = text_in_body choices
text_in InColumnGroup choices = text_in_column_group choices
text_in InTableBody choices = text_in_table choices
text_in InRow choices = text_in_table choices
text_in InCell choices = text_in_body choices
text_in InTemplate choices = text_in_body choices
text_in AfterBody choices = text_after_body choices
text_in AfterAfterBody choices = text_after_body choices
text_in InFrameset choices = text_in_frameset
text_in AfterFrameset choices = text_in_frameset
text_in AfterAfterFrameset choices = text_after_after_frameset choices

abbrev pub text_rule : SinkChoices → List ℕ → World → World
text_rule choices t w = unless_foreign choices (text_in w.mode choices) t w

abbrev pub text_any : SinkChoices → List ℕ → World → World
text_any choices t w = if_any (text_rule choices) t w

-- the modes that split a text into runs
abbrev pub splits : InsertionMode → Bool
splits Initial = true
splits BeforeHtml = true
splits BeforeHead = true
splits InHead = true
splits InHeadNoscript = true
splits AfterHead = true
splits InColumnGroup = true
splits AfterBody = true
splits InFrameset = true
splits AfterFrameset = true
splits AfterAfterBody = true
splits AfterAfterFrameset = true
splits _ = false

-- a run, of whitespace only or without any; in a mode that doesn't split, and in foreign content, the whole text
abbrev pub IsRun : InsertionMode → (foreign : Bool) → SplitStatus → List ℕ → Type 0
IsRun mode foreign Whitespace t = rest_of t ≡ []
IsRun mode foreign NotWhitespace t = all_blanks t ≡ []
IsRun mode true NotSplit t = Unit {0}
IsRun mode false NotSplit t = splits mode ≡ false

-- the modes in which no text is a parse error, including foreign content there; in the others one may be
abbrev pub is_quiet_text : InsertionMode → Bool
is_quiet_text InBody = true
is_quiet_text InCaption = true
is_quiet_text InCell = true
is_quiet_text InTemplate = true
is_quiet_text Text = true
is_quiet_text _ = false
