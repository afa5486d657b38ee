-- The chain of turns of one run is the text rule on it.
use Rattle.std.proofs.Common.{◌≡◌, ◌≢◌, ℕ, zero, suc, ◌<◌, Bool, true, false, cond, codes, List, [], ◌∷◌, ◌++◌, Option, Some, None, take, drop, refl, ap, sym, ◌∙◌, arith}
use Rattle.std.proofs.lemmas.List.{append-nil, take-append-drop}
use Rattle.h5_interface.specs.SinkChoices.{SinkChoices}
use Rattle.h5_tables.specs.TurnText.{TextTurn, TurnText}
use Rattle.h5_tables.specs.declared.modes.InsertionMode.{InsertionMode}
use Rattle.h5_tables.specs.declared.modes.InsertionMode.TheVariants.{Initial, BeforeHtml, BeforeHead, InHead, InHeadNoscript, AfterHead, InBody, Text, InTable, InTableText, InCaption, InColumnGroup, InTableBody, InRow, InCell, AfterBody, AfterAfterBody, InTemplate, InFrameset, AfterFrameset, AfterAfterFrameset}
use Rattle.h5_tables.specs.declared.modes.SplitStatus.{SplitStatus}
use Rattle.h5_tables.specs.declared.modes.SplitStatus.TheVariants.{NotSplit, Whitespace, NotWhitespace}
use Rattle.h5_builder_spec.specs.Blanks.{blanks_of, is_blank, rest_of}
use Rattle.h5_builder_spec.specs.Changes.{append_text, pop, save_mode, set_mode, set_frameset_ok_by_text}
use Rattle.h5_builder_spec.specs.modes.AfterBody.{back_to_body}
use Rattle.h5_builder_spec.specs.modes.AfterHead.{after_head_else}
use Rattle.h5_builder_spec.specs.modes.BeforeHead.{before_head_else}
use Rattle.h5_builder_spec.specs.modes.BeforeHtml.{before_html_else}
use Rattle.h5_builder_spec.specs.insertion.Foreign.{adjusted_current_node, is_foreign, is_foreign_at, is_foreign_text}
use Rattle.h5_builder_spec.specs.modes.ForeignContent.{foreign_text_row}
use Rattle.h5_builder_spec.specs.modes.InBody.{in_body}
use Rattle.h5_builder_spec.specs.modes.InColumnGroup.{close_the_column_group, in_column_group_else}
use Rattle.h5_builder_spec.specs.modes.InHead.{in_head_else}
use Rattle.h5_builder_spec.specs.modes.InHeadNoscript.{in_head_noscript_else}
use Rattle.h5_builder_spec.specs.modes.InTable.{in_table_text_or_null, keeps_text}
use Rattle.h5_builder_spec.specs.modes.InitialMode.{initial_else}
use Rattle.h5_builder_spec.specs.modes.Modes.{rule}
use Rattle.h5_builder_spec.specs.Rows.{Again, AppendPendingText, AppendText, IsDone, Pop, Row, SaveMode, changed_by, choose, ignored, next_mode, row}
use Rattle.h5_builder_spec.specs.Settle.{Settled, by_row, ends_with, settle, then_turns}
use Rattle.h5_builder_spec.specs.modes.Shared.{current_is, in_body_text}
use Rattle.h5_builder_spec.specs.Text.{IsRun, after_row, all_blanks, by_else, closes_column_group, foreign_text, fostered_text, text_in_column_group, text_in_table, text_in_table_text, dropped, in_next, if_any, split, text_after_body, text_after_head, text_any, text_before_head, text_before_html, text_in, text_in_body, text_in_head, text_in_head_noscript, text_initial, text_rule, is_quiet_text, unless_foreign}
use Rattle.h5_builder_spec.specs.inner.Kept.{Fitting}
use Rattle.h5_builder_spec.specs.modes.Tables.{foster}
use Rattle.h5_builder_spec.specs.World.{World}
use Rattle.h5_builder_laws.proofs.cuts.CutLaws.{by_foreign, by_mode, text_cut}
use Rattle.h5_builder_laws.proofs.modes.ForeignRowLaws.{dispatch_foreign}
use Rattle.h5_builder_laws.proofs.cuts.ForeignTextLaws.{kept_back_foreign}
use Rattle.h5_builder_laws.proofs.turns.SettleLaws.{settle-text-row, settle-text-turn}
use Rattle.h5_builder_laws.proofs.CutGoesLaws.{body_mode}

blank_all : (t : List ℕ) → rest_of t ≡ [] → blanks_of t ≡ t
blank_all [] e = refl
blank_all (b ∷ t) e = (elim (is_blank b) as (λ v. cond v (rest_of t) (b ∷ t) ≡ [] → cond v (b ∷ blanks_of t) [] ≡ b ∷ t) [ true ↦ λ h. ap (λ x. b ∷ x) (blank_all t h) | false ↦ λ h. cc ]) e

blanks_all : (t : List ℕ) → rest_of t ≡ [] → all_blanks t ≡ t
blanks_all [] e = refl
blanks_all (b ∷ t) e = (elim (is_blank b) as (λ v. cond v (rest_of t) (b ∷ t) ≡ [] → cond v (b ∷ all_blanks t) (all_blanks t) ≡ b ∷ t) [ true ↦ λ h. ap (λ x. b ∷ x) (blanks_all t h) | false ↦ λ h. absurd (cc) ]) e

starts_solid : (b : ℕ) (t : List ℕ) → all_blanks (b ∷ t) ≡ [] → is_blank b ≡ false
starts_solid b t e = (elim (is_blank b) as (λ v. cond v (b ∷ all_blanks t) (all_blanks t) ≡ [] → v ≡ false) [ true ↦ λ h. absurd (cc) | false ↦ λ h. refl ]) e

split_blank : (blanks others : List ℕ → World → World) (b : ℕ) (t : List ℕ) (w : World) → rest_of (b ∷ t) ≡ [] → split blanks others (b ∷ t) w ≡ blanks (b ∷ t) w
split_blank blanks others b t w e = ap (λ x. if_any others x (if_any blanks (blanks_of (b ∷ t)) w)) e ∙ ap (λ x. if_any blanks x w) (blank_all (b ∷ t) e)

split_solid : (blanks others : List ℕ → World → World) (b : ℕ) (t : List ℕ) (w : World) → is_blank b ≡ false → split blanks others (b ∷ t) w ≡ others (b ∷ t) w
split_solid blanks others b t w e = ap (λ v. if_any others (cond v (rest_of t) (b ∷ t)) (if_any blanks (cond v (b ∷ blanks_of t) []) w)) e

module _ (choices : SinkChoices) (s : SplitStatus) (b : ℕ) (t : List ℕ) where
  abbrev Meets : InsertionMode → Type 0
  Meets m = (w : World) → is_foreign_text choices w ≡ false → w.mode ≡ m → (settle choices (TextTurn s (b ∷ t)) w).world ≡ text_in m choices (b ∷ t) w

  abbrev T : TurnText
  T = TextTurn s (b ∷ t)

  -- whether a text is foreign is asked of all texts alike
  same_question : (w : World) → is_foreign choices T w ≡ is_foreign_text choices w
  unfolding is_foreign
  same_question w = at (adjusted_current_node w)
    where
      at : (o : Option ℕ) → is_foreign_at choices T w.forest o ≡ is_foreign_at choices (TextTurn NotSplit []) w.forest o
      at None = refl
      at (Some n) = refl

  -- one that is has one turn
  in_foreign : (w : World) → is_foreign_text choices w ≡ true → settle choices T w ≡ ends_with T (foreign_text_row (b ∷ t)) (foreign_text (b ∷ t) w)
  in_foreign w h =
      settle-text-turn choices T w refl
      ∙ ap (λ r. by_row choices (settle choices T) T r w) (dispatch_foreign choices T w (same_question w ∙ h))

  -- the rule of a mode, where the text isn't foreign, gives the rule wherever it is
  anywhere : (m : InsertionMode) → Meets m → (w : World) → w.mode ≡ m → (settle choices T w).world ≡ unless_foreign choices (text_in m choices) (b ∷ t) w
  anywhere m meets w e = at (is_foreign_text choices w) refl
    where
      at : (c : Bool) → is_foreign_text choices w ≡ c → (settle choices T w).world ≡ cond c (foreign_text (b ∷ t) w) (text_in m choices (b ∷ t) w)
      at true h = ap (λ (x : Settled). x.world) (in_foreign w h)
      at false h = meets w h e

  -- a turn that is the last, and one that isn't
  ends : (m : InsertionMode) (w : World) (r : Row) → is_foreign_text choices w ≡ false → w.mode ≡ m → rule m T w ≡ r → next_mode r.ending (changed_by choices r w) ≡ None → (settle choices T w).world ≡ changed_by choices r w
  ends m w r h e f d =
      ap (λ (x : Settled). x.world) (settle-text-row choices T w m r refl (same_question w ∙ h) e f)
      ∙ ap (λ o. (then_turns (settle choices T) T r (changed_by choices r w) o).world) d

  goes_on : (m k : InsertionMode) (w : World) (r : Row) → is_foreign_text choices w ≡ false → w.mode ≡ m → rule m T w ≡ r → next_mode r.ending (changed_by choices r w) ≡ Some k → (settle choices T w).world ≡ (settle choices T (set_mode k (changed_by choices r w))).world
  goes_on m k w r h e f d =
      ap (λ (x : Settled). x.world) (settle-text-row choices T w m r refl (same_question w ∙ h) e f)
      ∙ ap (λ o. (then_turns (settle choices T) T r (changed_by choices r w) o).world) d

  blank_meets : (m : InsertionMode) (blanks others : List ℕ → World → World) (r : World → Row) → rest_of (b ∷ t) ≡ [] → ((w : World) → rule m T w ≡ r w) → ((w : World) → next_mode (r w).ending (changed_by choices (r w) w) ≡ None)
      → ((w : World) → changed_by choices (r w) w ≡ blanks (b ∷ t) w) → ((w : World) → text_in m choices (b ∷ t) w ≡ split blanks others (b ∷ t) w) → Meets m
  blank_meets m blanks others r blank f d does is w h e = ends m w (r w) h e (f w) (d w) ∙ does w ∙ sym (is w ∙ split_blank blanks others b t w blank)

  -- by "anything else", which leads to one mode
  solid_meets : (m k : InsertionMode) (blanks : List ℕ → World → World) (r : TurnText → World → Row) → is_blank b ≡ false → ((w : World) → rule m T w ≡ r (TextTurn NotWhitespace (b ∷ t)) w)
      → ((w : World) → next_mode (r (TextTurn NotWhitespace (b ∷ t)) w).ending (changed_by choices (r (TextTurn NotWhitespace (b ∷ t)) w) w) ≡ Some k) → Meets k
      → ((w : World) → text_in m choices (b ∷ t) w ≡ split blanks (by_else choices r (text_in k choices)) (b ∷ t) w) → Meets m
  solid_meets m k blanks r solid f d next is w h e =
      let x = r (TextTurn NotWhitespace (b ∷ t)) w in
      let v = changed_by choices x w in
      goes_on m k w x h e (f w) (d w) ∙ anywhere k next (set_mode k v) refl
      ∙ sym (is w ∙ split_solid blanks (by_else choices r (text_in k choices)) b t w solid ∙ ap (λ o. unless_foreign choices (text_in k choices) (b ∷ t) (in_next o v)) (d w))

  -- by the rule of the body
  by_body_meets : (m : InsertionMode) → ((w : World) → rule m T w ≡ in_body_text (b ∷ t) w) → ((w : World) → text_in m choices (b ∷ t) w ≡ text_in_body choices (b ∷ t) w) → Meets m
  unfolding text_in_body
  by_body_meets m f is w h e = ends m w (in_body_text (b ∷ t) w) h e (f w) refl ∙ sym (is w)

  whole_in_body : ((w : World) → rule InBody T w ≡ in_body_text (b ∷ t) w) → Meets InBody
  whole_in_body f = by_body_meets InBody f (λ w. refl)

  -- buffered, if texts of a table are
  kept_meets : Meets InTableText
  kept_meets w h e = ends InTableText w (row (AppendPendingText (b ∷ t) ∷ []) IsDone) h e refl refl

  -- in a text it is appended
  text_meets : Meets Text
  text_meets w h e = ends Text w (row (AppendText (b ∷ t) ∷ []) IsDone) h e refl refl

  text_quiet : (w : World) → is_foreign_text choices w ≡ false → w.mode ≡ Text → (settle choices T w).quiet ≡ true
  text_quiet w h e = ap (λ (x : Settled). x.quiet) (settle-text-row choices T w Text (row (AppendText (b ∷ t) ∷ []) IsDone) refl (same_question w ∙ h) e refl)

  -- in a table, a row group and a row: buffered in two turns, or fostered in one
  table_meets : (m : InsertionMode) → ((w : World) → rule m T w ≡ in_table_text_or_null T w) → ((w : World) → text_in m choices (b ∷ t) w ≡ text_in_table choices (b ∷ t) w) → Meets m
  unfolding in_table_text_or_null text_in_table text_in_body
  table_meets m f is w h e = at (keeps_text w) (f w) (is w)
    where
      at : (o : Bool) → rule m T w ≡ choose o (row (SaveMode ∷ []) (Again InTableText)) (foster in_body T w)
          → text_in m choices (b ∷ t) w ≡ cond o (text_in_table_text (b ∷ t) (set_mode InTableText (save_mode w))) (fostered_text choices (b ∷ t) w)
          → (settle choices T w).world ≡ text_in m choices (b ∷ t) w
      at true g i = goes_on m InTableText w (row (SaveMode ∷ []) (Again InTableText)) h e g refl ∙ kept_meets (set_mode InTableText (save_mode w)) (kept_back_foreign choices InTableText w ∙ h) refl ∙ sym i
      at false g i = ends m w (foster in_body T w) h e g refl ∙ sym i

  -- in and after framesets blanks alone
  blanks_meet : (m : InsertionMode) (f : List ℕ → World → World) (r : World → Row) → all_blanks (b ∷ t) ≡ b ∷ t → ((w : World) → rule m T w ≡ r w) → ((w : World) → next_mode (r w).ending (changed_by choices (r w) w) ≡ None)
      → ((w : World) → changed_by choices (r w) w ≡ f (b ∷ t) w) → ((w : World) → text_in m choices (b ∷ t) w ≡ if_any f (all_blanks (b ∷ t)) w) → Meets m
  blanks_meet m f r blank g d does is w h e = ends m w (r w) h e (g w) (d w) ∙ does w ∙ sym (is w ∙ ap (λ x. if_any f x w) blank)

  others_meet : (m : InsertionMode) (f : List ℕ → World → World) → all_blanks (b ∷ t) ≡ [] → ((w : World) → rule m T w ≡ ignored) → ((w : World) → text_in m choices (b ∷ t) w ≡ if_any f (all_blanks (b ∷ t)) w) → Meets m
  others_meet m f none g is w h e = ends m w ignored h e (g w) refl ∙ sym (is w ∙ ap (λ x. if_any f x w) none)

  -- in the body, a caption and a cell no error is reported
  by_body_quiet : (m : InsertionMode) → ((w : World) → rule m T w ≡ in_body_text (b ∷ t) w) → (w : World) → is_foreign_text choices w ≡ false → w.mode ≡ m → (settle choices T w).quiet ≡ true
  by_body_quiet m f w h e = ap (λ (x : Settled). x.quiet) (settle-text-row choices T w m (in_body_text (b ∷ t) w) refl (same_question w ∙ h) e (f w))

  run_quiet : (m : InsertionMode) → is_quiet_text m ≡ true → (w : World) → is_foreign_text choices w ≡ false → w.mode ≡ m → (settle choices T w).quiet ≡ true
  run_quiet InBody q = by_body_quiet InBody (λ v. refl)
  run_quiet InCaption q = by_body_quiet InCaption (λ v. refl)
  run_quiet InCell q = by_body_quiet InCell (λ v. refl)
  run_quiet InTemplate q = by_body_quiet InTemplate (λ v. refl)
  run_quiet Text q = text_quiet
  run_quiet _ q = absurd (cc)

  -- nor in foreign content
  quiet_anywhere : (w : World) → is_quiet_text w.mode ≡ true → (settle choices T w).quiet ≡ true
  quiet_anywhere w q = at (is_foreign_text choices w) refl
    where
      at : (c : Bool) → is_foreign_text choices w ≡ c → (settle choices T w).quiet ≡ true
      at true h = ap (λ (x : Settled). x.quiet) (in_foreign w h)
      at false h = run_quiet w.mode q w h refl

module _ (choices : SinkChoices) (b : ℕ) (t : List ℕ) where
  abbrev S : TurnText
  S = TextTurn NotWhitespace (b ∷ t)

  -- in a column group blanks are appended
  blank_column_group : rest_of (b ∷ t) ≡ [] → Meets choices Whitespace b t InColumnGroup
  unfolding text_in_column_group
  blank_column_group r w f e = at (current_is (codes "colgroup") w) refl
    where
      done : (settle choices (TextTurn Whitespace (b ∷ t)) w).world ≡ append_text (b ∷ t) w
      done = ends choices Whitespace b t InColumnGroup w (row (AppendText (b ∷ t) ∷ []) IsDone) f e refl refl

      at : (o : Bool) → current_is (codes "colgroup") w ≡ o → (settle choices (TextTurn Whitespace (b ∷ t)) w).world ≡ text_in_column_group choices (b ∷ t) w
      at true h =
          done
          ∙ sym (ap (λ v. cond v (closes_column_group choices (b ∷ t) w) (if_any append_text (all_blanks (b ∷ t)) w)) h
          ∙ split_blank append_text (by_else choices in_column_group_else (text_in_table choices)) b t w r)
      at false h =
          done
          ∙ sym (ap (λ v. cond v (closes_column_group choices (b ∷ t) w) (if_any append_text (all_blanks (b ∷ t)) w)) h
          ∙ ap (λ x. if_any append_text x w) (blanks_all (b ∷ t) r))

  -- blanks that are dropped, appended, and put into the body
  blank_run : (m : InsertionMode) → rest_of (b ∷ t) ≡ [] → Meets choices Whitespace b t m
  unfolding text_initial text_before_html text_before_head text_in_head text_in_head_noscript text_after_head text_after_body text_in_body
  blank_run Initial r = blank_meets choices Whitespace b t Initial dropped (by_else choices initial_else (text_before_html choices)) (λ w. row [] IsDone) r (λ w. refl) (λ w. refl) (λ w. refl) (λ w. refl)
  blank_run BeforeHtml r = blank_meets choices Whitespace b t BeforeHtml dropped (by_else choices before_html_else (text_before_head choices)) (λ w. row [] IsDone) r (λ w. refl) (λ w. refl) (λ w. refl) (λ w. refl)
  blank_run BeforeHead r = blank_meets choices Whitespace b t BeforeHead dropped (by_else choices before_head_else (text_in_head choices)) (λ w. row [] IsDone) r (λ w. refl) (λ w. refl) (λ w. refl) (λ w. refl)
  blank_run InHead r = blank_meets choices Whitespace b t InHead append_text (by_else choices in_head_else (text_after_head choices)) (λ w. row (AppendText (b ∷ t) ∷ []) IsDone) r (λ w. refl) (λ w. refl) (λ w. refl) (λ w. refl)
  blank_run InHeadNoscript r = blank_meets choices Whitespace b t InHeadNoscript append_text (by_else choices in_head_noscript_else (text_in_head choices)) (λ w. row (AppendText (b ∷ t) ∷ []) IsDone) r (λ w. refl) (λ w. refl) (λ w. refl) (λ w. refl)
  blank_run Text r = text_meets choices Whitespace b t
  blank_run AfterHead r = blank_meets choices Whitespace b t AfterHead append_text (by_else choices after_head_else (text_in_body choices)) (λ w. row (AppendText (b ∷ t) ∷ []) IsDone) r (λ w. refl) (λ w. refl) (λ w. refl) (λ w. refl)
  blank_run InBody r = whole_in_body choices Whitespace b t (λ w. refl)
  blank_run InTable r = table_meets choices Whitespace b t InTable (λ w. refl) (λ w. refl)
  blank_run InTableText r = kept_meets choices Whitespace b t
  blank_run InCaption r = by_body_meets choices Whitespace b t InCaption (λ w. refl) (λ w. refl)
  blank_run InColumnGroup r = blank_column_group r
  blank_run InTableBody r = table_meets choices Whitespace b t InTableBody (λ w. refl) (λ w. refl)
  blank_run InRow r = table_meets choices Whitespace b t InRow (λ w. refl) (λ w. refl)
  blank_run InCell r = by_body_meets choices Whitespace b t InCell (λ w. refl) (λ w. refl)
  blank_run AfterBody r = blank_meets choices Whitespace b t AfterBody (text_in_body choices) (by_else choices back_to_body (text_in_body choices)) (in_body_text (b ∷ t)) r (λ w. refl) (λ w. refl) (λ w. refl) (λ w. refl)
  blank_run AfterAfterBody r = blank_meets choices Whitespace b t AfterAfterBody (text_in_body choices) (by_else choices back_to_body (text_in_body choices)) (in_body_text (b ∷ t)) r (λ w. refl) (λ w. refl) (λ w. refl) (λ w. refl)
  blank_run InTemplate r = by_body_meets choices Whitespace b t InTemplate (λ w. refl) (λ w. refl)
  blank_run InFrameset r = blanks_meet choices Whitespace b t InFrameset append_text (λ w. row (AppendText (b ∷ t) ∷ []) IsDone) (blanks_all (b ∷ t) r) (λ w. refl) (λ w. refl) (λ w. refl) (λ w. refl)
  blank_run AfterFrameset r = blanks_meet choices Whitespace b t AfterFrameset append_text (λ w. row (AppendText (b ∷ t) ∷ []) IsDone) (blanks_all (b ∷ t) r) (λ w. refl) (λ w. refl) (λ w. refl) (λ w. refl)
  blank_run AfterAfterFrameset r = blanks_meet choices Whitespace b t AfterAfterFrameset (text_in_body choices) (in_body_text (b ∷ t)) (blanks_all (b ∷ t) r) (λ w. refl) (λ w. refl) (λ w. refl) (λ w. refl)

  solid_back : (m : InsertionMode) → is_blank b ≡ false → ((w : World) → rule m S w ≡ back_to_body S w) → ((w : World) → text_in m choices (b ∷ t) w ≡ split (text_in_body choices) (by_else choices back_to_body (text_in_body choices)) (b ∷ t) w) → Meets choices NotWhitespace b t m
  solid_back m n f is = solid_meets choices NotWhitespace b t m InBody (text_in_body choices) back_to_body n f (λ w. refl) (whole_in_body choices NotWhitespace b t (λ w. refl)) is

  solid_after_head : is_blank b ≡ false → Meets choices NotWhitespace b t AfterHead
  unfolding text_after_head
  solid_after_head n = solid_meets choices NotWhitespace b t AfterHead InBody append_text after_head_else n (λ w. refl) (λ w. refl) (whole_in_body choices NotWhitespace b t (λ w. refl)) (λ w. refl)

  solid_in_head : is_blank b ≡ false → Meets choices NotWhitespace b t InHead
  unfolding text_in_head
  solid_in_head n = solid_meets choices NotWhitespace b t InHead AfterHead append_text in_head_else n (λ w. refl) (λ w. refl) (solid_after_head n) (λ w. refl)

  solid_in_head_noscript : is_blank b ≡ false → Meets choices NotWhitespace b t InHeadNoscript
  unfolding text_in_head_noscript
  solid_in_head_noscript n = solid_meets choices NotWhitespace b t InHeadNoscript InHead append_text in_head_noscript_else n (λ w. refl) (λ w. refl) (solid_in_head n) (λ w. refl)

  solid_before_head : is_blank b ≡ false → Meets choices NotWhitespace b t BeforeHead
  unfolding text_before_head
  solid_before_head n = solid_meets choices NotWhitespace b t BeforeHead InHead dropped before_head_else n (λ w. refl) (λ w. refl) (solid_in_head n) (λ w. refl)

  solid_before_html : is_blank b ≡ false → Meets choices NotWhitespace b t BeforeHtml
  unfolding text_before_html
  solid_before_html n = solid_meets choices NotWhitespace b t BeforeHtml BeforeHead dropped before_html_else n (λ w. refl) (λ w. refl) (solid_before_head n) (λ w. refl)

  initial_again : (w : World) → next_mode (initial_else S w).ending (changed_by choices (initial_else S w) w) ≡ Some BeforeHtml
  unfolding initial_else
  initial_again w = elim w.options.iframe_srcdoc as (λ v. next_mode (choose v _ _).ending (changed_by choices (choose v _ _) w) ≡ Some BeforeHtml) [ true ↦ refl | false ↦ refl ]

  solid_initial : is_blank b ≡ false → Meets choices NotWhitespace b t Initial
  unfolding text_initial
  solid_initial n = solid_meets choices NotWhitespace b t Initial BeforeHtml dropped initial_else n (λ w. refl) initial_again (solid_before_html n) (λ w. refl)

  -- what isn't blank closes the column group that is the current node, and is dropped in any other
  solid_column_group : is_blank b ≡ false → all_blanks (b ∷ t) ≡ [] → Meets choices NotWhitespace b t InColumnGroup
  unfolding text_in_column_group close_the_column_group
  solid_column_group n s w f e = at (current_is (codes "colgroup") w) refl
    where
      by_colgroup : (o : Bool) → current_is (codes "colgroup") w ≡ o → rule InColumnGroup S w ≡ choose o (row (Pop ∷ []) (Again InTable)) ignored
      by_colgroup o h = ap (λ v. choose v (row (Pop ∷ []) (Again InTable)) ignored) h

      at : (o : Bool) → current_is (codes "colgroup") w ≡ o → (settle choices S w).world ≡ text_in_column_group choices (b ∷ t) w
      at true h =
          goes_on choices NotWhitespace b t InColumnGroup InTable w (row (Pop ∷ []) (Again InTable)) f e (by_colgroup true h) refl
          ∙ anywhere choices NotWhitespace b t InTable (table_meets choices NotWhitespace b t InTable (λ v. refl) (λ v. refl)) (set_mode InTable (pop choices w)) refl
          ∙ sym (ap (λ v. cond v (closes_column_group choices (b ∷ t) w) (if_any append_text (all_blanks (b ∷ t)) w)) h
          ∙ split_solid append_text (by_else choices in_column_group_else (text_in_table choices)) b t w n
          ∙ ap (λ v. unless_foreign choices (text_in_table choices) (b ∷ t) (after_row choices (choose v (row (Pop ∷ []) (Again InTable)) ignored) w)) h)
      at false h =
          ends choices NotWhitespace b t InColumnGroup w ignored f e (by_colgroup false h) refl
          ∙ sym (ap (λ v. cond v (closes_column_group choices (b ∷ t) w) (if_any append_text (all_blanks (b ∷ t)) w)) h
          ∙ ap (λ x. if_any append_text x w) s)

  solid_run : (m : InsertionMode) → is_blank b ≡ false → all_blanks (b ∷ t) ≡ [] → Meets choices NotWhitespace b t m
  unfolding text_after_body
  solid_run Initial n s = solid_initial n
  solid_run BeforeHtml n s = solid_before_html n
  solid_run BeforeHead n s = solid_before_head n
  solid_run InHead n s = solid_in_head n
  solid_run InHeadNoscript n s = solid_in_head_noscript n
  solid_run Text n s = text_meets choices NotWhitespace b t
  solid_run AfterHead n s = solid_after_head n
  solid_run InBody n s = whole_in_body choices NotWhitespace b t (λ w. refl)
  solid_run InTable n s = table_meets choices NotWhitespace b t InTable (λ w. refl) (λ w. refl)
  solid_run InTableText n s = kept_meets choices NotWhitespace b t
  solid_run InCaption n s = by_body_meets choices NotWhitespace b t InCaption (λ w. refl) (λ w. refl)
  solid_run InColumnGroup n s = solid_column_group n s
  solid_run InTableBody n s = table_meets choices NotWhitespace b t InTableBody (λ w. refl) (λ w. refl)
  solid_run InRow n s = table_meets choices NotWhitespace b t InRow (λ w. refl) (λ w. refl)
  solid_run InCell n s = by_body_meets choices NotWhitespace b t InCell (λ w. refl) (λ w. refl)
  solid_run AfterBody n s = solid_back AfterBody n (λ w. refl) (λ w. refl)
  solid_run AfterAfterBody n s = solid_back AfterAfterBody n (λ w. refl) (λ w. refl)
  solid_run InTemplate n s = by_body_meets choices NotWhitespace b t InTemplate (λ w. refl) (λ w. refl)
  solid_run InFrameset n s = others_meet choices NotWhitespace b t InFrameset append_text s (λ w. refl) (λ w. refl)
  solid_run AfterFrameset n s = others_meet choices NotWhitespace b t AfterFrameset append_text s (λ w. refl) (λ w. refl)
  solid_run AfterAfterFrameset n s = others_meet choices NotWhitespace b t AfterAfterFrameset (text_in_body choices) s (λ w. refl) (λ w. refl)

  whole_run : (m : InsertionMode) → IsRun m false NotSplit (b ∷ t) → Meets choices NotSplit b t m
  whole_run Initial n = absurd (cc)
  whole_run BeforeHtml n = absurd (cc)
  whole_run BeforeHead n = absurd (cc)
  whole_run InHead n = absurd (cc)
  whole_run InHeadNoscript n = absurd (cc)
  whole_run Text n = text_meets choices NotSplit b t
  whole_run AfterHead n = absurd (cc)
  whole_run InBody n = whole_in_body choices NotSplit b t (λ w. refl)
  whole_run InTable n = table_meets choices NotSplit b t InTable (λ w. refl) (λ w. refl)
  whole_run InTableText n = kept_meets choices NotSplit b t
  whole_run InCaption n = by_body_meets choices NotSplit b t InCaption (λ w. refl) (λ w. refl)
  whole_run InColumnGroup n = absurd (cc)
  whole_run InTableBody n = table_meets choices NotSplit b t InTableBody (λ w. refl) (λ w. refl)
  whole_run InRow n = table_meets choices NotSplit b t InRow (λ w. refl) (λ w. refl)
  whole_run InCell n = by_body_meets choices NotSplit b t InCell (λ w. refl) (λ w. refl)
  whole_run AfterBody n = absurd (cc)
  whole_run AfterAfterBody n = absurd (cc)
  whole_run InTemplate n = by_body_meets choices NotSplit b t InTemplate (λ w. refl) (λ w. refl)
  whole_run InFrameset n = absurd (cc)
  whole_run AfterFrameset n = absurd (cc)
  whole_run AfterAfterFrameset n = absurd (cc)

  html_run_meets : (s : SplitStatus) (w : World) → is_foreign_text choices w ≡ false → IsRun w.mode false s (b ∷ t) → (settle choices (TextTurn s (b ∷ t)) w).world ≡ text_in w.mode choices (b ∷ t) w
  html_run_meets Whitespace w f h = blank_run w.mode h w f refl
  html_run_meets NotWhitespace w f h = solid_run w.mode (starts_solid b t h) h w f refl
  html_run_meets NotSplit w f h = whole_run w.mode h w f refl

  run_meets : (s : SplitStatus) (w : World) → IsRun w.mode (is_foreign_text choices w) s (b ∷ t) → (settle choices (TextTurn s (b ∷ t)) w).world ≡ text_rule choices (b ∷ t) w
  run_meets s w = at (is_foreign_text choices w) refl
    where
      at : (c : Bool) → is_foreign_text choices w ≡ c → IsRun w.mode c s (b ∷ t) → (settle choices (TextTurn s (b ∷ t)) w).world ≡ cond c (foreign_text (b ∷ t) w) (text_in w.mode choices (b ∷ t) w)
      at true f h = ap (λ (x : Settled). x.world) (in_foreign choices s b t w f)
      at false f h = html_run_meets s w f h

-- the chain of a run
pub run_is : (choices : SinkChoices) (s : SplitStatus) (run : List ℕ) (w v : World) → run ≢ [] → IsRun w.mode (is_foreign_text choices w) s run → v ≡ (settle choices (TextTurn s run) w).world → v ≡ text_any choices run w
run_is choices s [] w v some r f = absurd (some refl)
run_is choices s (b ∷ x) w v some r f = f ∙ run_meets choices b x s w r

pub run_is_quiet : (choices : SinkChoices) (s : SplitStatus) (run : List ℕ) (w : World) → run ≢ [] → is_quiet_text w.mode ≡ true → (settle choices (TextTurn s run) w).quiet ≡ true
run_is_quiet choices s [] w some q = absurd (some refl)
run_is_quiet choices s (b ∷ x) w some q = quiet_anywhere choices s b x w q

then_rest : (choices : SinkChoices) (b : ℕ) (x y : List ℕ) (w v : World) → Fitting w → v ≡ text_rule choices (b ∷ x) w → text_any choices y v ≡ text_rule choices ((b ∷ x) ++ y) w
then_rest choices b x [] w v k e = e ∙ ap (λ z. text_rule choices z w) (sym (append-nil (b ∷ x)))
then_rest choices b x (d ∷ u) w v k e = ap (λ z. text_rule choices (d ∷ u) z) e ∙ sym (text_cut choices b x d u w k)

-- after a run, what is left goes on
pub run_then_rest : (choices : SinkChoices) (text : List ℕ) (n : ℕ) (w v : World) → Fitting w → 0 < n → text ≢ [] → v ≡ text_any choices (take n text) w → text_any choices (drop n text) v ≡ text_any choices text w
run_then_rest choices [] n w v k p some f = absurd (some refl)
run_then_rest choices (b ∷ t) zero w v k p some f = absurd (omega arith)
run_then_rest choices (b ∷ t) (suc n) w v k p some f = then_rest choices b (take n t) (drop n t) w v k f ∙ ap (λ z. text_rule choices (b ∷ z) w) (take-append-drop n t)

-- a text in the body, a caption, a cell, a template and a text leaves the mode, as it does in foreign content
pub mode_stays : (choices : SinkChoices) (run : List ℕ) (w v : World) → is_quiet_text w.mode ≡ true → v ≡ text_any choices run w → is_quiet_text v.mode ≡ true
unfolding append_text set_frameset_ok_by_text
mode_stays choices [] w v q f = ap (λ (x : World). is_quiet_text x.mode) f ∙ q
mode_stays choices (b ∷ t) w v q f = ap (λ (x : World). is_quiet_text x.mode) f ∙ at (is_foreign_text choices w) refl
  where
    by_body : text_rule choices (b ∷ t) w ≡ text_in_body choices (b ∷ t) w → is_quiet_text (text_rule choices (b ∷ t) w).mode ≡ true
    by_body h = ap (λ (x : World). is_quiet_text x.mode) h ∙ ap is_quiet_text (body_mode choices (b ∷ t) w) ∙ q

    stays : (m : InsertionMode) → is_foreign_text choices w ≡ false → w.mode ≡ m → is_quiet_text m ≡ true → is_quiet_text (text_rule choices (b ∷ t) w).mode ≡ true
    stays InBody h e k = by_body (by_mode choices InBody (b ∷ t) w h e)
    stays InCaption h e k = by_body (by_mode choices InCaption (b ∷ t) w h e)
    stays InCell h e k = by_body (by_mode choices InCell (b ∷ t) w h e)
    stays InTemplate h e k = by_body (by_mode choices InTemplate (b ∷ t) w h e)
    stays Text h e k = ap (λ (x : World). is_quiet_text x.mode) (by_mode choices Text (b ∷ t) w h e) ∙ q
    stays _ h e k = absurd (cc)

    at : (c : Bool) → is_foreign_text choices w ≡ c → is_quiet_text (text_rule choices (b ∷ t) w).mode ≡ true
    at true h = ap (λ (x : World). is_quiet_text x.mode) (by_foreign choices (b ∷ t) w h) ∙ q
    at false h = stays w.mode h refl q
