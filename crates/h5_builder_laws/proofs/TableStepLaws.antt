-- What a tag of a table does in its mode.
use Rattle.std.proofs.Common.{◌≡◌, ◌∙◌, ℕ, Bool, true, false, cond, List, [], ◌∷◌, map, codes, refl, ap, Option, None, subst, sym, ◌&&◌}
use Rattle.h5_names.specs.AttributeText.{AttributeText}
use Rattle.h5_names.specs.declared.qualified.QualName.{QualName}
use Rattle.h5_interface.specs.Changes.{mark, append_text as append_text_to}
use Rattle.h5_interface.specs.Forest.{Forest, IsForest, Marks, ChildText}
use Rattle.h5_interface.specs.SinkChoices.{SinkChoices}
use Rattle.h5_interface.proofs.MakingLaws.{mark_rearranges}
use Rattle.h5_tables.specs.TagSets.{html_namespace, is_html_named, is_implied, is_table_body_context, is_table_row_context, is_table_scope, table_row_context_names}
use Rattle.h5_tables.specs.TurnText.{TagTurn, TextTurn}
use Rattle.h5_tables.specs.declared.modes.InsertionMode.{InsertionMode}
use Rattle.h5_tables.specs.declared.modes.InsertionMode.TheVariants.{InCaption, InCell, InColumnGroup, InRow, InTable, InTableBody}
use Rattle.h5_builder_spec.specs.modes.InCaption.{close_the_caption}
use Rattle.h5_builder_spec.specs.modes.InColumnGroup.{close_the_column_group, in_column_group_else}
use Rattle.h5_builder_spec.specs.insertion.Place.{place, put}
use Rattle.h5_token.specs.TokenText.{Characters}
use Rattle.h5_tables.specs.declared.modes.SplitStatus.TheVariants.{NotSplit}
use Rattle.h5_builder_spec.specs.Blanks.{all_blank, blanks_of, is_blank, rest_of}
use Rattle.h5_builder_spec.specs.Changes.{append_text, insert_and_pop_element, insert_element, new_element, pop, pop_until_current, pop_until_named, set_frameset_not_ok, set_mode}
use Rattle.h5_builder_spec.specs.Run.{step, taken, text_step, without_lf}
use Rattle.h5_builder_spec.specs.Text.{all_blanks, by_else, closes_column_group, if_any, text_in_column_group, text_in_table, text_rule}
use Rattle.h5_builder_laws.proofs.cuts.CutLaws.{by_mode}
use Rattle.h5_builder_laws.proofs.cuts.RunLaws.{taken_same, takes_text}
use Rattle.h5_builder_laws.proofs.modes.ForeignModeLaws.{html_not_foreign}
use Rattle.h5_builder_spec.specs.formatting.FormattingList.{Entry, MarkerEntry, clear_to_marker}
use Rattle.h5_builder_spec.specs.formatting.FormattingNames.{html_name}
use Rattle.h5_builder_spec.specs.reset.Roles.{Role}
use Rattle.h5_builder_spec.specs.Sound.{role_at}
use Rattle.h5_builder_spec.specs.stack.Order.{but_first}
use Rattle.h5_builder_spec.specs.stack.Scope.{cut_above, first_passes, has_p_in_button_scope, in_scope, later_names}
use Rattle.h5_builder_spec.specs.formatting.Formatting.{clear_active_formatting_to_marker, insert_marker}
use Rattle.h5_builder_spec.specs.modes.InBody.{in_body_start_table, is_quirks}
use Rattle.h5_builder_spec.specs.modes.InCell.{in_cell_end_cell}
use Rattle.h5_builder_spec.specs.modes.InRow.{close_the_row}
use Rattle.h5_builder_spec.specs.modes.InTable.{in_table_end_table}
use Rattle.h5_builder_spec.specs.modes.InTableBody.{in_table_body_end_section}
use Rattle.h5_builder_spec.specs.modes.Modes.{rule}
use Rattle.h5_builder_spec.specs.reset.Reset.{reset_mode}
use Rattle.h5_builder_spec.specs.Rows.{Change, ClearActiveFormattingToMarker, ClosePElementInButtonScope, GenerateImpliedEnd, InsertAndPopElement, InsertElement, InsertMarker, IsDone, Pop, PopUntilCurrent, PopUntilNamed, ResetMode, SetFramesetNotOk, SetMode, choose, ignored, row, row_if}
use Rattle.h5_builder_spec.specs.World.{World, current, name_in, names_of}
use Rattle.h5_builder_spec.proofs.changes.PopLaws.{all_implied_none}
use Rattle.h5_builder_laws.specs.Plain.{end_tag, start_tag}
use Rattle.h5_builder_laws.proofs.BodyRuleLaws.{IsHolder}
use Rattle.h5_builder_laws.proofs.BodyStepLaws.{cut_at, insert_is, no_p, none_closed}
use Rattle.h5_builder_laws.proofs.CalmLaws.{Calm, after, calm_html, names_are, opened, place_is, unowned}
use Rattle.h5_builder_laws.proofs.GrowthLaws.{with_element}
use Rattle.h5_builder_laws.proofs.FilledLaws.{Face, SameFaces, same_faces}
use Rattle.h5_builder_laws.proofs.GoesLaws.{Moves, Takes, moves_acknowledged, moves_row}
use Rattle.h5_builder_laws.proofs.HtmlLaws.{AtHtml}
use Rattle.h5_builder_laws.proofs.ListedLaws.{AtMarker, Bottom, OpenFormat}
use Rattle.h5_builder_laws.proofs.LooksLaws.{looks_marked}
use Rattle.h5_builder_laws.proofs.ModeLaws.{GoesByBody, ResetsTo, resets_in, start_by_body}
use Rattle.h5_builder_laws.proofs.RuleLaws.{end, start}
use Rattle.h5_builder_spec.specs.stack.Expected.{is_expected, is_expected_p}
use Rattle.h5_builder_spec.proofs.changes.ExpectedLaws.{current_expected, no_p_expected}
use Rattle.h5_builder_laws.proofs.TableRuleLaws.{IsCellName, IsPartName, caption, column_rule, group_end_rule, row_end_rule, table_end_rule, table_is_no_part, table_rule}

-- whitespace is its own whitespace prefix
both_true : (c d : Bool) → (c && d) ≡ true → (c ≡ true) × (d ≡ true)
both_true true d h = (refl, h)
both_true false d h = absurd (cc)

blanks_all : (t : List ℕ) → all_blank t ≡ true → blanks_of t ≡ t
blanks_all [] h = refl
blanks_all (b ∷ t) h = let k = both_true (is_blank b) (all_blank t) h in ap (λ x. cond x (b ∷ blanks_of t) []) k.0 ∙ ap (λ l. b ∷ l) (blanks_all t k.1)

rest_none : (t : List ℕ) → all_blank t ≡ true → rest_of t ≡ []
rest_none [] h = refl
rest_none (b ∷ t) h = let k = both_true (is_blank b) (all_blank t) h in ap (λ x. cond x (rest_of t) (b ∷ t)) k.0 ∙ rest_none t k.1

-- where the current node is such a context, nothing is cleared
cut_none : (is : QualName → Bool) (names : List QualName) (s : List ℕ) → first_passes is names ≡ true → cut_above is names s ≡ s
cut_none is [] s h = absurd (cc)
cut_none is (n ∷ ns) s h = ap (λ b. cond b s (cut_above is ns (but_first s))) h

at_context : (is : QualName → Bool) (w : World) → first_passes is (names_of w) ≡ true → pop_until_current is w ≡ w
unfolding pop_until_current
at_context is w h = ap (λ s. let v : World = record w { stack = s } in v) (cut_none is (names_of w) w.stack h)

-- start tags: a new element below the current node, and another mode
module _ (choices : SinkChoices) {at_root : Option Role} {w : World} {p : ℕ} {d : Face} {names : List QualName} {path : List OpenFormat} {under : List ℕ} {base : List Entry} (c : Calm at_root w p d names path under base) where
  here : (is : QualName → Bool) → first_passes is names ≡ true → pop_until_current is w ≡ w
  here is h = at_context is w (ap (first_passes is) (names_are w c.named) ∙ h)

  -- of a `table`, in quirks mode or not
  pub starts_table : (attrs : List AttributeText) → GoesByBody w.mode → has_p_in_button_scope names ≡ false → Moves choices (start_tag (codes "table") attrs) w (opened choices w p (codes "table") attrs InTable w.formatting false)
  unfolding in_body_start_table
  starts_table attrs m h = at (is_quirks w.quirks) refl
    where
      inside : World
      inside = opened choices w p (codes "table") attrs InTable w.formatting false

      opens : List Change
      opens = InsertElement (codes "table") attrs false ∷ SetFramesetNotOk ∷ SetMode InTable ∷ []

      by_rule : rule w.mode (TagTurn (start (codes "table") attrs)) w
          ≡ choose (is_quirks w.quirks) (row opens IsDone) (row_if (is_expected_p (names_of w)) (ClosePElementInButtonScope ∷ opens) IsDone)
      by_rule = start_by_body m (codes "table") attrs w table_is_no_part ∙ table_rule attrs w

      done : set_mode InTable (set_frameset_not_ok (insert_element choices (codes "table") attrs false w)) ≡ inside
      done = ap (λ v. set_mode InTable (set_frameset_not_ok v)) (insert_is choices c (codes "table") attrs)

      at : (b : Bool) → is_quirks w.quirks ≡ b → Moves choices (start_tag (codes "table") attrs) w inside
      at true e =
          moves_row choices (start (codes "table") attrs) w inside w.mode opens refl c.ignore_lf (calm_html c)
          (by_rule ∙ ap (λ b. choose b (row opens IsDone) (row_if (is_expected_p (names_of w)) (ClosePElementInButtonScope ∷ opens) IsDone)) e) refl refl done
      at false e =
          moves_row choices (start (codes "table") attrs) w inside w.mode (ClosePElementInButtonScope ∷ opens) refl c.ignore_lf (calm_html c)
          (by_rule
          ∙ ap (λ b. choose b (row opens IsDone) (row_if (is_expected_p (names_of w)) (ClosePElementInButtonScope ∷ opens) IsDone)) e
          ∙ ap (λ b. row_if b (ClosePElementInButtonScope ∷ opens) IsDone) (no_p_expected (names_of w) (no_p choices c h))) refl refl
          (ap (λ v. set_mode InTable (set_frameset_not_ok (insert_element choices (codes "table") attrs false v))) (none_closed choices c h) ∙ done)

  -- of a `tbody` and a `tr`
  pub starts_part : (name : List ℕ) (attrs : List AttributeText) (m k : InsertionMode) (is : QualName → Bool) → IsHolder name → w.mode ≡ m → first_passes is names ≡ true
      → rule m (TagTurn (start name attrs)) w ≡ row (PopUntilCurrent is ∷ InsertElement name attrs false ∷ SetMode k ∷ []) IsDone
      → Moves choices (start_tag name attrs) w (opened choices w p name attrs k w.formatting w.frameset_ok)
  starts_part name attrs m k is x e h r =
      moves_row choices (start name attrs) w (opened choices w p name attrs k w.formatting w.frameset_ok) m (PopUntilCurrent is ∷ InsertElement name attrs false ∷ SetMode k ∷ []) e c.ignore_lf (calm_html c) r refl x.no_title
      (ap (λ v. set_mode k (insert_element choices name attrs false v)) (here is h) ∙ ap (set_mode k) (insert_is choices c name attrs))

  -- of a cell, before which a marker is listed
  pub starts_cell : (name : List ℕ) (attrs : List AttributeText) → IsCellName name → w.mode ≡ InRow → first_passes is_table_row_context names ≡ true
      → Moves choices (start_tag name attrs) w (opened choices w p name attrs InCell (MarkerEntry ∷ w.formatting) w.frameset_ok)
  unfolding insert_marker
  starts_cell name attrs k e h =
      moves_row choices (start name attrs) w (opened choices w p name attrs InCell (MarkerEntry ∷ w.formatting) w.frameset_ok) InRow
      (PopUntilCurrent is_table_row_context ∷ InsertElement name attrs false ∷ SetMode InCell ∷ InsertMarker ∷ []) e c.ignore_lf (calm_html c) (k.starts attrs w) refl k.holds.no_title
      (ap (λ v. insert_marker (set_mode InCell (insert_element choices name attrs false v))) (here is_table_row_context h)
      ∙ ap (λ v. insert_marker (set_mode InCell v)) (insert_is choices c name attrs))

  -- of a `caption`, before which a marker is listed, too
  calm_marked : Calm at_root (insert_marker w) p d names [] w.stack (MarkerEntry ∷ w.formatting)
  unfolding insert_marker
  calm_marked = record {
    is_forest = c.is_forest;
    ignore_lf = c.ignore_lf;
    is_current = c.is_current;
    shows = c.shows;
    named = c.named;
    no_foster = c.no_foster;
    no_pending = c.no_pending;
    no_form = c.no_form;
    context = c.context;
    root_role = c.root_role;
    no_template = c.no_template;
    is_html = c.is_html;
    are_open = refl;
    is_base = AtMarker;
    entries = Bottom;
    unlisted = c.unlisted;
  }

  pub starts_caption : (attrs : List AttributeText) → w.mode ≡ InTable → first_passes is_table_scope names ≡ true
      → Moves choices (start_tag (codes "caption") attrs) w (opened choices w p (codes "caption") attrs InCaption (MarkerEntry ∷ w.formatting) w.frameset_ok)
  unfolding insert_marker
  starts_caption attrs e h =
      moves_row choices (start (codes "caption") attrs) w (opened choices w p (codes "caption") attrs InCaption (MarkerEntry ∷ w.formatting) w.frameset_ok) InTable
      (PopUntilCurrent is_table_scope ∷ InsertMarker ∷ InsertElement (codes "caption") attrs false ∷ SetMode InCaption ∷ []) e c.ignore_lf (calm_html c) (caption.starts attrs w) refl refl
      (ap (λ v. set_mode InCaption (insert_element choices (codes "caption") attrs false (insert_marker v))) (here is_table_scope h)
      ∙ ap (set_mode InCaption) (insert_is choices calm_marked (codes "caption") attrs))

  -- of a `col`
  column_is : (attrs : List AttributeText) → insert_and_pop_element choices (codes "col") attrs false w ≡ after w (with_element choices p (html_name (codes "col")) attrs w.forest) w.formatting w.frameset_ok w.saved_mode
  unfolding insert_and_pop_element
  column_is attrs =
      ap (λ m. after w (new_element choices (place w) (html_name (codes "col")) attrs false m w.forest) w.formatting w.frameset_ok w.saved_mode) (unowned choices (codes "col") attrs w c.no_form)
      ∙ ap (λ q. after w (new_element choices q (html_name (codes "col")) attrs false None w.forest) w.formatting w.frameset_ok w.saved_mode) (place_is w p d c.is_current c.shows c.no_foster c.no_template)

  pub puts_column : (attrs : List AttributeText) → w.mode ≡ InColumnGroup → Moves choices (start_tag (codes "col") attrs) w (after w (with_element choices p (html_name (codes "col")) attrs w.forest) w.formatting w.frameset_ok w.saved_mode)
  puts_column attrs e =
      moves_acknowledged choices (start (codes "col") attrs) w _ InColumnGroup (InsertAndPopElement (codes "col") attrs false ∷ []) e c.ignore_lf (calm_html c) (column_rule attrs w) refl (column_is attrs)

  -- a blank text in a `colgroup`
  put_is : (t : List ℕ) → append_text t w ≡ after w (append_text_to p t w.forest) w.formatting w.frameset_ok w.saved_mode
  unfolding append_text
  put_is t = ap (λ q. after w (put q (ChildText t) w.forest) w.formatting w.frameset_ok w.saved_mode) (place_is w p d c.is_current c.shows c.no_foster c.no_template)

  pub writes_blank : (b : ℕ) (t : List ℕ) → w.mode ≡ InColumnGroup → first_passes (is_html_named (codes "colgroup")) names ≡ true → all_blank (b ∷ t) ≡ true
      → Takes choices (Characters (b ∷ t)) w (after w (append_text_to p (b ∷ t) w.forest) w.formatting w.frameset_ok w.saved_mode)
  unfolding step text_in_column_group
  writes_blank b t e h k =
      let others : List ℕ → World → World = by_else choices in_column_group_else (text_in_table choices) in
      record {
        world =
            ap (λ l. (text_step choices (without_lf l (b ∷ t)) (taken w)).world) c.ignore_lf
            ∙ ap (text_rule choices (b ∷ t)) (taken_same w c.ignore_lf)
            ∙ by_mode choices InColumnGroup (b ∷ t) w (html_not_foreign choices (TextTurn NotSplit []) w (calm_html c)) e
            ∙ ap (λ x. cond x (closes_column_group choices (b ∷ t) w) (if_any append_text (all_blanks (b ∷ t)) w)) (ap (first_passes (is_html_named (codes "colgroup"))) (names_are w c.named) ∙ h)
            ∙ ap (λ l. if_any others l (if_any append_text (blanks_of (b ∷ t)) w)) (rest_none (b ∷ t) k)
            ∙ ap (λ l. if_any append_text l w) (blanks_all (b ∷ t) k)
            ∙ put_is (b ∷ t);
        reply = ap (λ l. (text_step choices (without_lf l (b ∷ t)) (taken w)).reply) c.ignore_lf;
        accepted = takes_text w.mode (b ∷ t);
      }

-- an end tag: the current node leaves the stack, the mode is another, and marks may change
pub record Ends (choices : SinkChoices) (name : List ℕ) (w : World) (m : InsertionMode) : Type 0 where
  pub forest : Forest
  pub same : SameFaces w.forest forest
  pub moves : Moves choices (end_tag name) w (record w { forest = forest; mode = m; stack = but_first w.stack })

-- marks alone are others
pub same_marked : (f : Forest) (marks : ℕ → Marks) → IsForest f → SameFaces f (mark marks f)
same_marked f marks k =
    let r = mark_rearranges f marks k in
    record { is_forest = r.is_forest; document = r.same_document; kinds = r.same_kind; all = λ n e l. looks_marked f n marks e.kind e.attrs e.children l }

-- the names below the current node's
names_below : (w : World) {name : QualName} {names : List QualName} → names_of w ≡ name ∷ names → names_of (record w { stack = but_first w.stack }) ≡ names
unfolding names_of
names_below w {name} {names} e = at w.stack e
  where
    at : (s : List ℕ) → map (name_in w.forest) s ≡ name ∷ names → map (name_in w.forest) (but_first s) ≡ names
    at [] h = absurd (cc)
    at (n ∷ s) h = ap later_names h

module _ (choices : SinkChoices) (w : World) (names : List QualName) (k : IsForest w.forest) (i : w.ignore_lf ≡ false) (j : AtHtml w) where
  abbrev left : InsertionMode → World
  left m = record w { mode = m; stack = but_first w.stack }

  -- of a `table`: the mode is that of what is below it
  pub ends_table : (o : Option Role) (m : InsertionMode) → role_at w.forest w.context ≡ o → w.mode ≡ InTable → names_of w ≡ html_name (codes "table") ∷ names → ResetsTo o names m → Ends choices (codes "table") w m
  unfolding in_table_end_table is_html_named html_namespace pop_until_named
  ends_table o m x t e r =
      let changes : List Change = PopUntilNamed (codes "table") ∷ ResetMode ∷ [] in
      record {
        forest = w.forest;
        same = same_faces w.forest k;
        moves = moves_row choices (end (codes "table")) w (left m) InTable changes t i j
            (table_end_rule w ∙ ap (λ ns. choose (in_scope (is_html_named (codes "table")) is_table_scope ns) (row changes IsDone) ignored) e) refl refl
            (ap (λ v. set_mode (reset_mode v) v) (cut_at w names (is_html_named (codes "table")) (html_name (codes "table")) e refl)
            ∙ ap left (resets_in (record w { stack = but_first w.stack }) names (names_below w e) x r));
      }

  -- of a `tbody` and a `tr`
  ends_part : (name : List ℕ) (m l : InsertionMode) (is : QualName → Bool) → w.mode ≡ m → first_passes is (names_of w) ≡ true → rule m (TagTurn (end name)) w ≡ row (PopUntilCurrent is ∷ Pop ∷ SetMode l ∷ []) IsDone → Ends choices name w l
  unfolding pop
  ends_part name m l is t h r =
      let marks = choices.marks_after_pop w.forest (current w) in
      let f = mark marks w.forest in
      record {
        forest = f;
        same = same_marked w.forest marks k;
        moves = moves_row choices (end name) w (record w { forest = f; mode = l; stack = but_first w.stack }) m (PopUntilCurrent is ∷ Pop ∷ SetMode l ∷ []) t i j r refl refl
            (ap (λ v. set_mode l (pop choices v)) (at_context is w h));
      }

  pub ends_section : (name : List ℕ) → IsPartName name → w.mode ≡ InTableBody → names_of w ≡ html_name name ∷ names → Ends choices name w InTable
  unfolding in_table_body_end_section
  ends_section name q t e =
      let r = row (PopUntilCurrent is_table_body_context ∷ Pop ∷ SetMode InTable ∷ []) IsDone in
      ends_part name InTableBody InTable is_table_body_context t (ap (first_passes is_table_body_context) e ∙ q.context)
      (q.ends w ∙ ap (λ ns. choose (in_scope (is_html_named name) is_table_scope ns) r ignored) e
      ∙ ap (λ b. choose (cond b true (cond (is_table_scope (html_name name)) false (in_scope (is_html_named name) is_table_scope names))) r ignored) q.itself)

  pub ends_row : w.mode ≡ InRow → names_of w ≡ html_name (codes "tr") ∷ names → Ends choices (codes "tr") w InTableBody
  unfolding close_the_row is_html_named html_namespace is_table_row_context table_row_context_names
  ends_row t e =
      ends_part (codes "tr") InRow InTableBody is_table_row_context t (ap (first_passes is_table_row_context) e)
      (row_end_rule w ∙ ap (λ ns. choose (in_scope (is_html_named (codes "tr")) is_table_scope ns) (row (PopUntilCurrent is_table_row_context ∷ Pop ∷ SetMode InTableBody ∷ []) IsDone) ignored) e)

  -- of a `colgroup`
  pub ends_group : w.mode ≡ InColumnGroup → names_of w ≡ html_name (codes "colgroup") ∷ names → Ends choices (codes "colgroup") w InTable
  unfolding close_the_column_group is_html_named html_namespace pop
  ends_group t e =
      let marks = choices.marks_after_pop w.forest (current w) in
      let f = mark marks w.forest in
      record {
        forest = f;
        same = same_marked w.forest marks k;
        moves = moves_row choices (end (codes "colgroup")) w (record w { forest = f; mode = InTable; stack = but_first w.stack }) InColumnGroup (Pop ∷ SetMode InTable ∷ []) t i j
            (group_end_rule w ∙ ap (λ ns. choose (first_passes (is_html_named (codes "colgroup")) ns) (row (Pop ∷ SetMode InTable ∷ []) IsDone) ignored) e) refl refl refl;
      }

  -- of a `caption`: the list is cleared up to the marker
  pub ends_caption : (m : InsertionMode) → m ≡ InTable → w.mode ≡ InCaption → names_of w ≡ html_name (codes "caption") ∷ names
      → Moves choices (end_tag (codes "caption")) w (record w { formatting = clear_to_marker w.formatting; mode = m; stack = but_first w.stack })
  unfolding close_the_caption pop_until_named clear_active_formatting_to_marker
  ends_caption m q t e =
      let name = codes "caption" in
      let changes : List Change = GenerateImpliedEnd ∷ PopUntilNamed name ∷ ClearActiveFormattingToMarker ∷ SetMode InTable ∷ [] in
      subst (λ x. Moves choices (end_tag name) w (record w { formatting = clear_to_marker w.formatting; mode = x; stack = but_first w.stack })) (sym q)
      (moves_row choices (end name) w (record w { formatting = clear_to_marker w.formatting; mode = InTable; stack = but_first w.stack }) InCaption changes t i j
      (caption.ends w
      ∙ ap (λ ns. choose (in_scope (is_html_named name) is_table_scope ns) (row_if (is_expected is_implied (is_html_named name) ns) changes IsDone) ignored) e
      ∙ ap (λ b. choose (cond b true (cond (is_table_scope (html_name name)) false (in_scope (is_html_named name) is_table_scope names))) (row_if (is_expected is_implied (is_html_named name) (html_name name ∷ names)) changes IsDone) ignored) caption.itself
      ∙ ap (λ b. row_if b changes IsDone) (current_expected is_implied (is_html_named name) (html_name name) names caption.not_implied caption.itself)) refl refl
      (ap (λ v. set_mode InTable (clear_active_formatting_to_marker (pop_until_named name v))) (all_implied_none choices w (ap (first_passes is_implied) e ∙ caption.not_implied))
      ∙ ap (λ v. set_mode InTable (clear_active_formatting_to_marker v)) (cut_at w names (is_html_named name) (html_name name) e caption.itself)))

  -- of a cell: the list is cleared up to the marker
  pub ends_cell : (name : List ℕ) → IsCellName name → w.mode ≡ InCell → names_of w ≡ html_name name ∷ names
      → Moves choices (end_tag name) w (record w { formatting = clear_to_marker w.formatting; mode = InRow; stack = but_first w.stack })
  unfolding in_cell_end_cell pop_until_named clear_active_formatting_to_marker
  ends_cell name c t e =
      let changes : List Change = GenerateImpliedEnd ∷ PopUntilNamed name ∷ ClearActiveFormattingToMarker ∷ SetMode InRow ∷ [] in
      moves_row choices (end name) w (record w { formatting = clear_to_marker w.formatting; mode = InRow; stack = but_first w.stack }) InCell changes t i j
      (c.ends w
      ∙ ap (λ ns. choose (in_scope (is_html_named name) is_table_scope ns) (row_if (is_expected is_implied (is_html_named name) ns) changes IsDone) ignored) e
      ∙ ap (λ b. choose (cond b true (cond (is_table_scope (html_name name)) false (in_scope (is_html_named name) is_table_scope names))) (row_if (is_expected is_implied (is_html_named name) (html_name name ∷ names)) changes IsDone) ignored) c.itself
      ∙ ap (λ b. row_if b changes IsDone) (current_expected is_implied (is_html_named name) (html_name name) names c.not_implied c.itself)) refl refl
      (ap (λ v. set_mode InRow (clear_active_formatting_to_marker (pop_until_named name v))) (all_implied_none choices w (ap (first_passes is_implied) e ∙ c.not_implied))
      ∙ ap (λ v. set_mode InRow (clear_active_formatting_to_marker v)) (cut_at w names (is_html_named name) (html_name name) e c.itself))
