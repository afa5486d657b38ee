-- What a tag of a list, or of an item of one, does in the body, or in a cell, which uses the rules of the body for it.
use Rattle.std.proofs.Common.{◌≡◌, ◌∙◌, ℕ, true, false, ◌&&◌, cond, List, [], ◌∷◌, None, codes, refl, ap, Option}
use Rattle.h5_names.specs.AttributeText.{AttributeText}
use Rattle.h5_names.specs.declared.qualified.QualName.{QualName}
use Rattle.h5_interface.specs.Forest.{IsForest}
use Rattle.h5_interface.specs.SinkChoices.{SinkChoices}
use Rattle.h5_tables.specs.TagSets.{html_namespace, implied_names, is_default_scope, is_html_named, is_implied, is_list_item_scope}
use Rattle.h5_builder_spec.specs.formatting.FormattingList.{Entry}
use Rattle.h5_builder_spec.specs.formatting.FormattingNames.{html_name}
use Rattle.h5_builder_spec.specs.stack.Scope.{first_passes, has_p_in_button_scope, in_scope, is_implied_but}
use Rattle.h5_builder_spec.specs.Changes.{insert_element, pop_until_named, set_frameset_not_ok}
use Rattle.h5_builder_spec.specs.stack.Closing.{close_item, close_list_item, close_p_element_in_button_scope, newest_item}
use Rattle.h5_builder_spec.specs.modes.InBody.{in_body_end_description, in_body_end_li, in_body_start_item}
use Rattle.h5_builder_spec.specs.modes.Modes.{rule}
use Rattle.h5_tables.specs.TurnText.{TagTurn}
use Rattle.h5_tables.specs.declared.modes.InsertionMode.TheVariants.{InBody}
use Rattle.h5_builder_spec.specs.Rows.{Change, CloseListItem, ClosePElementInButtonScope, GenerateImpliedEndExcept, InsertElement, IsDone, PopUntilNamed, SetFramesetNotOk, choose, ignored, row_if}
use Rattle.h5_builder_spec.specs.reset.Roles.{Role}
use Rattle.h5_builder_spec.specs.World.{World, names_of}
use Rattle.h5_builder_spec.proofs.changes.PopLaws.{implied_none}
use Rattle.h5_builder_laws.specs.Plain.{end_tag, start_tag}
use Rattle.h5_builder_laws.proofs.BodyStepLaws.{cut_at, insert_is, left, no_p, none_closed}
use Rattle.h5_builder_laws.proofs.CalmLaws.{Calm, calm_html, names_are, opened}
use Rattle.h5_builder_laws.proofs.FilledLaws.{Face, same_faces}
use Rattle.h5_builder_laws.proofs.GoesLaws.{Moves, moves_row}
use Rattle.h5_builder_laws.proofs.HtmlLaws.{AtHtml}
use Rattle.h5_builder_laws.proofs.ListRuleLaws.{IsTermName, item_end_rule, item_outside}
use Rattle.h5_builder_laws.proofs.BodyRuleLaws.{IsHolder}
use Rattle.h5_builder_laws.proofs.ListedLaws.{OpenFormat}
use Rattle.h5_builder_laws.proofs.ModeLaws.{GoesByBody, IsOutside, end_by_body, start_by_body}
use Rattle.h5_builder_laws.proofs.RuleLaws.{end, start}
use Rattle.h5_builder_laws.proofs.TableStepLaws.{Ends}
use Rattle.h5_builder_spec.specs.stack.Expected.{is_expected, is_expected_p, names_behind_item}
use Rattle.h5_builder_spec.proofs.changes.ExpectedLaws.{current_expected, no_item_behind, no_item_expected, no_p_expected}

module _ (choices : SinkChoices) {at_root : Option Role} {w : World} {p : ℕ} {d : Face} {names : List QualName} {path : List OpenFormat} {under : List ℕ} {base : List Entry} (c : Calm at_root w p d names path under base) where
  -- the frameset flag plays no part
  calm_flagged : Calm at_root (set_frameset_not_ok w) p d names path under base
  calm_flagged = record {
    is_forest = c.is_forest;
    ignore_lf = c.ignore_lf;
    is_current = c.is_current;
    shows = c.shows;
    named = c.named;
    no_foster = c.no_foster;
    no_pending = c.no_pending;
    no_form = c.no_form;
    context = c.context;
    root_role = c.root_role;
    no_template = c.no_template;
    is_html = c.is_html;
    are_open = c.are_open;
    is_base = c.is_base;
    entries = c.entries;
    unlisted = c.unlisted;
  }

  -- no item is open in this list
  no_item_closed : (locals : List (List ℕ)) → newest_item locals names ≡ None → close_list_item choices locals w ≡ w
  unfolding close_list_item
  no_item_closed locals h =
      ap (λ ns. close_item choices (newest_item locals ns) w) (names_are w c.named)
      ∙ ap (λ o. close_item choices o w) h

-- the start tag of a `li`, `dd` or `dt`: a new element below the current node
pub starts_item : (choices : SinkChoices) {at_root : Option Role} {w : World} {p : ℕ} {d : Face} {names : List QualName} {path : List OpenFormat} {under : List ℕ} {base : List Entry} (c : Calm at_root w p d names path under base)
    (locals : List (List ℕ)) (name : List ℕ) (attrs : List AttributeText) → IsHolder name → IsOutside name → ((v : World) → rule InBody (TagTurn (start name attrs)) v ≡ in_body_start_item locals (start name attrs) v)
    → GoesByBody w.mode → has_p_in_button_scope names ≡ false → newest_item locals names ≡ None
    → Moves choices (start_tag name attrs) w (opened choices w p name attrs w.mode w.formatting false)
starts_item choices {at_root} {w} {p} {d} {names} c locals name attrs k o r m h i =
    let changes : List Change = SetFramesetNotOk ∷ CloseListItem locals ∷ ClosePElementInButtonScope ∷ InsertElement name attrs false ∷ [] in
    let flagged = calm_flagged choices c in
    let none : newest_item locals (names_of w) ≡ None = ap (newest_item locals) (names_are w c.named) ∙ i in
    moves_row choices (start name attrs) w (opened choices w p name attrs w.mode w.formatting false) w.mode changes refl c.ignore_lf (calm_html c)
    (start_by_body m name attrs w o.no_structure
    ∙ r w
    ∙ ap (λ b. row_if (b && is_expected_p (names_behind_item locals (names_of w))) changes IsDone) (no_item_expected locals (names_of w) none)
    ∙ ap (λ ns. row_if (is_expected_p ns) changes IsDone) (no_item_behind locals (names_of w) none)
    ∙ ap (λ b. row_if b changes IsDone) (no_p_expected (names_of w) (no_p choices c h))) refl k.no_title
    (ap (λ v. insert_element choices name attrs false (close_p_element_in_button_scope choices v)) (no_item_closed choices flagged locals i)
    ∙ ap (insert_element choices name attrs false) (none_closed choices flagged h)
    ∙ insert_is choices flagged name attrs)

-- end tags: the current node leaves the stack, and nothing else changes
module _ (choices : SinkChoices) (w : World) (names : List QualName) (m : GoesByBody w.mode) (i : w.ignore_lf ≡ false) (j : AtHtml w) where
  -- of a `li`
  item_ends : names_of w ≡ html_name (codes "li") ∷ names → Moves choices (end_tag (codes "li")) w (left choices w names m i j)
  unfolding in_body_end_li is_html_named html_namespace is_implied implied_names pop_until_named
  item_ends e =
      let changes : List Change = GenerateImpliedEndExcept (codes "li") ∷ PopUntilNamed (codes "li") ∷ [] in
      moves_row choices (end (codes "li")) w (left choices w names m i j) w.mode changes refl i j
      (end_by_body m (codes "li") w item_outside
      ∙ item_end_rule w
      ∙ ap (λ ns. choose (in_scope (is_html_named (codes "li")) is_list_item_scope ns) (row_if (is_expected (is_implied_but (codes "li")) (is_html_named (codes "li")) ns) changes IsDone) ignored) e) refl refl
      (ap (pop_until_named (codes "li")) (implied_none choices (codes "li") w (ap (first_passes (is_implied_but (codes "li"))) e))
      ∙ cut_at w names (is_html_named (codes "li")) (html_name (codes "li")) e refl)

  term_ends : (name : List ℕ) → IsTermName name → names_of w ≡ html_name name ∷ names → Moves choices (end_tag name) w (left choices w names m i j)
  unfolding in_body_end_description pop_until_named
  term_ends name k e =
      let changes : List Change = GenerateImpliedEndExcept name ∷ PopUntilNamed name ∷ [] in
      moves_row choices (end name) w (left choices w names m i j) w.mode changes refl i j
      (end_by_body m name w k.outside
      ∙ k.ends w
      ∙ ap (λ ns. choose (in_scope (is_html_named name) is_default_scope ns) (row_if (is_expected (is_implied_but name) (is_html_named name) ns) changes IsDone) ignored) e
      ∙ ap (λ b. choose (cond b true (cond (is_default_scope (html_name name)) false (in_scope (is_html_named name) is_default_scope names))) (row_if (is_expected (is_implied_but name) (is_html_named name) (html_name name ∷ names)) changes IsDone) ignored) k.itself
      ∙ ap (λ b. row_if b changes IsDone) (current_expected (is_implied_but name) (is_html_named name) (html_name name) names k.not_implied k.itself)) refl refl
      (ap (pop_until_named name) (implied_none choices name w (ap (first_passes (is_implied_but name)) e ∙ k.not_implied))
      ∙ cut_at w names (is_html_named name) (html_name name) e k.itself)

  pub ends_term : (name : List ℕ) → IsTermName name → IsForest w.forest → names_of w ≡ html_name name ∷ names → Ends choices name w w.mode
  ends_term name t k e = record { forest = w.forest; same = same_faces w.forest k; moves = term_ends name t e }

  pub ends_item : IsForest w.forest → names_of w ≡ html_name (codes "li") ∷ names → Ends choices (codes "li") w w.mode
  ends_item k e = record { forest = w.forest; same = same_faces w.forest k; moves = item_ends e }
