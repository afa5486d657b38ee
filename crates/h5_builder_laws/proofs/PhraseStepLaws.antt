-- What a tag of an element without a rule of its own, of a text of a `ruby`, or of an element without an end tag does in
-- the body, or in a cell.
use Rattle.std.proofs.Common.{◌≡◌, ◌∙◌, ℕ, Bool, true, false, ◌&&◌, ◌||◌, not, cond, List, [], ◌∷◌, None, codes, refl, ap, Option}
use Rattle.std.specs.List.{list_any}
use Rattle.h5_names.specs.AttributeText.{AttributeText}
use Rattle.h5_names.specs.declared.qualified.QualName.{QualName}
use Rattle.h5_token.specs.TokenText.{TagText}
use Rattle.h5_interface.specs.SinkChoices.{SinkChoices}
use Rattle.h5_tables.specs.TagSets.{implied_names, is_default_scope, is_html_named, is_implied, is_one_of, is_special}
use Rattle.h5_builder_spec.specs.formatting.FormattingList.{Entry}
use Rattle.h5_builder_spec.specs.formatting.FormattingNames.{html_name}
use Rattle.h5_builder_spec.specs.stack.Scope.{drop_while, first_passes, has_p_in_button_scope, in_scope, is_implied_but}
use Rattle.h5_builder_spec.specs.Changes.{insert_and_pop_element, insert_element, new_element, pop_until_named, set_frameset_not_ok}
use Rattle.h5_builder_spec.specs.stack.Closing.{generate_implied_end_tags, generate_implied_end_in_select}
use Rattle.h5_builder_spec.specs.modes.InBody.{has_option_in_scope, in_body_end_other, in_body_start_other, in_body_start_ruby_text, is_expected_rule, is_ruby_or_rtc}
use Rattle.h5_builder_spec.specs.insertion.Place.{place}
use Rattle.h5_builder_spec.specs.Rows.{Change, ClosePElementInButtonScope, GenerateImpliedEndExcept, GenerateImpliedEndInSelect, InsertAndPopElement, InsertElement, IsAcknowledged, IsDone, PopUntilNamed, ReconstructActiveFormattingElements, Row, SetFramesetNotOk, choose, ignored, row_if}
use Rattle.h5_builder_spec.specs.reset.Roles.{Role}
use Rattle.h5_builder_spec.specs.World.{World, names_of}
use Rattle.h5_builder_spec.proofs.changes.ClosingLaws.{named_not_implied}
use Rattle.h5_builder_spec.proofs.changes.FormattingLaws.{reconstruct_none}
use Rattle.h5_builder_spec.proofs.changes.PopLaws.{implied_none}
use Rattle.h5_builder_laws.specs.Plain.{end_tag, start_tag}
use Rattle.h5_builder_laws.proofs.BodyStepLaws.{cut_at, insert_is, left, no_p, none_closed}
use Rattle.h5_builder_laws.proofs.CalmLaws.{Calm, after, calm_closed, calm_html, names_are, opened, place_is, unowned}
use Rattle.h5_builder_laws.proofs.FilledLaws.{Face}
use Rattle.h5_builder_spec.specs.stack.Expected.{is_expected, names_behind_p}
use Rattle.h5_builder_spec.proofs.changes.ExpectedLaws.{current_expected, no_p_behind, no_p_expected}
use Rattle.h5_builder_laws.proofs.GoesLaws.{Moves, moves_acknowledged, moves_row}
use Rattle.h5_builder_laws.proofs.GrowthLaws.{with_element}
use Rattle.h5_builder_laws.proofs.HtmlLaws.{AtHtml}
use Rattle.h5_builder_laws.proofs.ListedLaws.{OpenFormat}
use Rattle.h5_builder_laws.proofs.ModeLaws.{GoesByBody, end_by_body, start_by_body}
use Rattle.h5_builder_laws.proofs.PhraseRuleLaws.{IsMarkName, IsPhraseName, hr_no_structure, hr_rule}
use Rattle.h5_builder_laws.proofs.RuleLaws.{end, start}

no_select_expected : (ns : List QualName) → in_scope (is_html_named (codes "select")) is_default_scope ns ≡ false → is_expected_rule ns ≡ true
unfolding is_expected_rule
no_select_expected ns h = ap (λ b. not b || not (has_option_in_scope (drop_while is_implied ns))) h

-- if the current node is a `ruby`, one is in scope, and its end tag isn't implied
abbrev pub is_ruby : QualName → Bool
is_ruby = is_html_named (codes "ruby")

no_ruby_implied : list_any (is_one_of implied_names) (codes "ruby" ∷ []) ≡ false
unfolding implied_names
no_ruby_implied = refl

ruby_not_implied : (n : QualName) → is_ruby n ≡ true → is_implied_but (codes "rtc") n ≡ false
ruby_not_implied n h = at (is_implied n) refl
  where
    at : (b : Bool) → is_implied n ≡ b → (b && not (is_html_named (codes "rtc") n)) ≡ false
    at true e = absurd (let other = named_not_implied (codes "ruby" ∷ []) (codes "ruby") n no_ruby_implied refl e in cc)
    at false e = refl

ruby_in_scope : (ns : List QualName) → first_passes is_ruby ns ≡ true → in_scope is_ruby is_default_scope ns ≡ true
ruby_in_scope [] h = absurd (cc)
ruby_in_scope (n ∷ ns) h = ap (λ b. cond b true (cond (is_default_scope n) false (in_scope is_ruby is_default_scope ns))) h

ruby_stays : (ns : List QualName) → first_passes is_ruby ns ≡ true → first_passes (is_implied_but (codes "rtc")) ns ≡ false
ruby_stays [] h = refl
ruby_stays (n ∷ ns) h = ruby_not_implied n h

ruby_expected : (ns : List QualName) → first_passes is_ruby ns ≡ true → is_expected (is_implied_but (codes "rtc")) is_ruby_or_rtc ns ≡ true
ruby_expected [] h = absurd (cc)
ruby_expected (n ∷ ns) h = current_expected (is_implied_but (codes "rtc")) is_ruby_or_rtc n ns (ruby_not_implied n h) (at (is_html_named (codes "rtc") n))
  where
    at : (b : Bool) → (b || is_ruby n) ≡ true
    at true = refl
    at false = h

module _ (choices : SinkChoices) {at_root : Option Role} {w : World} {p : ℕ} {d : Face} {names : List QualName} {path : List OpenFormat} {under : List ℕ} {base : List Entry} (c : Calm at_root w p d names path under base) where
  -- the start tag of an element without a rule: a new element below the current node
  pub starts_phrase : (name : List ℕ) (attrs : List AttributeText) → IsPhraseName in_body_start_other name → GoesByBody w.mode → Moves choices (start_tag name attrs) w (opened choices w p name attrs w.mode w.formatting w.frameset_ok)
  starts_phrase name attrs k m =
      moves_row choices (start name attrs) w (opened choices w p name attrs w.mode w.formatting w.frameset_ok) w.mode (ReconstructActiveFormattingElements ∷ InsertElement name attrs false ∷ []) refl c.ignore_lf (calm_html c)
      (start_by_body m name attrs w k.outside.no_structure ∙ k.starts attrs w) refl k.holds.no_title
      (ap (insert_element choices name attrs false) (reconstruct_none choices w (calm_closed c)) ∙ insert_is choices c name attrs)

  -- the start tag of an `rp` or `rt` if the current node is a `ruby`: the same, as nothing is closed
  pub starts_ruby_text : (name : List ℕ) (attrs : List AttributeText) → IsPhraseName in_body_start_ruby_text name → GoesByBody w.mode → first_passes is_ruby names ≡ true
      → Moves choices (start_tag name attrs) w (opened choices w p name attrs w.mode w.formatting w.frameset_ok)
  starts_ruby_text name attrs k m h =
      let put : List Change = InsertElement name attrs false ∷ [] in
      let changes : List Change = GenerateImpliedEndExcept (codes "rtc") ∷ put in
      let here : first_passes is_ruby (names_of w) ≡ true = ap (first_passes is_ruby) (names_are w c.named) ∙ h in
      moves_row choices (start name attrs) w (opened choices w p name attrs w.mode w.formatting w.frameset_ok) w.mode changes refl c.ignore_lf (calm_html c)
      (start_by_body m name attrs w k.outside.no_structure
      ∙ k.starts attrs w
      ∙ ap (λ b. choose b (row_if (is_expected (is_implied_but (codes "rtc")) is_ruby_or_rtc (names_of w)) changes IsDone) (row_if (first_passes is_ruby_or_rtc (names_of w)) put IsDone)) (ruby_in_scope (names_of w) here)
      ∙ ap (λ b. row_if b changes IsDone) (ruby_expected (names_of w) here)) refl k.holds.no_title
      (ap (insert_element choices name attrs false) (implied_none choices (codes "rtc") w (ruby_stays (names_of w) here)) ∙ insert_is choices c name attrs)

  -- an element without an end tag
  abbrev pub marked : List ℕ → List AttributeText → World
  marked name attrs = after w (with_element choices p (html_name name) attrs w.forest) w.formatting false w.saved_mode

  mark_is : (name : List ℕ) (attrs : List AttributeText) → set_frameset_not_ok (insert_and_pop_element choices name attrs false w) ≡ marked name attrs
  unfolding insert_and_pop_element
  mark_is name attrs =
      ap (λ m. after w (new_element choices (place w) (html_name name) attrs false m w.forest) w.formatting false w.saved_mode) (unowned choices name attrs w c.no_form)
      ∙ ap (λ q. after w (new_element choices q (html_name name) attrs false None w.forest) w.formatting false w.saved_mode) (place_is w p d c.is_current c.shows c.no_foster c.no_template)

  pub marks : (name : List ℕ) (attrs : List AttributeText) → IsMarkName name → GoesByBody w.mode → Moves choices (start_tag name attrs) w (marked name attrs)
  marks name attrs k m =
      moves_acknowledged choices (start name attrs) w _ w.mode (ReconstructActiveFormattingElements ∷ InsertAndPopElement name attrs false ∷ SetFramesetNotOk ∷ []) refl c.ignore_lf (calm_html c)
      (start_by_body m name attrs w k.no_structure ∙ k.starts attrs w) k.no_title
      (ap (λ v. set_frameset_not_ok (insert_and_pop_element choices name attrs false v)) (reconstruct_none choices w (calm_closed c)) ∙ mark_is name attrs)

  -- a `hr`, if neither a `p` nor a `select` is open
  none_implied : in_scope (is_html_named (codes "select")) is_default_scope names ≡ false → generate_implied_end_in_select choices w ≡ w
  unfolding generate_implied_end_in_select
  none_implied h = ap (λ b. cond b (generate_implied_end_tags choices w) w) (ap (in_scope (is_html_named (codes "select")) is_default_scope) (names_are w c.named) ∙ h)

  pub rules_off : (attrs : List AttributeText) → GoesByBody w.mode → has_p_in_button_scope names ≡ false → in_scope (is_html_named (codes "select")) is_default_scope names ≡ false
      → Moves choices (start_tag (codes "hr") attrs) w (marked (codes "hr") attrs)
  rules_off attrs m h i =
      let changes : List Change = ClosePElementInButtonScope ∷ GenerateImpliedEndInSelect ∷ InsertAndPopElement (codes "hr") attrs false ∷ SetFramesetNotOk ∷ [] in
      moves_acknowledged choices (start (codes "hr") attrs) w _ w.mode changes refl c.ignore_lf (calm_html c)
      (start_by_body m (codes "hr") attrs w hr_no_structure ∙ hr_rule attrs w
      ∙ ap (λ b. row_if (b && is_expected_rule (names_behind_p (names_of w))) changes IsAcknowledged) (no_p_expected (names_of w) (no_p choices c h))
      ∙ ap (λ ns. row_if (is_expected_rule ns) changes IsAcknowledged) (no_p_behind (names_of w) (no_p choices c h))
      ∙ ap (λ b. row_if b changes IsAcknowledged) (no_select_expected (names_of w) (ap (in_scope (is_html_named (codes "select")) is_default_scope) (names_are w c.named) ∙ i))) refl
      (ap (λ v. set_frameset_not_ok (insert_and_pop_element choices (codes "hr") attrs false (generate_implied_end_in_select choices v))) (none_closed choices c h)
      ∙ ap (λ v. set_frameset_not_ok (insert_and_pop_element choices (codes "hr") attrs false v)) (none_implied i)
      ∙ mark_is (codes "hr") attrs)

-- the end tag of an element without a rule for it: the current node leaves the stack
pub ends_phrase : (choices : SinkChoices) {starts_by : TagText → World → Row} (w : World) (names : List QualName) (m : GoesByBody w.mode) (i : w.ignore_lf ≡ false) (j : AtHtml w) (name : List ℕ) → IsPhraseName starts_by name → names_of w ≡ html_name name ∷ names
    → Moves choices (end_tag name) w (left choices w names m i j)
unfolding in_body_end_other pop_until_named
ends_phrase choices w names m i j name k e =
    let changes : List Change = GenerateImpliedEndExcept name ∷ PopUntilNamed name ∷ [] in
    moves_row choices (end name) w (left choices w names m i j) w.mode changes refl i j
    (end_by_body m name w k.outside
    ∙ k.ends w
    ∙ ap (λ ns. choose (in_scope (is_html_named name) is_special ns) (row_if (is_expected (is_implied_but name) (is_html_named name) ns) changes IsDone) ignored) e
    ∙ ap (λ b. choose (cond b true (cond (is_special (html_name name)) false (in_scope (is_html_named name) is_special names))) (row_if (is_expected (is_implied_but name) (is_html_named name) (html_name name ∷ names)) changes IsDone) ignored) k.itself
    ∙ ap (λ b. row_if b changes IsDone) (current_expected (is_implied_but name) (is_html_named name) (html_name name) names k.not_implied k.itself)) refl refl
    (ap (pop_until_named name) (implied_none choices name w (ap (first_passes (is_implied_but name)) e ∙ k.not_implied))
    ∙ cut_at w names (is_html_named name) (html_name name) e k.itself)
