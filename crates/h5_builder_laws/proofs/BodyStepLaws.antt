-- What a tag or a text of a plain document does in the body, or in a cell, which uses the rules of the body for it.
use Rattle.std.proofs.Common.{◌≡◌, ◌∙◌, ℕ, Bool, true, false, ◌&&◌, not, cond, List, [], ◌∷◌, codes, None, refl, ap, subst, Option}
use Rattle.h5_names.specs.AttributeText.{AttributeText}
use Rattle.h5_names.specs.declared.qualified.QualName.{QualName}
use Rattle.h5_token.specs.TokenText.{Characters}
use Rattle.h5_interface.specs.Changes.{append_text as append_text_to}
use Rattle.h5_interface.specs.Forest.{ChildText}
use Rattle.h5_interface.specs.SinkChoices.{SinkChoices}
use Rattle.h5_tables.specs.TagSets.{html_namespace, implied_names, is_default_scope, is_heading, is_html_named, is_implied}
use Rattle.h5_tables.specs.TurnText.{TagTurn}
use Rattle.h5_tables.specs.declared.modes.InsertionMode.TheVariants.{InBody}
use Rattle.h5_builder_spec.specs.formatting.FormattingNames.{html_name}
use Rattle.h5_builder_spec.specs.reset.Roles.{Role}
use Rattle.h5_builder_spec.specs.stack.Order.{but_first}
use Rattle.h5_builder_spec.specs.stack.Scope.{cut_through, first_passes, has_p_in_button_scope, in_scope, is_implied_but}
use Rattle.h5_builder_spec.specs.Blanks.{all_blank}
use Rattle.h5_builder_spec.specs.Changes.{append_text, insert_element, pop, pop_until_named, push_new, set_frameset_not_ok, set_frameset_ok_by_text, set_ignore_lf}
use Rattle.h5_builder_spec.specs.stack.Closing.{close_p_element, close_p_element_in_button_scope, pop_heading, pop_until_heading}
use Rattle.h5_builder_spec.specs.modes.InBody.{in_body_end_block, in_body_end_heading, in_body_end_p, in_body_start_block}
use Rattle.h5_builder_spec.specs.modes.Modes.{rule}
use Rattle.h5_builder_spec.specs.insertion.Place.{place, put}
use Rattle.h5_builder_spec.specs.Rows.{Change, ClosePElement, ClosePElementInButtonScope, GenerateImpliedEnd, InsertElement, IsDone, PopHeading, PopUntilHeading, PopUntilNamed, SetFramesetNotOk, SetIgnoreLf, choose, errs, ignored, row_if}
use Rattle.h5_builder_spec.specs.World.{World, names_of}
use Rattle.h5_builder_spec.proofs.changes.PopLaws.{all_implied_none, implied_none}
use Rattle.h5_builder_laws.specs.Plain.{end_tag, start_tag}
use Rattle.h5_builder_laws.proofs.BodyRuleLaws.{IsBlockName, IsHeadingName, IsHolder, p_end_rule, p_outside, pre}
use Rattle.h5_builder_spec.specs.formatting.FormattingList.{Entry}
use Rattle.h5_builder_laws.proofs.ListedLaws.{OpenFormat}
use Rattle.h5_builder_laws.proofs.CalmLaws.{Calm, calm_html, after, calm_closed, names_are, opened, place_is, unowned}
use Rattle.h5_builder_laws.proofs.FilledLaws.{Face}
use Rattle.h5_builder_laws.proofs.GoesLaws.{Moves, ignoring, moves_row, moves_text}
use Rattle.h5_builder_laws.proofs.HtmlLaws.{AtHtml}
use Rattle.h5_builder_laws.proofs.ModeLaws.{GoesByBody, IsOutside, end_by_body, start_by_body}
use Rattle.h5_builder_laws.proofs.RuleLaws.{end, start}
use Rattle.h5_builder_spec.specs.stack.Expected.{is_expected, names_behind_p}
use Rattle.h5_builder_spec.proofs.changes.ExpectedLaws.{current_expected, no_p_behind, no_p_expected}

module _ (choices : SinkChoices) {at_root : Option Role} {w : World} {p : ℕ} {d : Face} {names : List QualName} {path : List OpenFormat} {under : List ℕ} {base : List Entry} (c : Calm at_root w p d names path under base) where
  -- a new element is put below the current node
  pub insert_is : (name : List ℕ) (attrs : List AttributeText) → insert_element choices name attrs false w ≡ opened choices w p name attrs w.mode w.formatting w.frameset_ok
  unfolding insert_element
  insert_is name attrs =
      ap (λ m. push_new choices (place w) name attrs false m w) (unowned choices name attrs w c.no_form)
      ∙ ap (λ q. push_new choices q name attrs false None w) (place_is w p d c.is_current c.shows c.no_foster c.no_template)

  pub no_p : has_p_in_button_scope names ≡ false → has_p_in_button_scope (names_of w) ≡ false
  no_p h = ap has_p_in_button_scope (names_are w c.named) ∙ h

  pub none_closed : has_p_in_button_scope names ≡ false → close_p_element_in_button_scope choices w ≡ w
  unfolding close_p_element_in_button_scope
  none_closed h = ap (λ b. cond b (close_p_element choices w) w) (no_p h)

  -- the start tag of a block
  pub starts_block : (name : List ℕ) (attrs : List AttributeText) → GoesByBody w.mode → IsHolder name → IsOutside name → has_p_in_button_scope names ≡ false → rule InBody (TagTurn (start name attrs)) w ≡ in_body_start_block (start name attrs) w
      → Moves choices (start_tag name attrs) w (opened choices w p name attrs w.mode w.formatting w.frameset_ok)
  starts_block name attrs m k o h e =
      moves_row choices (start name attrs) w (opened choices w p name attrs w.mode w.formatting w.frameset_ok) w.mode (ClosePElementInButtonScope ∷ InsertElement name attrs false ∷ []) refl c.ignore_lf (calm_html c)
      (start_by_body m name attrs w o.no_structure ∙ e ∙ ap (λ b. row_if b (ClosePElementInButtonScope ∷ InsertElement name attrs false ∷ []) IsDone) (no_p_expected (names_of w) (no_p h))) refl k.no_title
      (ap (insert_element choices name attrs false) (none_closed h) ∙ insert_is name attrs)

  -- the start tag of a `pre`, which sets the newline flag
  pub starts_pre : (attrs : List AttributeText) → GoesByBody w.mode → has_p_in_button_scope names ≡ false → Moves choices (start_tag (codes "pre") attrs) w (ignoring (opened choices w p (codes "pre") attrs w.mode w.formatting false))
  starts_pre attrs m h =
      let changes : List Change = ClosePElementInButtonScope ∷ InsertElement (codes "pre") attrs false ∷ SetIgnoreLf ∷ SetFramesetNotOk ∷ [] in
      moves_row choices (start (codes "pre") attrs) w (ignoring (opened choices w p (codes "pre") attrs w.mode w.formatting false)) w.mode changes refl c.ignore_lf (calm_html c)
      (start_by_body m (codes "pre") attrs w pre.outside.no_structure ∙ pre.starts attrs w ∙ ap (λ b. row_if b changes IsDone) (no_p_expected (names_of w) (no_p h))) refl refl
      (ap (λ v. set_frameset_not_ok (set_ignore_lf (insert_element choices (codes "pre") attrs false v))) (none_closed h)
      ∙ ap (λ v. set_frameset_not_ok (set_ignore_lf v)) (insert_is (codes "pre") attrs))

  -- the start tag of a heading
  none_popped : first_passes is_heading names ≡ false → pop_heading choices w ≡ w
  unfolding pop_heading
  none_popped h = ap (λ b. cond b (pop choices w) w) (ap (first_passes is_heading) (names_are w c.named) ∙ h)

  -- what it does
  pub starts_heading : (name : List ℕ) (attrs : List AttributeText) → IsHeadingName name → GoesByBody w.mode → has_p_in_button_scope names ≡ false → first_passes is_heading names ≡ false
      → Moves choices (start_tag name attrs) w (opened choices w p name attrs w.mode w.formatting w.frameset_ok)
  starts_heading name attrs k m h i =
      let changes = ClosePElementInButtonScope ∷ PopHeading ∷ InsertElement name attrs false ∷ [] in
      moves_row choices (start name attrs) w (opened choices w p name attrs w.mode w.formatting w.frameset_ok) w.mode changes refl c.ignore_lf (calm_html c)
      (start_by_body m name attrs w k.outside.no_structure
      ∙ k.starts attrs w
      ∙ ap (λ b. row_if (b && not (first_passes is_heading (names_behind_p (names_of w)))) changes IsDone) (no_p_expected (names_of w) (no_p h))
      ∙ ap (λ ns. row_if (not (first_passes is_heading ns)) changes IsDone) (no_p_behind (names_of w) (no_p h))
      ∙ ap (λ b. row_if (not b) changes IsDone) (ap (first_passes is_heading) (names_are w c.named) ∙ i)) refl k.holds.no_title
      (ap (λ v. insert_element choices name attrs false (pop_heading choices v)) (none_closed h)
      ∙ ap (insert_element choices name attrs false) (none_popped i)
      ∙ insert_is name attrs)

  -- a text
  text_is : (t : List ℕ) → append_text t (set_frameset_ok_by_text t w) ≡ after w (append_text_to p t w.forest) w.formatting (w.frameset_ok && all_blank t) w.saved_mode
  unfolding append_text set_frameset_ok_by_text
  text_is t =
      let v = after w w.forest w.formatting (w.frameset_ok && all_blank t) w.saved_mode in
      ap (λ q. after w (put q (ChildText t) w.forest) w.formatting (w.frameset_ok && all_blank t) w.saved_mode) (place_is v p d c.is_current c.shows c.no_foster c.no_template)

  -- what it does
  pub writes : (b : ℕ) (t : List ℕ) → GoesByBody w.mode → Moves choices (Characters (b ∷ t)) w (after w (append_text_to p (b ∷ t) w.forest) w.formatting (w.frameset_ok && all_blank (b ∷ t)) w.saved_mode)
  writes b t m = subst (Moves choices (Characters (b ∷ t)) w) (text_is (b ∷ t)) (moves_text choices b t w m c.ignore_lf (calm_html c) (calm_closed c))

-- a cut at the current node leaves the others
pub cut_at : (w : World) (names : List QualName) (is : QualName → Bool) (name : QualName) → names_of w ≡ name ∷ names → is name ≡ true
    → ◌≡◌ {A = World} (record w { stack = cut_through is (names_of w) w.stack }) (record w { stack = but_first w.stack })
cut_at w names is name e h =
    ap (λ ns. let v : World = record w { stack = cut_through is ns w.stack } in v) e
    ∙ ap (λ b. let v : World = record w { stack = cond b (but_first w.stack) (cut_through is names (but_first w.stack)) } in v) h

-- end tags: the current node leaves the stack, and nothing else changes
module _ (choices : SinkChoices) (w : World) (names : List QualName) (m : GoesByBody w.mode) (i : w.ignore_lf ≡ false) (j : AtHtml w) where
  abbrev pub left : World
  left = record w { stack = but_first w.stack }

  -- of a block
  pub ends_block : (name : List ℕ) → IsBlockName name → names_of w ≡ html_name name ∷ names → Moves choices (end_tag name) w left
  unfolding in_body_end_block pop_until_named
  ends_block name k e =
      let changes : List Change = GenerateImpliedEnd ∷ PopUntilNamed name ∷ [] in
      moves_row choices (end name) w left w.mode changes refl i j
      (end_by_body m name w k.outside
      ∙ k.ends w
      ∙ ap (λ ns. choose (in_scope (is_html_named name) is_default_scope ns) (row_if (is_expected is_implied (is_html_named name) ns) changes IsDone) ignored) e
      ∙ ap (λ b. choose (cond b true (cond (is_default_scope (html_name name)) false (in_scope (is_html_named name) is_default_scope names))) (row_if (is_expected is_implied (is_html_named name) (html_name name ∷ names)) changes IsDone) ignored) k.itself
      ∙ ap (λ b. row_if b changes IsDone) (current_expected is_implied (is_html_named name) (html_name name) names k.not_implied k.itself)) refl refl
      (ap (pop_until_named name) (all_implied_none choices w (ap (first_passes is_implied) e ∙ k.not_implied))
      ∙ cut_at w names (is_html_named name) (html_name name) e k.itself)

  -- of a `pre`
  pub ends_pre : names_of w ≡ html_name (codes "pre") ∷ names → Moves choices (end_tag (codes "pre")) w left
  unfolding in_body_end_block pop_until_named
  ends_pre e =
      let name = codes "pre" in
      let changes : List Change = GenerateImpliedEnd ∷ PopUntilNamed name ∷ [] in
      moves_row choices (end name) w left w.mode changes refl i j
      (end_by_body m name w pre.outside
      ∙ pre.ends w
      ∙ ap (λ ns. choose (in_scope (is_html_named name) is_default_scope ns) (row_if (is_expected is_implied (is_html_named name) ns) changes IsDone) ignored) e
      ∙ ap (λ b. choose (cond b true (cond (is_default_scope (html_name name)) false (in_scope (is_html_named name) is_default_scope names))) (row_if (is_expected is_implied (is_html_named name) (html_name name ∷ names)) changes IsDone) ignored) pre.itself
      ∙ ap (λ b. row_if b changes IsDone) (current_expected is_implied (is_html_named name) (html_name name) names pre.not_implied pre.itself)) refl refl
      (ap (pop_until_named name) (all_implied_none choices w (ap (first_passes is_implied) e ∙ pre.not_implied))
      ∙ cut_at w names (is_html_named name) (html_name name) e pre.itself)

  -- of a `p`
  pub ends_p : names_of w ≡ html_name (codes "p") ∷ names → Moves choices (end_tag (codes "p")) w left
  unfolding in_body_end_p is_html_named html_namespace is_implied implied_names pop_until_named close_p_element
  ends_p e =
      moves_row choices (end (codes "p")) w left w.mode (ClosePElement ∷ []) refl i j
      (end_by_body m (codes "p") w p_outside
      ∙ p_end_rule w
      ∙ ap (λ ns. choose (has_p_in_button_scope ns) (row_if (is_expected (is_implied_but (codes "p")) (is_html_named (codes "p")) ns) (ClosePElement ∷ []) IsDone) (errs (InsertElement (codes "p") [] false ∷ ClosePElement ∷ []) IsDone)) e) refl refl
      (ap (pop_until_named (codes "p")) (implied_none choices (codes "p") w (ap (first_passes (is_implied_but (codes "p"))) e))
      ∙ cut_at w names (is_html_named (codes "p")) (html_name (codes "p")) e refl)

  -- of a heading
  pub ends_heading : (name : List ℕ) → IsHeadingName name → names_of w ≡ html_name name ∷ names → Moves choices (end_tag name) w left
  unfolding in_body_end_heading pop_until_heading
  ends_heading name k e =
      let changes = GenerateImpliedEnd ∷ PopUntilHeading ∷ [] in
      moves_row choices (end name) w left w.mode changes refl i j
      (end_by_body m name w k.outside
      ∙ k.ends w
      ∙ ap (λ ns. choose (in_scope is_heading is_default_scope ns) (row_if (is_expected is_implied (is_html_named name) ns) changes IsDone) ignored) e
      ∙ ap (λ b. choose (cond b true (cond (is_default_scope (html_name name)) false (in_scope is_heading is_default_scope names))) (row_if (is_expected is_implied (is_html_named name) (html_name name ∷ names)) changes IsDone) ignored) k.heading
      ∙ ap (λ b. row_if b changes IsDone) (current_expected is_implied (is_html_named name) (html_name name) names k.not_implied k.itself)) refl refl
      (ap pop_until_heading (all_implied_none choices w (ap (first_passes is_implied) e ∙ k.not_implied))
      ∙ cut_at w names is_heading (html_name name) e k.heading)
