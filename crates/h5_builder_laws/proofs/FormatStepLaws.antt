-- What a tag of a formatting element does in the body, or in a cell, which uses the rules of the body for it.
use Rattle.std.proofs.Common.{◌≡◌, ◌∙◌, ℕ, ◌==◌, Bool, true, false, ◌&&◌, ◌||◌, not, is_some, cond, List, [], ◌∷◌, Some, codes, refl, ap, Option}
use Rattle.std.specs.List.{list_any}
use Rattle.std.proofs.lemmas.Bool.{eq-eqb}
use Rattle.h5_names.specs.AttributeText.{AttributeText, is_same_text}
use Rattle.h5_names.specs.declared.qualified.QualName.{QualName}
use Rattle.h5_token.specs.TokenText.{TagText}
use Rattle.h5_interface.specs.Changes.{mark}
use Rattle.h5_interface.specs.SinkChoices.{SinkChoices}
use Rattle.h5_tables.specs.TagSets.{is_default_scope, is_html_named, is_special}
use Rattle.h5_builder_spec.specs.formatting.Adoption.{FormattingElement, furthest_block, newer_than, newest_named, older_than}
use Rattle.h5_builder_spec.specs.formatting.FormattingList.{ElementEntry, Entry, nodes_of, push_formatting, without_entry}
use Rattle.h5_builder_spec.specs.formatting.FormattingNames.{html_name}
use Rattle.h5_builder_spec.specs.reset.Roles.{Role}
use Rattle.h5_builder_spec.specs.stack.Order.{but_first, first_or, is_in}
use Rattle.h5_builder_spec.specs.stack.Scope.{first_passes}
use Rattle.h5_builder_spec.specs.formatting.AdoptionAgency.{adopt_at, adopt_by, adopt_within, adoption_agency, close_misnested_a, closes_current, closes_one, handle_misnested_a_tags, is_current_unlisted, is_formatting_element}
use Rattle.h5_builder_spec.specs.Changes.{pop}
use Rattle.h5_builder_spec.specs.formatting.Formatting.{create_formatting_element, reconstruct_active_formatting_elements}
use Rattle.h5_builder_spec.specs.Rows.{AdoptionAgency, CreateFormattingElement, HandleMisnestedATags, IsDone, ReconstructActiveFormattingElements, row_if}
use Rattle.h5_builder_spec.specs.World.{World, current, name_in, names_of}
use Rattle.h5_builder_spec.proofs.changes.FormattingLaws.{reconstruct_none}
use Rattle.h5_builder_laws.specs.Plain.{end_tag, start_tag}
use Rattle.h5_builder_laws.proofs.BodyStepLaws.{insert_is}
use Rattle.h5_builder_laws.proofs.CalmLaws.{Calm, calm_html, calm_closed, opened}
use Rattle.h5_builder_laws.proofs.FilledLaws.{Face}
use Rattle.h5_builder_laws.proofs.FormatListLaws.{no_link_listed}
use Rattle.h5_builder_laws.proofs.FormatRuleLaws.{IsFormatName, IsInlineName, a_formats, a_rule}
use Rattle.h5_builder_laws.proofs.GoesLaws.{Moves, moves_row}
use Rattle.h5_builder_laws.proofs.HtmlLaws.{AtHtml}
use Rattle.h5_builder_laws.proofs.ListedLaws.{OpenFormat, has_link}
use Rattle.h5_builder_laws.proofs.ModeLaws.{GoesByBody, end_by_body, start_by_body}
use Rattle.h5_builder_laws.proofs.RuleLaws.{end, start}

-- start tags: a new element below the current node, which is listed
module _ (choices : SinkChoices) {at_root : Option Role} {w : World} {p : ℕ} {d : Face} {names : List QualName} {path : List OpenFormat} {under : List ℕ} {base : List Entry} (c : Calm at_root w p d names path under base) where
  -- inside it
  abbrev pub formatted : List ℕ → List AttributeText → World
  formatted name attrs = opened choices w p name attrs w.mode (push_formatting (choices.fresh w.forest) (start name attrs) w.formatting) w.frameset_ok

  create_is : (name : List ℕ) (attrs : List AttributeText) → create_formatting_element choices (start name attrs) (reconstruct_active_formatting_elements choices w) ≡ formatted name attrs
  unfolding create_formatting_element
  create_is name attrs =
      ap (create_formatting_element choices (start name attrs)) (reconstruct_none choices w (calm_closed c))
      ∙ ap (λ (v : World). let x : World = record v { formatting = push_formatting (current v) (start name attrs) v.formatting } in x) (insert_is choices c name attrs)

  -- of a `b`, `i`, `em` or `code`
  pub starts_formatting : (name : List ℕ) (attrs : List AttributeText) → IsInlineName name → GoesByBody w.mode → Moves choices (start_tag name attrs) w (formatted name attrs)
  starts_formatting name attrs k m =
      moves_row choices (start name attrs) w (formatted name attrs) w.mode (ReconstructActiveFormattingElements ∷ CreateFormattingElement (start name attrs) ∷ []) refl c.ignore_lf (calm_html c)
      (start_by_body m name attrs w k.formats.outside.no_structure ∙ k.starts attrs w) refl k.formats.holds.no_title (create_is name attrs)

  -- of an `a`, while none is listed
  pub starts_link : (attrs : List AttributeText) → GoesByBody w.mode → has_link path ≡ false → Moves choices (start_tag (codes "a") attrs) w (formatted (codes "a") attrs)
  unfolding handle_misnested_a_tags
  starts_link attrs m h =
      let none = no_link_listed c.is_base c.entries h in
      let changes = HandleMisnestedATags ∷ ReconstructActiveFormattingElements ∷ CreateFormattingElement (start (codes "a") attrs) ∷ [] in
      moves_row choices (start (codes "a") attrs) w (formatted (codes "a") attrs) w.mode changes refl c.ignore_lf (calm_html c)
      (start_by_body m (codes "a") attrs w a_formats.outside.no_structure ∙ a_rule attrs w ∙ ap (λ o. row_if (not (is_some o)) changes IsDone) none) refl refl
      (ap (λ o. create_formatting_element choices (start (codes "a") attrs) (reconstruct_active_formatting_elements choices (close_misnested_a choices o w))) none ∙ create_is (codes "a") attrs)

-- end tags of the current node: it leaves the stack
module _ (choices : SinkChoices) (v : World) (n : ℕ) (s : List ℕ) (names : List QualName) (name : List ℕ) (k : IsFormatName name) (m : GoesByBody v.mode) (i : v.ignore_lf ≡ false) (j : AtHtml v)
    (open_is : v.stack ≡ n ∷ s) (e : names_of v ≡ html_name name ∷ names) where
  named_so : first_passes (is_html_named name) (names_of v) ≡ true
  named_so = ap (first_passes (is_html_named name)) e ∙ k.itself

  current_is : current v ≡ n
  current_is = ap (first_or v.forest.document) open_is

  -- whether it is listed
  unlisted_is : (l : List Entry) → v.formatting ≡ l → (b : Bool) → is_in n (nodes_of l) ≡ b → is_current_unlisted name v ≡ not b
  unlisted_is l f b o =
      ap (λ x. x && not (is_in (current v) (nodes_of v.formatting))) named_so
      ∙ ap (λ x. not (is_in x (nodes_of v.formatting))) current_is
      ∙ ap (λ x. not (is_in n (nodes_of x))) f
      ∙ ap not o

  by_rule : closes_one name v ≡ true → (u : World) → adoption_agency choices name v ≡ u → Moves choices (end_tag name) v u
  by_rule one u a =
      moves_row choices (end name) v u v.mode (AdoptionAgency name ∷ []) refl i j
      (end_by_body m name v k.outside ∙ k.ends v ∙ ap (λ b. row_if b (AdoptionAgency name ∷ []) IsDone) one) refl refl a

  -- where it is listed no more, it is popped, and marks may change
  pub ends_lost : is_in n (nodes_of v.formatting) ≡ false → Moves choices (end_tag name) v (record v { forest = mark (choices.marks_after_pop v.forest (current v)) v.forest; stack = s })
  unfolding adoption_agency pop
  ends_lost o =
      let u = unlisted_is v.formatting refl false o in
      by_rule (ap (λ b. b || closes_current name v) u) _
      (ap (λ b. cond b (pop choices v) (adopt_within 8 choices name v)) u
      ∙ ap (λ x. let y : World = record v { forest = mark (choices.marks_after_pop v.forest (current v)) v.forest; stack = but_first x } in y) open_is)

  -- where it is the newest that is listed, its entry is removed, too
  module _ (t : TagText) (l : List Entry) (t_is : is_same_text t.name name ≡ true) (f : v.formatting ≡ ElementEntry n t ∷ l) where
    abbrev it : FormattingElement
    it = record { node = n; tag = t }

    newest_is : newest_named name v.formatting ≡ Some it
    newest_is = ap (newest_named name) f ∙ ap (λ b. cond b (Some it) (newest_named name l)) t_is

    listed : is_current_unlisted name v ≡ false
    listed = unlisted_is (ElementEntry n t ∷ l) f true (ap (λ b. cond b true (is_in n (nodes_of l))) (eq-eqb n n refl))

    closes : closes_one name v ≡ true
    closes =
        ap (λ b. b || closes_current name v) listed
        ∙ ap (λ o. is_formatting_element (current v) o) newest_is
        ∙ ap (λ x. x == n) current_is
        ∙ eq-eqb n n refl

    abbrev closed : List ℕ → List Entry → World
    closed x y = record v { stack = x; formatting = y }

    -- a round without a furthest block
    adopts : (again : World → World) → adopt_by again choices name (Some it) v ≡ closed s l
    adopts again =
        let special : ℕ → Bool = λ x. is_special (name_in v.forest x) in
        let scope : ℕ → Bool = λ x. is_default_scope (name_in v.forest x) in
        let unlists : World = record v { formatting = without_entry n v.formatting } in
        ap (λ x. cond (not (is_in n x)) unlists (cond (list_any scope (newer_than n x)) v (adopt_at again choices it (furthest_block special (newer_than n x)) v))) open_is
        ∙ ap (λ b. cond (not (cond b true (is_in n s))) unlists
        (cond (list_any scope (cond b [] (n ∷ newer_than n s))) v (adopt_at again choices it (furthest_block special (cond b [] (n ∷ newer_than n s))) v))) (eq-eqb n n refl)
        ∙ ap (λ x. closed (older_than n x) (without_entry n v.formatting)) open_is
        ∙ ap (λ x. closed (older_than n (n ∷ s)) (without_entry n x)) f
        ∙ ap (λ b. closed (cond b s (older_than n s)) (cond b l (ElementEntry n t ∷ without_entry n l))) (eq-eqb n n refl)

    pub ends_kept : Moves choices (end_tag name) v (record v { stack = s; formatting = l })
    unfolding adoption_agency
    ends_kept =
        by_rule closes (closed s l)
        (ap (λ b. cond b (pop choices v) (adopt_within 8 choices name v)) listed
        ∙ ap (λ o. adopt_by (adopt_within 7 choices name) choices name o v) newest_is
        ∙ adopts (adopt_within 7 choices name))
