-- What putting and closing a template leaves (HTML standard, section 13.2.6.4.4, a start tag and an end tag whose tag
-- name is "template"). It is put in one of three ways: a new one in the place of insertion; or a loose one, pushed, and
-- a shadow root attached; or that one is popped again, and another put.
use Rattle.std.proofs.Common.{◌≡◌, ◌≢◌, ℕ, Bool, true, false, cond, List, ◌∷◌, codes, map, Some, IsTrue, refl, ap, sym, ◌∙◌}
use Rattle.h5_names.specs.AttributeText.{AttributeText}
use Rattle.h5_interface.specs.Forest.{ElementNode, Forest, HasContents, IsForest, IsNode, kind_of, parent_of}
use Rattle.h5_interface.specs.NewElement.{flags_of, is_html_template}
use Rattle.h5_interface.specs.Seen.{make_element}
use Rattle.h5_interface.specs.SinkChoices.{Rearranges, SinkChoices}
use Rattle.h5_interface.proofs.ForestLaws.{rearranged_node, there_alike}
use Rattle.h5_interface.proofs.MakingLaws.{made_contents, made_kind, made_parent, make_element_rearranges}
use Rattle.h5_tables.specs.TagSets.{is_html_named, is_thorough_implied}
use Rattle.h5_builder_spec.specs.formatting.FormattingNames.{html_name}
use Rattle.h5_builder_spec.specs.stack.Scope.{cut_names, later_names}
use Rattle.h5_builder_spec.proofs.entries.KeptListsLaws.{lists_pushed}
use Rattle.h5_builder_spec.specs.formatting.AdoptionAgency.{KeepsKinds}
use Rattle.h5_builder_spec.specs.Changes.{insert_element, owned, pop, pop_until_named, with_forest}
use Rattle.h5_builder_spec.specs.stack.Closing.{generate_implied_end_thoroughly}
use Rattle.h5_builder_spec.specs.insertion.Place.{place}
use Rattle.h5_builder_spec.specs.inner.Kept.{HasLists}
use Rattle.h5_builder_spec.specs.Sound.{Sound}
use Rattle.h5_builder_spec.specs.insertion.Templates.{asks_for_shadow, attach_or_put, insert_template, push_loose_template}
use Rattle.h5_builder_spec.specs.World.{World, current, name_in, name_of_found, names_of}
use Rattle.h5_builder_spec.proofs.adoption.AdoptionForest.{kinds_refl, kinds_trans}
use Rattle.h5_builder_spec.proofs.changes.ClosingLaws.{cut_dropped, names-thorough_implied, pop_sound, template_not_thorough}
use Rattle.h5_builder_spec.proofs.changes.FormattingLaws.{new_is_unlisted}
use Rattle.h5_builder_spec.proofs.changes.NameLaws.{names-cut, names-insert, names_kept}
use Rattle.h5_builder_spec.proofs.changes.PlaceLaws.{all_inserted, current_place_is_there, first_place}
use Rattle.h5_builder_spec.proofs.changes.PopLaws.{names-pop}
use Rattle.h5_builder_spec.proofs.changes.SituationLaws.{KeepsSituation, situation_insert, situation_pop, situation_tree}
use Rattle.h5_builder_spec.proofs.changes.SoundLaws.{all_pushed, all_rearranged, element_is_node, first_is_node}
use Rattle.h5_builder_spec.proofs.changes.TreeLaws.{OnlyTree, tree_insert, tree_pop, tree_then}

-- what holds in each of the ways that it may go
pub template_ways : (P : World → Type 0) (choices : SinkChoices) (attrs : List AttributeText) (duplicates : Bool) (w : World)
    → P (insert_element choices (codes "template") attrs duplicates w)
    → (let v = push_loose_template choices attrs duplicates w in choices.attaches v.forest (current w) (choices.fresh w.forest) attrs ≡ true
    → P (with_forest (choices.after_attach v.forest (current w) (choices.fresh w.forest) attrs) v))
    → P (insert_element choices (codes "template") attrs duplicates (pop choices (push_loose_template choices attrs duplicates w)))
    → P (insert_template choices attrs duplicates w)
unfolding insert_template
template_ways P choices attrs duplicates w put attached instead = at (asks_for_shadow choices attrs w)
  where
    v : World
    v = push_loose_template choices attrs duplicates w

    shadow : Forest
    shadow = choices.after_attach v.forest (current w) (choices.fresh w.forest) attrs

    attach : (b : Bool) → choices.attaches v.forest (current w) (choices.fresh w.forest) attrs ≡ b → P (cond b (with_forest shadow v) (insert_element choices (codes "template") attrs duplicates (pop choices v)))
    attach true e = attached e
    attach false e = instead

    at : (b : Bool) → P (cond b (attach_or_put choices (current w) (choices.fresh w.forest) attrs duplicates v) (insert_element choices (codes "template") attrs duplicates w))
    at false = put
    at true = attach (choices.attaches v.forest (current w) (choices.fresh w.forest) attrs) refl

-- nothing but forest, stack and list changes, and not the list
pub tree_insert_template : (choices : SinkChoices) (attrs : List AttributeText) (duplicates : Bool) (w : World) → OnlyTree w (insert_template choices attrs duplicates w)
unfolding push_loose_template
tree_insert_template choices attrs duplicates w =
    let v = push_loose_template choices attrs duplicates w in
    template_ways (OnlyTree w) choices attrs duplicates w
    (tree_insert choices (codes "template") attrs duplicates w)
    (λ e. refl)
    (tree_then w v (insert_element choices (codes "template") attrs duplicates (pop choices v)) refl
    (tree_then v (pop choices v) (insert_element choices (codes "template") attrs duplicates (pop choices v)) (tree_pop choices v) (tree_insert choices (codes "template") attrs duplicates (pop choices v))))

module _ (choices : SinkChoices) (attrs : List AttributeText) (duplicates : Bool) (w : World) (k : Sound w) where
  -- a loose template has contents, and no parent
  abbrev pub made : Forest
  made = make_element choices (html_name (codes "template")) attrs (flags_of (html_name (codes "template")) attrs duplicates) w.forest

  pub loose_rearranges : Rearranges w.forest made
  loose_rearranges = make_element_rearranges choices w.forest (html_name (codes "template")) attrs (flags_of (html_name (codes "template")) attrs duplicates) k.stands.is_forest

  loose_kind : kind_of made (choices.fresh w.forest) ≡ Some (ElementNode (html_name (codes "template")))
  loose_kind = made_kind choices w.forest (html_name (codes "template")) attrs (flags_of (html_name (codes "template")) attrs duplicates) k.stands.is_forest

  loose_contents : IsTrue (is_html_template (name_in made (choices.fresh w.forest))) → HasContents made (choices.fresh w.forest)
  loose_contents t =
      made_contents choices w.forest (html_name (codes "template")) attrs (flags_of (html_name (codes "template")) attrs duplicates)
      (ap (λ x. is_html_template (name_of_found x)) (sym loose_kind) ∙ t)

  loose_top : (p : ℕ) → parent_of made (choices.fresh w.forest) ≡ Some p → p ≡ made.document
  loose_top p e =
      let none = made_parent choices w.forest (html_name (codes "template")) attrs (flags_of (html_name (codes "template")) attrs duplicates) k.stands.is_forest in
      absurd (cc)

  -- so it may be pushed
  pub loose_stands : Sound (push_loose_template choices attrs duplicates w)
  unfolding push_loose_template
  loose_stands =
      all_pushed w.forest made (choices.fresh w.forest) w.stack k loose_rearranges (choices.fresh_is_new w.forest k.stands.is_forest)
      (html_name (codes "template"), loose_kind) loose_contents (λ e. loose_top)

  pub loose_lists : HasLists w → HasLists (push_loose_template choices attrs duplicates w)
  unfolding push_loose_template
  loose_lists h = lists_pushed (choices.fresh w.forest) w.stack w.formatting (new_is_unlisted choices w k) h

  pub loose_kinds : KeepsKinds w.forest (push_loose_template choices attrs duplicates w).forest
  unfolding push_loose_template
  loose_kinds = loose_rearranges.same_kind

  pub names-loose : names_of (push_loose_template choices attrs duplicates w) ≡ html_name (codes "template") ∷ names_of w
  unfolding names_of push_loose_template
  names-loose =
      ap (λ x. x ∷ map (name_in made) w.stack) (ap name_of_found loose_kind)
      ∙ ap (λ xs. html_name (codes "template") ∷ xs) (names_kept w made k loose_rearranges)

  -- host and template are nodes, so a shadow root that is attached leaves all standing
  pub host_is_node : IsNode (push_loose_template choices attrs duplicates w).forest (current w)
  unfolding push_loose_template
  host_is_node = rearranged_node w.forest made (current w) loose_rearranges (first_is_node w.forest w.stack k.stands)

  pub template_is_node : IsNode (push_loose_template choices attrs duplicates w).forest (choices.fresh w.forest)
  unfolding push_loose_template
  template_is_node = element_is_node made (choices.fresh w.forest) (html_name (codes "template"), loose_kind)

  pub attached_rearranges : (let v = push_loose_template choices attrs duplicates w in choices.attaches v.forest (current w) (choices.fresh w.forest) attrs ≡ true
      → Rearranges v.forest (choices.after_attach v.forest (current w) (choices.fresh w.forest) attrs))
  attached_rearranges e =
      choices.attach_rearranges (push_loose_template choices attrs duplicates w).forest (current w) (choices.fresh w.forest) attrs loose_stands.stands.is_forest host_is_node template_is_node e

-- what was there before isn't what is made
fresh_apart : (choices : SinkChoices) (f g : Forest) → IsForest g → KeepsKinds f g → (m : ℕ) → IsNode f m → choices.fresh g ≢ m
fresh_apart choices f g k kinds m node e = there_alike f g m (kinds m node) node (ap g.node (sym e) ∙ choices.fresh_is_new g k)

-- a node stands on top, that wasn't there before
pub record OnTop (w v : World) : Type 0 where
  pub node : ℕ
  pub stack : v.stack ≡ node ∷ w.stack
  pub new : (m : ℕ) → IsNode w.forest m → node ≢ m

-- an element that is put in the place of insertion stands
insert_stands : (choices : SinkChoices) (local : List ℕ) (attrs : List AttributeText) (duplicates : Bool) (w : World) → Sound w → Sound (insert_element choices local attrs duplicates w)
unfolding insert_element
insert_stands choices local attrs duplicates w k =
    all_inserted choices (place w) (html_name local) attrs duplicates (owned choices local attrs w) w k (current_place_is_there w k) (λ e. first_place w k.stands.is_forest e)

insert_lists : (choices : SinkChoices) (local : List ℕ) (attrs : List AttributeText) (duplicates : Bool) (w : World) → Sound w → HasLists w → HasLists (insert_element choices local attrs duplicates w)
unfolding insert_element
insert_lists choices local attrs duplicates w k h = lists_pushed (choices.fresh w.forest) w.stack w.formatting (new_is_unlisted choices w k) h

module _ (choices : SinkChoices) (attrs : List AttributeText) (duplicates : Bool) (w : World) (k : Sound w) where
  -- the loose one, pushed, and popped again
  abbrev loose : World
  loose = push_loose_template choices attrs duplicates w

  abbrev popped : World
  popped = pop choices loose

  -- with a shadow root; and the other one, put then
  abbrev with_shadow : Forest
  with_shadow = choices.after_attach loose.forest (current w) (choices.fresh w.forest) attrs

  abbrev instead : World
  instead = insert_element choices (codes "template") attrs duplicates popped

  sound_loose : Sound loose
  sound_loose = loose_stands choices attrs duplicates w k

  sound_popped : Sound popped
  sound_popped = pop_sound choices loose sound_loose

  -- the world is sound
  pub insert_template_stands : Sound (insert_template choices attrs duplicates w)
  insert_template_stands =
      template_ways Sound choices attrs duplicates w
      (insert_stands choices (codes "template") attrs duplicates w k)
      (λ e. all_rearranged loose.forest with_shadow loose.stack sound_loose (attached_rearranges choices attrs duplicates w k e))
      (insert_stands choices (codes "template") attrs duplicates popped sound_popped)

  -- the list agrees with the stack
  pub insert_template_lists : HasLists w → HasLists (insert_template choices attrs duplicates w)
  unfolding push_loose_template pop
  insert_template_lists h =
      template_ways HasLists choices attrs duplicates w
      (insert_lists choices (codes "template") attrs duplicates w k h)
      (λ e. loose_lists choices attrs duplicates w k h)
      (insert_lists choices (codes "template") attrs duplicates popped sound_popped h)

  -- a template's name comes first
  pub names-insert_template : names_of (insert_template choices attrs duplicates w) ≡ html_name (codes "template") ∷ names_of w
  unfolding names_of
  names-insert_template =
      let one = names-loose choices attrs duplicates w k in
      template_ways (λ v. names_of v ≡ html_name (codes "template") ∷ names_of w) choices attrs duplicates w
      (names-insert choices (codes "template") attrs duplicates w k)
      (λ e. names_kept loose with_shadow sound_loose (attached_rearranges choices attrs duplicates w k e) ∙ one)
      (names-insert choices (codes "template") attrs duplicates popped sound_popped
      ∙ ap (λ ns. html_name (codes "template") ∷ ns) (names-pop choices loose ∙ ap later_names one))

  -- nodes stay what they are
  pub insert_template_kinds : KeepsKinds w.forest (insert_template choices attrs duplicates w).forest
  insert_template_kinds =
      let one = loose_kinds choices attrs duplicates w k in
      template_ways (λ v. KeepsKinds w.forest v.forest) choices attrs duplicates w
      (situation_insert choices w (codes "template") attrs duplicates k).kinds
      (λ e. kinds_trans w.forest loose.forest with_shadow one (attached_rearranges choices attrs duplicates w k e).same_kind)
      (kinds_trans w.forest loose.forest instead.forest one
      (kinds_trans loose.forest popped.forest instead.forest (situation_pop choices loose).kinds (situation_insert choices popped (codes "template") attrs duplicates sound_popped).kinds))

  -- the one that is put stands on top
  pub template_on_top : OnTop w (insert_template choices attrs duplicates w)
  unfolding push_loose_template insert_element pop
  template_on_top =
      let kinds = kinds_trans w.forest loose.forest popped.forest (loose_kinds choices attrs duplicates w k) (situation_pop choices loose).kinds in
      template_ways (OnTop w) choices attrs duplicates w
      (record { node = choices.fresh w.forest; stack = refl; new = fresh_apart choices w.forest w.forest k.stands.is_forest (kinds_refl w.forest) })
      (λ e. record { node = choices.fresh w.forest; stack = refl; new = fresh_apart choices w.forest w.forest k.stands.is_forest (kinds_refl w.forest) })
      (record { node = choices.fresh popped.forest; stack = refl; new = fresh_apart choices w.forest popped.forest sound_popped.stands.is_forest kinds })

  -- modes see what they saw
  pub situation_insert_template : KeepsSituation w (insert_template choices attrs duplicates w)
  situation_insert_template = situation_tree w (insert_template choices attrs duplicates w) (tree_insert_template choices attrs duplicates w) insert_template_kinds

-- a template is closed: the names that remain after the first template's
pub names-close_template : (choices : SinkChoices) (w : World) → names_of (pop_until_named (codes "template") (generate_implied_end_thoroughly choices w)) ≡ cut_names (is_html_named (codes "template")) (names_of w)
names-close_template choices w =
    names-cut (codes "template") (generate_implied_end_thoroughly choices w)
    ∙ ap (cut_names (is_html_named (codes "template"))) (names-thorough_implied choices w)
    ∙ cut_dropped (is_html_named (codes "template")) is_thorough_implied template_not_thorough (names_of w)
