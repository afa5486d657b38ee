-- Calls of the sink for a new element before it is inserted (HTML standard, section 13.2.6.1, create an element for a
-- token: a form owner).
use Rattle.std.specs.Prelude.{ℕ, Bool, not, ◌&&◌, ◌||◌, if◌then◌else◌, List, [], ◌∷◌, codes, Option, Some, None}
use Rattle.std.specs.List.{list_any}
use Rattle.h5_names.specs.AttributeText.{AttributeText, is_same_text}
use Rattle.h5_interface.specs.Changes.{mark}
use Rattle.h5_interface.specs.Forest.{Forest, Marks}
use Rattle.h5_interface.specs.NewElement.{is_expanded}
use Rattle.h5_interface.specs.SinkChoices.{SinkChoices}
use Rattle.h5_tables.specs.TagSets.{is_one_of}
use Rattle.h5_builder_spec.specs.stack.Scope.{has_template}
use Rattle.h5_builder_spec.specs.insertion.Place.{LastChild, Place, TableFosterParenting}
use Rattle.h5_builder_spec.specs.World.{World, names_of}

-- a call of the sink for a new element, as the marks that it sets; or no call
abbrev pub Marking : Type 0
Marking = Option (Forest → ℕ → Marks)

abbrev pub marked_by : Marking → Forest → Forest
marked_by None f = f
marked_by (Some marks) f = mark (marks f) f

-- elements that may have a form owner; an `img` may have one regardless of its attributes
unfoldable pub form_associatable_names : List (List ℕ)
form_associatable_names =
    codes "button" ∷ codes "fieldset" ∷ codes "img" ∷ codes "input" ∷ codes "object" ∷ codes "output" ∷ codes "select" ∷
    codes "textarea" ∷ []

-- an attribute `form` without a namespace
abbrev pub names_a_form : List AttributeText → Bool
names_a_form = list_any (λ a. is_expanded [] (codes "form") a.name)

abbrev pub may_have_owner : List ℕ → List AttributeText → Bool
may_have_owner local attrs = is_one_of form_associatable_names local && (is_same_text local (codes "img") || not (names_a_form attrs))

-- the form owner: the form element, unless a template is open
unfoldable pub form_owner : List ℕ → List AttributeText → World → Option ℕ
form_owner local attrs w = if may_have_owner local attrs && not (has_template (names_of w)) then w.form else None

-- the nodes that determine where it will be inserted
abbrev pub stands_by : Place → ℕ
stands_by (LastChild p) = p
stands_by (TableFosterParenting element prev) = element

abbrev pub stands_else_in : Place → Option ℕ
stands_else_in (LastChild p) = None
stands_else_in (TableFosterParenting element prev) = Some prev

-- "associate" the new element with its form owner
abbrev pub associates : SinkChoices → (element : ℕ) → Place → Option ℕ → Marking
associates choices element p None = None
associates choices element p (Some form) = Some (λ f. choices.marks_after_associate f element form (stands_by p) (stands_else_in p))
