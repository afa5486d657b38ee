-- Templates: their modes, and how they are inserted (HTML standard, section 13.2.6.4.4, a start tag and an end tag
-- whose tag name is "template").
use Rattle.std.specs.Prelude.{ℕ, Bool, true, false, ◌&&◌, ◌||◌, if◌then◌else◌, List, [], ◌∷◌, codes}
use Rattle.std.specs.List.{list_any}
use Rattle.h5_names.specs.AttributeText.{AttributeText, is_same_text}
use Rattle.h5_interface.specs.NewElement.{flags_of}
use Rattle.h5_interface.specs.Seen.{make_element}
use Rattle.h5_interface.specs.SinkChoices.{SinkChoices}
use Rattle.h5_builder_spec.specs.reset.SituationChanges.{later_modes}
use Rattle.h5_tables.specs.declared.modes.InsertionMode.{InsertionMode}
use Rattle.h5_builder_spec.specs.formatting.FormattingNames.{html_name}
use Rattle.h5_builder_spec.specs.Changes.{insert_element, pop, with_forest}
use Rattle.h5_builder_spec.specs.insertion.FormOwner.{stands_by}
use Rattle.h5_builder_spec.specs.insertion.Place.{place}
use Rattle.h5_builder_spec.specs.World.{World, current}

-- a template insertion mode is pushed, popped, and replaced by another
abbrev pub push_template_mode : InsertionMode → World → World
push_template_mode mode w = record w { template_modes = mode ∷ w.template_modes }

abbrev pub pop_template_mode : World → World
pop_template_mode w = record w { template_modes = later_modes w.template_modes }

abbrev pub switch_template_mode : InsertionMode → World → World
switch_template_mode mode w = push_template_mode mode (pop_template_mode w)

-- an attribute `shadowrootmode` with the value `open` or `closed`
abbrev pub is_shadow_mode : AttributeText → Bool
is_shadow_mode a =
    is_same_text a.name.local (codes "shadowrootmode") && (is_same_text a.value (codes "open") || is_same_text a.value (codes "closed"))

-- more than the root is open
abbrev pub is_more_open : List ℕ → Bool
is_more_open [] = false
is_more_open (n ∷ []) = false
is_more_open (n ∷ m ∷ s) = true

-- a template may become the shadow root of the current node: its attributes say so, the sink allows it at the place of
-- insertion, and the current node isn't the root
abbrev pub asks_for_shadow : SinkChoices → List AttributeText → World → Bool
asks_for_shadow choices attrs w =
    (list_any is_shadow_mode attrs && choices.allows_shadow w.forest (stands_by (place w))) && is_more_open w.stack

-- an HTML `template` without a parent, pushed
unfoldable pub push_loose_template : SinkChoices → List AttributeText → Bool → World → World
push_loose_template choices attrs duplicates w = record w {
  forest = make_element choices (html_name (codes "template")) attrs (flags_of (html_name (codes "template")) attrs duplicates) w.forest;
  stack = choices.fresh w.forest ∷ w.stack;
}

-- the sink attaches its contents to the host; otherwise it is popped, and another template is put at the place of
-- insertion
abbrev pub attach_or_put : SinkChoices → (host template : ℕ) → List AttributeText → Bool → World → World
attach_or_put choices host template attrs duplicates w =
    if choices.attaches w.forest host template attrs then with_forest (choices.after_attach w.forest host template attrs) w
    else insert_element choices (codes "template") attrs duplicates (pop choices w)

-- a template, which may become the shadow root of the node that is current before
unfoldable pub insert_template : SinkChoices → List AttributeText → Bool → World → World
insert_template choices attrs duplicates w =
    if asks_for_shadow choices attrs w
    then attach_or_put choices (current w) (choices.fresh w.forest) attrs duplicates (push_loose_template choices attrs duplicates w)
    else insert_element choices (codes "template") attrs duplicates w
