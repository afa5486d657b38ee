-- The list of active formatting elements in a world (HTML standard, section 13.2.4.3).
use Rattle.std.specs.Prelude.{Bool, true, false, List, [], ◌∷◌, length, take}
use Rattle.h5_token.specs.TokenText.{TagText}
use Rattle.h5_interface.specs.SinkChoices.{SinkChoices}
use Rattle.h5_builder_spec.specs.formatting.FormattingList.{Entry, ElementEntry, MarkerEntry, clear_to_marker, closed_front, push_formatting, reconstructed}
use Rattle.h5_builder_spec.specs.Changes.{insert_element}
use Rattle.h5_builder_spec.specs.World.{World, current, names_of}
use Rattle.h5_builder_spec.specs.formatting.FormattingNames.{html_name}
use Rattle.h5_names.specs.declared.qualified.QualName.{QualName}

-- an HTML element for a tag, at the place of insertion, pushed
abbrev pub insert_for : SinkChoices → TagText → World → World
insert_for choices tag w = insert_element choices tag.name tag.attrs tag.had_duplicate_attributes w

-- a formatting element: an element for the tag is inserted, and also added to the list
unfoldable pub create_formatting_element : SinkChoices → TagText → World → World
create_formatting_element choices tag w =
    let v = insert_for choices tag w in
    record v { formatting = push_formatting (current v) tag v.formatting }

-- new elements for entries are inserted, the oldest entry's first
abbrev pub insert_anew : SinkChoices → List Entry → World → World
insert_anew choices [] w = w
insert_anew choices (MarkerEntry ∷ l) w = insert_anew choices l w
insert_anew choices (ElementEntry n tag ∷ l) w = insert_for choices tag (insert_anew choices l w)

abbrev pub is_empty : List Entry → Bool
is_empty [] = true
is_empty (e ∷ l) = false

-- "reconstruct the active formatting elements"
unfoldable pub reconstruct_active_formatting_elements : SinkChoices → World → World
reconstruct_active_formatting_elements choices w =
    let front = closed_front w.stack w.formatting in
    let v = insert_anew choices front w in
    record v { formatting = reconstructed (take (length front) v.stack) w.stack w.formatting }

-- the names of open elements after new elements were inserted for entries
abbrev pub names_made_anew : List Entry → List QualName → List QualName
names_made_anew [] names = names
names_made_anew (MarkerEntry ∷ l) names = names_made_anew l names
names_made_anew (ElementEntry n tag ∷ l) names = html_name tag.name ∷ names_made_anew l names

unfoldable pub names_anew : World → List QualName
names_anew w = names_made_anew (closed_front w.stack w.formatting) (names_of w)

-- "insert a marker"
unfoldable pub insert_marker : World → World
insert_marker w = record w { formatting = MarkerEntry ∷ w.formatting }

-- "clear the list of active formatting elements up to the last marker"
unfoldable pub clear_active_formatting_to_marker : World → World
clear_active_formatting_to_marker w = record w { formatting = clear_to_marker w.formatting }
