-- What is left of a tree.
use Rattle.std.specs.Prelude.{◌≡◌, ℕ, ◌-◌, ◌≤◌, ◌&&◌, ◌||◌, Bool, true, false, not, List, [], ◌∷◌, ◌++◌, if◌then◌else◌}
use Rattle.h5_names.specs.declared.qualified.QualName.{QualName}
use Rattle.h5_serialize.specs.Names.{is_html}
use Rattle.h5_builder_laws.specs.Plain.{ElementThen, End, Nodes, TextThen}
use Rattle.h5_clean.specs.Kinds.{kind_of}
use Rattle.h5_clean.specs.Places.{fits, inside, nowhere}
use Rattle.h5_clean.specs.Policies.{Rules, attributes_left}
use Rattle.h5_clean.specs.Source as source
use Rattle.h5_clean.specs.Source.{CommentThen, DoctypeThen, Done, InstructionThen, Source}
use Rattle.h5_clean.specs.Texts.{text_left, without_marks}
use Rattle.h5_clean.specs.declared.place.Place.{Place}
use Rattle.h5_clean.specs.declared.place.Spot.TheVariants as spot

-- a text before nodes; it is joined with the first node if that is a text
abbrev pub put_text : List ℕ → Nodes → Nodes
put_text [] ns = ns
put_text (b ∷ t) (TextThen u rest) = TextThen ((b ∷ t) ++ u) rest
put_text (b ∷ t) End = TextThen (b ∷ t) End
put_text (b ∷ t) (ElementThen name attrs inner rest) = TextThen (b ∷ t) (ElementThen name attrs inner rest)

-- a text before nodes that don't begin with a text
abbrev pub text_then : List ℕ → Nodes → Nodes
text_then [] ns = ns
text_then (b ∷ t) ns = TextThen (b ∷ t) ns

-- nodes whose first text is changed; it is removed if it becomes empty
abbrev pub with_first : (List ℕ → List ℕ) → Nodes → Nodes
with_first change (TextThen text rest) = text_then (change text) rest
with_first change ns = ns

-- an element of HTML that the rules allow, and that fits at a place
abbrev pub is_let : Rules → Place → QualName → Bool
is_let r x name = is_html name && (r.names name.local && fits (kind_of name.local) x)

-- an element that is dropped with its content: it isn't of HTML, or the rules drop it and don't allow it
abbrev pub is_dropped : Rules → QualName → Bool
is_dropped r name = not (is_html name) || (r.drops name.local && not (r.names name.local))

-- what is left of a tree at a place, followed by other nodes; an element that isn't allowed is replaced by what is left
-- of its content
abbrev pub left_before : Rules → Place → Source → Nodes → Nodes
left_before r x Done more = more
left_before r x (source.TextThen text rest) more = put_text (text_left x.spot text) (left_before r x rest more)
left_before r x (source.ElementThen name attrs inner rest) more =
    if is_let r x name
    then ElementThen name.local (attributes_left r name.local attrs) (left_before r (inside (kind_of name.local) x) inner End) (left_before r x rest more)
    else left_before r (if is_dropped r name then nowhere x else x) inner (left_before r x rest more)
left_before r x (CommentThen text rest) more = left_before r x rest more
left_before r x (DoctypeThen name rest) more = left_before r x rest more
left_before r x (InstructionThen target content rest) more = left_before r x rest more

-- in flow, with what may be open around the text; its parent doesn't count as a `ruby`
abbrev pub first_place : Rules → Place
first_place r = record { spot = spot.InFlow; in_p = r.around.in_p; in_heading = r.around.in_heading; in_item = r.around.in_item; in_description = r.around.in_description; in_link = r.around.in_link; in_ruby = false; room = r.depth }

-- what is left of a fragment; a tokenizer drops a U+FEFF at its start, so it has none
abbrev pub cleaned : Rules → Source → Nodes
cleaned r s = with_first without_marks (left_before r (first_place r) s End)

-- the rules allow each element, with all its attributes
abbrev pub AllLet : Rules → Nodes → Type 0
AllLet r End = Unit {0}
AllLet r (TextThen text rest) = AllLet r rest
AllLet r (ElementThen name attrs inner rest) = (r.names name ≡ true) × ((attributes_left r name attrs ≡ attrs) × (AllLet r inner × AllLet r rest))

-- elements are at most this deep
abbrev pub IsWithin : ℕ → Nodes → Type 0
IsWithin depth End = Unit {0}
IsWithin depth (TextThen text rest) = IsWithin depth rest
IsWithin depth (ElementThen name attrs inner rest) = (1 ≤ depth) × (IsWithin (depth - 1) inner × IsWithin depth rest)
