-- The call that a cleaner passes on for a call, and its state between two calls.
use Rattle.std.specs.Prelude.{ℕ, Bool, true, false, List, [], ◌∷◌, Option, Some, None, Result, Ok, if◌then◌else◌}
use Rattle.std.specs.Option.{option_map_or}
use Rattle.h5_names.specs.declared.qualified.QualName.{QualName}
use Rattle.h5_serialize.specs.Call.{Call, EndOf, StartOf, TextOf}
use Rattle.h5_serialize.specs.Standing.{Standing, answer_to, new_standing, standing_after, text_written}
use Rattle.h5_serialize.specs.declared.fault.SerializeFault.{SerializeFault}
use Rattle.h5_serialize.specs.declared.options.TraversalScope.TheVariants.{ChildrenOnly}
use Rattle.h5_builder_laws.specs.Plain.{doubled}
use Rattle.h5_clean.specs.Kinds.{kind_of}
use Rattle.h5_clean.specs.Pass.{first_place, is_dropped, is_let}
use Rattle.h5_clean.specs.Places.{inside, nowhere}
use Rattle.h5_clean.specs.Policies.{Rules, attributes_left}
use Rattle.h5_clean.specs.Texts.{text_left, without_marks}
use Rattle.h5_clean.specs.declared.cleaner.Front.{Front}
use Rattle.h5_clean.specs.declared.cleaner.Front.TheVariants as front
use Rattle.h5_clean.specs.declared.kind.Kind.{Kind}
use Rattle.h5_clean.specs.declared.kind.Kind.TheVariants as kind
use Rattle.h5_clean.specs.declared.elements.OpenElement.{OpenElement}
use Rattle.h5_clean.specs.declared.place.Place.{Place}

-- a serializer with the default options
abbrev pub first_standing : Standing
first_standing = new_standing (record { scripting_enabled = true; traversal_scope = ChildrenOnly None; create_missing_parent = false })

-- the open elements of the tree, innermost first; the position of the next text; and the state of the serializer
pub record State : Type 0 where
  pub rules : Rules
  pub elements : List OpenElement
  pub front : Front
  pub standing : Standing

abbrev pub first_state : Rules → State
first_state r = record { rules = r; elements = []; front = front.Marks; standing = first_standing }

-- the place of the next node
abbrev pub place_among : Rules → List OpenElement → Place
place_among r [] = first_place r
place_among r (o ∷ os) = o.place

abbrev pub place_of : State → Place
place_of s = place_among s.rules s.elements

-- an element that begins at a place
abbrev pub opened : Rules → Place → QualName → OpenElement
opened r x name =
    if is_let r x name then record { is_written = true; place = inside (kind_of name.local) x }
    else record { is_written = false; place = if is_dropped r name then nowhere x else x }

-- a text without what it loses at its position: U+FEFF at the start of the fragment
abbrev pub without_front : Front → List ℕ → List ℕ
without_front front.Marks text = without_marks text
without_front _ text = text

-- the text as it is passed on: at the start of a `pre` a leading newline is written twice
abbrev pub behind_front : Front → List ℕ → List ℕ
behind_front front.Newlines text = doubled text
behind_front f text = without_front f text

abbrev pub front_inside : Kind → Front
front_inside kind.Preformatted = front.Newlines
front_inside _ = front.Nothing

-- a text as it is written
abbrev pub text_handed : State → List ℕ → List ℕ
text_handed s text = behind_front s.front (text_left (place_of s).spot text)

abbrev pub call_of : List ℕ → Option Call
call_of [] = None
call_of (b ∷ t) = Some (TextOf (b ∷ t))

abbrev pub is_nothing : List ℕ → Bool
is_nothing [] = true
is_nothing _ = false

abbrev pub ends_written : List OpenElement → Bool
ends_written [] = false
ends_written (o ∷ os) = o.is_written

abbrev pub first_of : List OpenElement → Option OpenElement
first_of [] = None
first_of (o ∷ os) = Some o

abbrev pub without_first : List OpenElement → List OpenElement
without_first [] = []
without_first (o ∷ os) = os

-- the call that is passed on for a call
abbrev pub handed : State → Call → Option Call
handed s (StartOf name attrs) = if is_let s.rules (place_of s) name then Some (StartOf name (attributes_left s.rules name.local attrs)) else None
handed s (EndOf name) = if ends_written s.elements then Some (EndOf name) else None
handed s (TextOf text) = call_of (text_handed s text)
handed s call = None

abbrev pub standing_behind : State → Call → Standing
standing_behind s call = option_map_or (standing_after s.standing) (handed s call) s.standing

abbrev pub after_call : State → Call → State
after_call s (StartOf name attrs) = record s {
  elements = opened s.rules (place_of s) name ∷ s.elements;
  front = if is_let s.rules (place_of s) name then front_inside (kind_of name.local) else s.front;
  standing = standing_behind s (StartOf name attrs);
}
after_call s (EndOf name) = record s {
  elements = without_first s.elements;
  front = if ends_written s.elements then front.Nothing else s.front;
  standing = standing_behind s (EndOf name);
}
after_call s (TextOf text) = record s {
  front = if is_nothing (text_handed s text) then s.front else front.Nothing;
  standing = standing_behind s (TextOf text);
}
after_call s call = s

abbrev pub answer_of : State → Call → Result (Unit {0}) SerializeFault
answer_of s call = option_map_or (answer_to s.standing) (handed s call) (Ok tt)

abbrev pub text_of : State → Call → List ℕ
text_of s call = option_map_or (text_written s.standing) (handed s call) []
