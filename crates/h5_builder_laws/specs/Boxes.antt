-- Which start tags lead from a box to another.
use Rattle.std.specs.Prelude.{◌≡◌, ℕ, Bool, true, false, List, [], ◌∷◌, Option, None, Some, if◌then◌else◌, codes, map}
use Rattle.std.specs.Option.{option_and_then}
use Rattle.h5_names.specs.AttributeText.{AttributeText, is_same_text}
use Rattle.h5_token.specs.TokenText.{TokenText}
use Rattle.h5_interface.specs.SinkChoices.{SinkChoices}
use Rattle.h5_tables.specs.TagSets.{cell_names, is_one_of}
use Rattle.h5_builder_spec.specs.Run.{View, after_all, replies}
use Rattle.h5_builder_spec.specs.inner.Kept.{Fitting}
use Rattle.h5_builder_laws.specs.Plain.{Around, Cells, Columns, Flow, IsHead, Nodes, Part, Rows, Sections, Sort, TablePart, as_written, barrier_names, behind, end_tag, nothing_open, open_block_names, part_names, phrase_names, plain_doctype, plain_reply, start_tag, term_names, tokens_before, within}
use Rattle.h5_builder_laws.specs.Rebuilding.{IsStart}
use Rattle.h5_builder_laws.specs.Staying.{IsBox}

-- what an element of this name holds among nodes of flow, if its start tag closes nothing there, and if its content is read like
-- theirs: a phrase anywhere, a block outside a `p`, and an item, a term or a description that isn't in another
abbrev pub held_in_item : Around → List ℕ → Option Sort
held_in_item o name =
    if is_same_text name (codes "li") then (if o.in_item then None else Some (Flow false (record (behind o) { in_item = true })))
    else (if is_one_of term_names name then (if o.in_description then None else Some (Flow false (record (behind o) { in_description = true })))
    else (if is_same_text name (codes "table") then Some (Part false Sections)
    else None))

abbrev pub held_in_block : Around → List ℕ → Option Sort
held_in_block o name =
    if is_one_of open_block_names name then Some (Flow false (within o))
    else (if is_one_of barrier_names name then Some (Flow false (behind o))
    else held_in_item o name)

abbrev pub held_in_flow : Around → List ℕ → Option Sort
held_in_flow o name =
    if is_one_of phrase_names name then Some (Flow false (within o))
    else (if o.in_p then None else held_in_block o name)

-- and in a table, its sections and its rows
abbrev pub held_in_part : TablePart → List ℕ → Option Sort
held_in_part Sections name =
    if is_one_of part_names name then Some (Part false Rows)
    else (if is_same_text name (codes "caption") then Some (Flow false nothing_open) else None)
held_in_part Rows name = if is_same_text name (codes "tr") then Some (Part false Cells) else None
held_in_part Cells name = if is_one_of cell_names name then Some (Flow false nothing_open) else None

abbrev pub held_in : Sort → List ℕ → Option Sort
held_in (Flow a o) name = held_in_flow o name
held_in (Part a part) name = held_in_part part name
held_in (Columns a) name = None

-- a start tag, by its name and its attributes
pub record Start : Type 0 where
  pub name : List ℕ
  pub attrs : List AttributeText

-- and one after another
abbrev pub held_behind : Sort → List Start → Option Sort
held_behind s [] = Some s
held_behind s (t ∷ ts) = option_and_then (λ inner. held_behind inner ts) (held_in s t.name)

abbrev pub is_flow : Option Sort → Bool
is_flow (Some (Flow a o)) = true
is_flow _ = false

-- A BOX BY ITS NAME: an element that is a box, if it is a child of a body or of another such element, as far as no item, term or
-- description is in another
abbrev pub is_box_name : List ℕ → Bool
is_box_name name = is_flow (held_in_flow nothing_open name)

abbrev pub start_tags : List Start → List TokenText
start_tags ts = map (λ t. start_tag t.name t.attrs) ts

-- TOKENS LEAD TO A BOX: the builder goes on after each, and the current node takes nodes of flow, with this much open around them
pub record LeadsToBox (choices : SinkChoices) (ts : List TokenText) (inner : Around) (v : View) : Type 0 where
  pub box : IsBox inner (after_all choices ts v).world
  pub fitting : Fitting (after_all choices ts v).world
  pub unended : (after_all choices ts v).ended ≡ false
  pub unfailed : (after_all choices ts v).failed ≡ false
  pub answers : replies choices ts v ≡ map plain_reply ts

-- start tags do, from a box, with as much open around as `held_behind` says
abbrev pub StartTagsLeadToBoxes : SinkChoices → Type 0
StartTagsLeadToBoxes choices =
    (ts : List Start) (o inner : Around) (v : View) (b : IsBox o v.world) → Fitting v.world → v.ended ≡ false → v.failed ≡ false
    → held_behind (Flow false o) ts ≡ Some (Flow false inner) → LeadsToBox choices (start_tags ts) inner v

-- so does the start tag of an element that is a box by its name, from a box in which nothing is open
abbrev pub BoxNamesLeadToBoxes : SinkChoices → Type 0
BoxNamesLeadToBoxes choices =
    (t : Start) (v : View) (b : IsBox nothing_open v.world) → Fitting v.world → v.ended ≡ false → v.failed ≡ false
    → is_box_name t.name ≡ true → (inner : Around) × LeadsToBox choices (start_tags (t ∷ [])) inner v

-- the tokens of a document up to its body, whose head is empty or has a title of one text
abbrev pub tokens_up_to_body : (html_attrs head_attrs body_attrs : List AttributeText) → (head : Nodes) → List TokenText
tokens_up_to_body html_attrs head_attrs body_attrs head =
    plain_doctype ∷ start_tag (codes "html") html_attrs ∷ start_tag (codes "head") head_attrs
    ∷ tokens_before (as_written head) (end_tag (codes "head") ∷ start_tag (codes "body") body_attrs ∷ [])

-- from a new builder of documents they lead to the body, in which nothing is open
abbrev pub BodiesAreBoxes : SinkChoices → Type 0
BodiesAreBoxes choices =
    (html_attrs head_attrs body_attrs : List AttributeText) (head : Nodes) (v : View) → IsHead head → IsStart v.world → v.ended ≡ false → v.failed ≡ false
    → LeadsToBox choices (tokens_up_to_body html_attrs head_attrs body_attrs head) nothing_open v
