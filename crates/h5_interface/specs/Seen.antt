-- The state that a sink shows, the conditions of its calls, and the effect of each call on that state.
use Rattle.std.specs.Prelude.{◌≡◌, ◌≢◌, ℕ, Bool, true, false, List, [], Option, None, Some, string_bytes}
use Rattle.std.specs.Option.{option_map_or}
use Rattle.h5_names.specs.declared.qualified.QualName.{QualName}
use Rattle.h5_names.specs.AttributeText.{AttributeText}
use Rattle.h5_interface.specs.declared.marks.ElementFlags.{ElementFlags}
use Rattle.h5_interface.specs.declared.marks.QuirksMode.{QuirksMode}
use Rattle.h5_interface.specs.declared.sink.NodeOrText.{NodeOrText}
use Rattle.h5_interface.specs.declared.sink.NodeOrText.TheVariants.{AppendNode, AppendText}
use Rattle.h5_interface.specs.Ancestors.{AtOrAbove}
use Rattle.h5_interface.specs.Changes.{add_missing_attributes, add_node, append_node, append_text, detach, host, insert_node_before, insert_text_before, mark, reparent}
use Rattle.h5_interface.specs.Forest.{Child, ChildNode, ChildText, CommentNode, DoctypeNode, DocumentNode, ElementNode, Forest, FragmentNode, InstructionNode, IsNode, Kind, Marks, Node, kind_of, parent_of}
use Rattle.h5_interface.specs.SinkChoices.{SinkChoices}

-- `errors` is the mark of errors: no parse error decreases it, it isn't 0 after one, and nothing else changes it
pub record Seen : Type 0 where
  pub forest : Forest
  pub quirks : QuirksMode
  pub errors : ℕ

-- the child that is passed
abbrev pub child_of : {H : Type 0} → (H → ℕ) → NodeOrText H → Child
child_of node (AppendNode h) = ChildNode (node h)
child_of node (AppendText t) = ChildText (string_bytes t)

-- c may become a child of p
pub record IsFreeFor (f : Forest) (p c : ℕ) : Type 0 where
  pub is_node : IsNode f c
  pub no_document : kind_of f c ≢ Some DocumentNode
  pub no_parent : parent_of f c ≡ None
  pub not_above : ¬ (AtOrAbove (parent_of f) c p)

-- this child may be inserted below p: a free node, or a text that is not empty
abbrev pub MayStandBelow : Forest → ℕ → Child → Type 0
MayStandBelow f p (ChildNode c) = IsFreeFor f p c
MayStandBelow f p (ChildText t) = t ≢ []

-- this child may be appended to p
pub record CanAppend (f : Forest) (p : ℕ) (x : Child) : Type 0 where
  pub is_node : IsNode f p
  pub child : MayStandBelow f p x

-- this child may be inserted before s, which has a parent and is not a fragment
pub record CanInsertBefore (f : Forest) (s : ℕ) (x : Child) : Type 0 where
  pub parent : ℕ
  pub is_parent : parent_of f s ≡ Some parent
  pub no_fragment : kind_of f s ≢ Some FragmentNode
  pub child : MayStandBelow f parent x

-- this child may be inserted before `element` if that has a parent, and else appended to `prev`
abbrev pub CanStandBy : Option ℕ → Forest → (element prev : ℕ) → Child → Type 0
CanStandBy None f element prev x = CanAppend f prev x
CanStandBy (Some p) f element prev x = CanInsertBefore f element x

pub record CanAppendBasedOnParent (f : Forest) (element prev : ℕ) (x : Child) : Type 0 where
  pub element_is_node : IsNode f element
  pub prev_is_node : IsNode f prev
  pub child : CanStandBy (parent_of f element) f element prev x

-- this node may be removed from its parent
pub record CanDetach (f : Forest) (n : ℕ) : Type 0 where
  pub is_node : IsNode f n
  pub no_fragment : kind_of f n ≢ Some FragmentNode

-- the children of `from` may be moved to `to`
pub record CanReparent (f : Forest) (from to : ℕ) : Type 0 where
  pub from_is_node : IsNode f from
  pub to_is_node : IsNode f to
  pub not_above : ¬ (AtOrAbove (parent_of f) from to)

-- a new node of a kind, with nothing below it and without a parent
abbrev pub no_marks : ElementFlags → Marks
no_marks flags = record { flags = flags; started = false; form = None }

abbrev pub no_flags : ElementFlags
no_flags = record { template = false; mathml_annotation_xml_integration_point = false; had_duplicate_attributes = false }

abbrev pub element : QualName → List AttributeText → ElementFlags → Node
element name attrs flags = record { kind = ElementNode name; attrs = attrs; children = []; contents = None; parent = None; marks = no_marks flags }

abbrev pub plain : Kind → Node
plain kind = record { kind = kind; attrs = []; children = []; contents = None; parent = None; marks = no_marks no_flags }

-- a new node is added to the forest, without a parent
abbrev pub make : SinkChoices → Node → Forest → Forest
make choices d f = add_node (choices.fresh f) d f

-- a new fragment becomes the contents of t
abbrev pub make_contents : SinkChoices → ℕ → Forest → Forest
make_contents choices t f = host t (choices.fresh f) (make choices (plain FragmentNode) f)

-- the contents of t are made if the flag is set
abbrev pub with_contents : Bool → SinkChoices → ℕ → Forest → Forest
with_contents true choices t f = make_contents choices t f
with_contents false choices t f = f

-- a new element, and its contents if it is a template (HTML standard, section 13.2.6.1, create an element for a token)
abbrev pub make_element : SinkChoices → QualName → List AttributeText → ElementFlags → Forest → Forest
make_element choices name attrs flags f =
    with_contents flags.template choices (choices.fresh f) (make choices (element name attrs flags) f)

-- the forest after each change of children
abbrev pub with_last_child : ℕ → Child → Forest → Forest
with_last_child p (ChildNode c) = append_node p c
with_last_child p (ChildText t) = append_text p t

abbrev pub with_child_before : ℕ → Child → Forest → Forest
with_child_before s (ChildNode c) = insert_node_before s c
with_child_before s (ChildText t) = insert_text_before s t

abbrev pub with_child_by : Option ℕ → (element prev : ℕ) → Child → Forest → Forest
with_child_by None element prev x = with_last_child prev x
with_child_by (Some p) element prev x = with_child_before element x

-- the state after the forest changed
abbrev pub changed : (Forest → Forest) → Seen → Seen
changed change s = record s { forest = change s.forest }

-- the state after each call
abbrev pub after_create_element : SinkChoices → QualName → List AttributeText → ElementFlags → Seen → Seen
after_create_element choices name attrs flags = changed (make_element choices name attrs flags)

abbrev pub after_create : SinkChoices → Kind → Seen → Seen
after_create choices kind = changed (make choices (plain kind))

abbrev pub after_append : ℕ → Child → Seen → Seen
after_append p x = changed (with_last_child p x)

abbrev pub after_append_before : ℕ → Child → Seen → Seen
after_append_before s x = changed (with_child_before s x)

abbrev pub after_append_by : (element prev : ℕ) → Child → Seen → Seen
after_append_by element prev x = changed (λ f. with_child_by (parent_of f element) element prev x f)

abbrev pub append_doctype : SinkChoices → (name public_id system_id : List ℕ) → Forest → Forest
append_doctype choices name public_id system_id f =
    append_node f.document (choices.fresh f) (make choices (plain (DoctypeNode name public_id system_id)) f)

abbrev pub after_append_doctype : SinkChoices → (name public_id system_id : List ℕ) → Seen → Seen
after_append_doctype choices name public_id system_id = changed (append_doctype choices name public_id system_id)

abbrev pub after_add_attrs : ℕ → List AttributeText → Seen → Seen
after_add_attrs n attrs = changed (add_missing_attributes n attrs)

abbrev pub after_remove : ℕ → Seen → Seen
after_remove n = changed (detach n)

abbrev pub after_reparent : (from to : ℕ) → Seen → Seen
after_reparent from to = changed (reparent from to)

abbrev pub after_started : SinkChoices → ℕ → Seen → Seen
after_started choices n = changed (λ f. mark (choices.marks_after_started f n) f)

abbrev pub after_pop : SinkChoices → ℕ → Seen → Seen
after_pop choices n = changed (λ f. mark (choices.marks_after_pop f n) f)

abbrev pub after_associate : SinkChoices → (element form place : ℕ) → (outer : Option ℕ) → Seen → Seen
after_associate choices element form place outer = changed (λ f. mark (choices.marks_after_associate f element form place outer) f)

abbrev pub attach_where : Bool → SinkChoices → (host template : ℕ) → List AttributeText → Forest → Forest
attach_where true choices host template attrs f = choices.after_attach f host template attrs
attach_where false choices host template attrs f = f

abbrev pub attach : SinkChoices → (host template : ℕ) → List AttributeText → Forest → Forest
attach choices host template attrs f = attach_where (choices.attaches f host template attrs) choices host template attrs f

abbrev pub after_attach : SinkChoices → (host template : ℕ) → List AttributeText → Seen → Seen
after_attach choices host template attrs = changed (attach choices host template attrs)

abbrev pub after_option_copy : SinkChoices → ℕ → Seen → Seen
after_option_copy choices n = changed (λ f. choices.after_option_copy f n)

abbrev pub after_quirks : QuirksMode → Seen → Seen
after_quirks mode s = record s { quirks = mode }

-- true if a node is an element that is an integration point
abbrev pub is_point_of_kind : SinkChoices → Node → Kind → Bool
is_point_of_kind choices d DocumentNode = false
is_point_of_kind choices d (DoctypeNode name public_id system_id) = false
is_point_of_kind choices d (ElementNode name) = choices.is_integration_point name d.attrs d.marks
is_point_of_kind choices d (CommentNode text) = false
is_point_of_kind choices d (InstructionNode target text) = false
is_point_of_kind choices d FragmentNode = false

abbrev pub is_integration_point : SinkChoices → Forest → ℕ → Bool
is_integration_point choices f n = option_map_or (λ d. is_point_of_kind choices d d.kind) (f.node n) false
