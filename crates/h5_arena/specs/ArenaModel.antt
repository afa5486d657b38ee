-- An arena: its nodes in the order in which they were made, and the forest that they are.
use Rattle.std.specs.Prelude.{◌≡◌, ◌≢◌, ◌<◌, ◌+◌, ℕ, ◌-◌, ◌==◌, ◌&&◌, Bool, true, false, cond, length, List, [], ◌∷◌, map, Option, None, Some, String, slice_get, string_bytes, refl}
use Rattle.std.specs.BTreeSet.{BTreeSet}
use Rattle.std.specs.List.{find}
use Rattle.std.specs.Option.{option_and_then, option_map, option_map_or}
use Rattle.std.specs.Arc.{arc_value}
use Rattle.std.specs.declared.alloc.Global.{Global}
use Prim.Native.Nat.{zero, suc}
use Rattle.std.proofs.Math.Nat.{le_refl}
use Rattle.h5_names.specs.declared.qualified.QualName.{QualName}
use Rattle.h5_names.specs.AttributeText.{AttributeText, attribute_texts, is_same_text}
use Rattle.h5_interface.specs.declared.marks.QuirksMode.{QuirksMode}
use Rattle.h5_interface.specs.declared.marks.QuirksMode.TheVariants.{NoQuirks}
use Rattle.h5_interface.specs.Forest as forest
use Rattle.h5_interface.specs.Forest.{CommentNode, DoctypeNode, DocumentNode, ElementNode, Forest, FragmentNode, InstructionNode, IsForest, IsNode, Marks, Node, children_of}
use Rattle.h5_interface.specs.Seen.{Seen, no_flags, no_marks, plain}
use Rattle.h5_interface.specs.SinkChoices.{Rearranges, SinkChoices}
use Rattle.h5_arena.specs.AttributeNames.{AreNamesAt, names_at}
use Rattle.h5_arena.specs.declared.attribute_names.AttributeNames.{AttributeNames}
use Rattle.h5_arena.specs.declared.below.Below.{Below}
use Rattle.h5_arena.specs.declared.below.Below.TheVariants as below_is
use Rattle.h5_arena.specs.declared.link.Link.{Link}
use Rattle.h5_arena.specs.declared.nodes.NodeData.{NodeData}
use Rattle.h5_arena.specs.declared.nodes.NodeId.{NodeId}
use Rattle.h5_arena.specs.declared.nodes.Kind.{Kind}
use Rattle.h5_arena.specs.declared.nodes.Kind.TheVariants.{Comment, Doctype, Document, Element, Fragment, Instruction}
use Rattle.h5_arena.specs.declared.nodes.Child as child
use Rattle.h5_arena.specs.declared.nodes.Child.TheVariants as child_is

-- a kind, a child and a node, independent of where their texts are in memory
abbrev pub kind_view : Kind → forest.Kind
kind_view Document = DocumentNode
kind_view (Doctype name public_id system_id) = DoctypeNode (string_bytes name) (string_bytes public_id) (string_bytes system_id)
kind_view (Element name) = ElementNode name
kind_view (Comment text) = CommentNode (string_bytes text)
kind_view (Instruction target text) = InstructionNode (string_bytes target) (string_bytes text)
kind_view Fragment = FragmentNode

abbrev pub child_view : child.Child → forest.Child
child_view (child_is.Node id) = forest.ChildNode id.index
child_view (child_is.Text text) = forest.ChildText (string_bytes text)

abbrev pub child_views : List child.Child → List forest.Child
child_views = map child_view

-- the stored children of a node
abbrev pub children_in : Below → List child.Child
children_in (below_is.One c) = c ∷ []
children_in (below_is.List list) = list.items

-- the children are stored in a list
abbrev pub IsList : Below → Type 0
IsList (below_is.One c) = ⊥
IsList (below_is.List list) = Unit {0}

abbrev pub place : NodeId → ℕ
place id = id.index

abbrev pub optional_place : Option NodeId → Option ℕ
optional_place = option_map place

-- the target of a link
abbrev pub place_before : ℕ → Option ℕ
place_before zero = None
place_before (suc n) = Some n

abbrev pub link_place : Link → Option ℕ
link_place link = place_before link.behind

abbrev pub node_view : NodeData → Node
node_view d = record {
  kind = kind_view (arc_value d.kind);
  attrs = attribute_texts d.attrs.items;
  children = child_views (children_in d.children);
  contents = link_place d.contents;
  parent = link_place d.parent;
  marks = record { flags = d.flags; started = d.started; form = link_place d.form };
}

abbrev pub node_views : List NodeData → List Node
node_views = map node_view

-- nodes named by their indices; the first is the document
abbrev pub forest_of : List Node → Forest
forest_of nodes = record { document = 0; bound = length nodes; node = slice_get nodes }

abbrev pub forest_in : List NodeData → Forest
forest_in nodes = forest_of (node_views nodes)

-- the stored form owner of a node
abbrev pub form_of : Forest → ℕ → Option ℕ
form_of f n = option_and_then (λ d. d.marks.form) (f.node n)

-- each form owner is a node
pub record HoldsOwners (f : Forest) : Type 0 where
  pub owner : (n form : ℕ) → form_of f n ≡ Some form → IsNode f form

-- only nodes have stored names, which are those of their attributes
pub record KnowsNames (names : AttributeNames) (f : Forest) : Type 0 where
  pub known : (n : ℕ) (d : Node) → f.node n ≡ Some d → AreNamesAt names n d.attrs
  pub inside : (n : ℕ) (found : BTreeSet QualName) → names_at names n ≡ Some found → IsNode f n

-- the data stored besides the tree is right
pub record HasNotes (names : AttributeNames) (f : Forest) : Type 0 where
  pub owners : HoldsOwners f
  pub kept_names : KnowsNames names f

-- the nodes of an arena are a forest, and the data stored besides is right
pub record IsArena (names : AttributeNames) (f : Forest) : Type 0 where
  pub is_forest : IsForest f
  pub notes : HasNotes names f

-- an arena: its nodes, its quirks mode, the texts of the reported errors, whether the text of an error was lost, and whether such texts are
-- stored at all
pub record ArenaView : Type 0 where
  pub nodes : List Node
  pub quirks : QuirksMode
  pub errors : List (List ℕ)
  pub errors_lost : Bool
  pub keeps_errors : Bool

-- an arena with only its document
abbrev pub new_arena : ArenaView
new_arena = record { nodes = plain DocumentNode ∷ []; quirks = NoQuirks; errors = []; errors_lost = false; keeps_errors = true }

-- an arena with only its document, which stores no text of an error
abbrev pub silent_arena : ArenaView
silent_arena = record new_arena { keeps_errors = false }

abbrev pub forest_seen : ArenaView → Forest
forest_seen a = forest_of a.nodes

-- each stored error counts 1, and all lost ones together 1
abbrev pub seen_of : ArenaView → Seen
seen_of a = record { forest = forest_of a.nodes; quirks = a.quirks; errors = length a.errors + cond a.errors_lost 1 0 }

-- the texts of errors, whether one was lost, and whether they are stored, are unchanged
abbrev pub KeepsErrors : (old new : ArenaView) → Type 0
KeepsErrors old new = (new.errors ≡ old.errors) × (new.errors_lost ≡ old.errors_lost) × (new.keeps_errors ≡ old.keeps_errors)

abbrev pub texts_of : List (String Global) → List (List ℕ)
texts_of = map string_bytes

-- id is a node of the arena
abbrev pub IsHeld : ArenaView → NodeId → Type 0
IsHeld a id = id.index < length a.nodes

-- a child that is a node is one of the arena
abbrev pub IsChildHeld : ArenaView → child.Child → Type 0
IsChildHeld a (child_is.Node id) = IsHeld a id
IsChildHeld a (child_is.Text text) = Unit {0}

-- the name of an element
abbrev pub name_of_kind : forest.Kind → Option QualName
name_of_kind DocumentNode = None
name_of_kind (DoctypeNode name public_id system_id) = None
name_of_kind (ElementNode name) = Some name
name_of_kind (CommentNode text) = None
name_of_kind (InstructionNode target text) = None
name_of_kind FragmentNode = None

-- the value of the first attribute with this local name and no namespace
abbrev pub value_of : (local : List ℕ) → List AttributeText → Option (List ℕ)
value_of local attrs = option_map (λ a. a.value) (find (λ a. is_same_text a.name.ns [] && is_same_text a.name.local local) attrs)

-- the node whose child a node is; a fragment isn't a child
abbrev pub child_parent_of_kind : forest.Kind → Option ℕ → Option ℕ
child_parent_of_kind DocumentNode parent = parent
child_parent_of_kind (DoctypeNode name public_id system_id) parent = parent
child_parent_of_kind (ElementNode name) parent = parent
child_parent_of_kind (CommentNode text) parent = parent
child_parent_of_kind (InstructionNode target text) parent = parent
child_parent_of_kind FragmentNode parent = None

abbrev pub child_parent : Node → Option ℕ
child_parent d = child_parent_of_kind d.kind d.parent

-- a node is a child of this one
pub record IsChildOf (f : Forest) (n p : ℕ) : Type 0 where
  pub parent : forest.parent_of f n ≡ Some p
  pub no_fragment : forest.kind_of f n ≢ Some FragmentNode

-- a node is not a child: it is a fragment, or has no parent
abbrev pub IsNoChild : Forest → ℕ → Type 0
IsNoChild f n = forest.kind_of f n ≢ Some FragmentNode → forest.parent_of f n ≡ None

-- a part of a node's data, if the id is a node of the arena
abbrev pub at_node : {T : Type 0} → (Node → T) → ArenaView → NodeId → Option T
at_node look a id = option_map look (slice_get a.nodes id.index)

-- the node with this number, if there is one
abbrev pub id_at : ArenaView → ℕ → Option NodeId
id_at a n = option_map (λ _. record { index = n }) (slice_get a.nodes n)

-- the node of a child
abbrev pub node_of : forest.Child → Option ℕ
node_of (forest.ChildNode n) = Some n
node_of (forest.ChildText t) = None

-- the root of a fragment: the document's last child, if it is a node
abbrev pub fragment_root : ArenaView → Option ℕ
fragment_root a = let children = children_of (forest_seen a) 0 in option_and_then node_of (slice_get children (length children - 1))

-- the marks of a node
abbrev pub marks_at : Forest → ℕ → Marks
marks_at f n = option_map_or (λ d. d.marks) (f.node n) (no_marks no_flags)

-- an unchanged forest is a rearrangement of itself
pub same_forest : (f : Forest) → IsForest f → Rearranges f f
same_forest f k = record {
  is_forest = k;
  same_document = refl;
  same_kind = λ n there. refl;
  contents = λ n has. has;
  parents = λ n p there e. e;
}

-- A new node gets the first unused index. A script that started is marked, and an element that is associated with a form gets that form;
-- `pop` changes nothing. Shadow roots are allowed, but none is attached, and no option is copied.
abbrev pub arena_choices : SinkChoices
arena_choices = record {
  fresh = λ f. f.bound;
  fresh_is_new = λ f k. k.bounded f.bound (le_refl f.bound);
  marks_after_pop = λ f popped n. marks_at f n;
  marks_after_started = λ f script n. record (marks_at f n) { started = cond (n == script) true (marks_at f n).started };
  marks_after_associate = λ f element form outer inner n. record (marks_at f n) { form = cond (n == element) (Some form) (marks_at f n).form };
  is_integration_point = λ name attrs marks. marks.flags.mathml_annotation_xml_integration_point;
  allows_shadow = λ f parent. true;
  attaches = λ f host template attrs. false;
  after_attach = λ f host template attrs. f;
  attach_rearranges = λ f host template attrs k a b attached. same_forest f k;
  after_option_copy = λ f option. f;
  option_copy_rearranges = λ f option k there. same_forest f k;
}
