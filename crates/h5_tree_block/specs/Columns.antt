-- The columns of a walk's calls: the data between two calls, and the effect of each call.
use Rattle.std.specs.Prelude.{ℕ, ◌+◌, ◌*◌, ◌&&◌, Bool, if◌then◌else◌, List, [], ◌∷◌, ◌++◌, Option, None, Some, codes, length, slice_get, slice_set, nat_lt}
use Rattle.std.specs.List.{position_or_len}
use Rattle.std.specs.Option.{option_and_then, option_map_or, unwrap_or}
use Rattle.h5_names.specs.AttributeText.{AttributeText, is_same_name, is_same_text}
use Rattle.h5_names.specs.Urls.{html_text, mathml_text, svg_text, xlink_text, xml_text, xmlns_text}
use Rattle.h5_names.specs.declared.qualified.QualName.{QualName}
use Rattle.h5_interface.specs.Forest.{Child, ChildNode, ChildText, DoctypeNode, Forest, Kind, children_of, kind_of}
use Rattle.h5_interface.specs.declared.marks.QuirksMode.{QuirksMode}
use Rattle.h5_interface.specs.declared.marks.QuirksMode.TheVariants.{LimitedQuirks, NoQuirks, Quirks}
use Rattle.h5_serialize.specs.Call.{Call, CommentOf, DoctypeOf, EndOf, InstructionOf, StartOf, TextOf}
use Rattle.h5_serialize.specs.Walk.{after_each}
use Rattle.h5_serialize.specs.declared.options.TraversalScope.TheVariants.{ChildrenOnly}
use Rattle.h5_arena.specs.ArenaModel.{ArenaView, forest_seen, fragment_root}
use Rattle.h5_arena.specs.NodeCalls.{walk_of}
use Rattle.h5_tree_block.specs.Block.{nothing}
use Rattle.h5_tree_block.specs.declared.columns.Columns.{Columns}
use Rattle.h5_tree_block.specs.declared.columns.Ended.{Ended}
use Rattle.h5_tree_block.specs.declared.columns.FlatNode.{FlatNode}
use Rattle.h5_tree_block.specs.declared.names.Names.{Names}

-- words, each with a text: each word with the end of its text, and the texts, one after the other
pub record Texts : Type 0 where
  pub list : List Ended
  pub bytes : List ℕ

abbrev pub no_texts : Texts
no_texts = record { list = []; bytes = [] }

unfoldable pub with_text : (word : ℕ) → (text : List ℕ) → Texts → Texts
with_text word text t = record { list = t.list ++ (record { word = word; end = length (t.bytes ++ text) }) ∷ []; bytes = t.bytes ++ text }

-- the names so far, and their texts
pub record HeldNames : Type 0 where
  pub met : List QualName
  pub texts : Texts

-- the identifiers of a doctype
pub record DoctypeIds : Type 0 where
  pub public_id : List ℕ
  pub system_id : List ℕ

abbrev pub no_ids : DoctypeIds
no_ids = record { public_id = []; system_id = [] }

-- the data between two calls: the nodes, rows, names and texts so far, the parent of the next nodes, and the identifiers of the next
-- doctype
pub record Held : Type 0 where
  pub mode : ℕ
  pub nodes : List FlatNode
  pub rows : Texts
  pub names : HeldNames
  pub text : List ℕ
  pub current : ℕ
  pub ids : DoctypeIds

abbrev pub names_held : Names → HeldNames
names_held n = record { met = n.numbered; texts = record { list = n.list.items; bytes = n.text.items } }

unfoldable pub held : Columns → Held
held c = record {
  mode = c.mode;
  nodes = c.nodes.items;
  rows = record { list = c.rows.items; bytes = c.values.items };
  names = names_held c.names;
  text = c.text.items;
  current = c.current;
  ids = record { public_id = c.public_id.items; system_id = c.system_id.items };
}

-- the number of a namespace: 0 for no namespace, 7 for one that HTML doesn't know
unfoldable pub namespace_number : List ℕ → ℕ
namespace_number ns =
    if is_same_text ns html_text then 1
    else (if is_same_text ns [] then 0
    else (if is_same_text ns mathml_text then 2
    else (if is_same_text ns svg_text then 3
    else (if is_same_text ns xlink_text then 4
    else (if is_same_text ns xml_text then 5
    else (if is_same_text ns xmlns_text then 6
    else 7))))))

-- the number of a prefix: 4 for one that HTML doesn't know
unfoldable pub prefix_number : List ℕ → ℕ
prefix_number prefix =
    if is_same_text prefix (codes "xlink") then 1
    else (if is_same_text prefix (codes "xml") then 2
    else (if is_same_text prefix (codes "xmlns") then 3
    else 4))

-- both in one word; 0 means no prefix
unfoldable pub name_word : QualName → ℕ
name_word name = namespace_number name.ns + option_map_or prefix_number name.prefix 0 * 256

-- the number of a name: the index of the first equal one among those so far or, if it is new, their number
abbrev pub number_of : List QualName → QualName → ℕ
number_of met name = position_or_len (λ one. is_same_name one name) met

-- a name occurs; a new one gets the next number
unfoldable pub with_name : QualName → HeldNames → HeldNames
with_name name n =
    if nat_lt (number_of n.met name) (length n.met) then n
    else record { met = n.met ++ name ∷ []; texts = with_text (name_word name) name.local n.texts }

unfoldable pub named : QualName → Held → Held
named name h = record h { names = with_name name h.names }

-- a node below the current one, with nothing below it
unfoldable pub with_node : (kind : ℕ) → Held → Held
with_node kind h = record h {
  nodes = h.nodes ++ (record { kind = kind; parent = h.current; end = length h.nodes + 1; text = length h.text; row = length h.rows.list }) ∷ [];
}

-- a node that becomes the parent of the next ones
unfoldable pub opened : (kind : ℕ) → Held → Held
opened kind h = record (with_node kind h) { current = length h.nodes }

-- the current node ends here, and its parent becomes the current node
unfoldable pub closed : Held → Held
closed h =
    option_map_or (λ node. record h { nodes = slice_set h.nodes h.current (record node { end = length h.nodes }); current = node.parent })
    (slice_get h.nodes h.current) h

-- a row of the newest node: a word, which is the number of a name, and a value
unfoldable pub with_row : (word : ℕ) → (value : List ℕ) → Held → Held
with_row word value h = record h { rows = with_text word value h.rows }

unfoldable pub with_attribute : Held → AttributeText → Held
with_attribute h a = with_row (number_of h.names.met a.name) a.value (named a.name h)

unfoldable pub with_attributes : Held → List AttributeText → Held
with_attributes h [] = h
with_attributes h (a ∷ attrs) = with_attributes (with_attribute h a) attrs

-- an element is opened: its kind is 1, with the number of its name in the upper bits
unfoldable pub element_opened : QualName → Held → Held
element_opened name h = opened (number_of h.names.met name * 256 + 1) (named name h)

-- the content of a template is below its contents, a fragment
abbrev pub is_template : QualName → Bool
is_template name = is_same_text name.ns html_text && is_same_text name.local (codes "template")

unfoldable pub contents_opened : QualName → Held → Held
contents_opened name h = if is_template name then opened 11 h else h

unfoldable pub element_closed : QualName → Held → Held
element_closed name h = if is_template name then closed (closed h) else closed h

-- the text of a node
unfoldable pub with_bytes : List ℕ → Held → Held
with_bytes text h = record h { text = h.text ++ text }

-- the identifiers of the doctype as its rows; any other doctype has none
unfoldable pub with_ids : Held → Held
with_ids h = with_row nothing h.ids.system_id (with_row nothing h.ids.public_id (record h { ids = no_ids }))

-- a call: an element is opened, with its attributes as rows, and closed; any other call is a node with its text, or with rows
abbrev pub after_call : Held → Call → Held
after_call h (StartOf name attrs) = contents_opened name (with_attributes (element_opened name h) attrs)
after_call h (EndOf name) = element_closed name h
after_call h (TextOf text) = with_bytes text (with_node 3 h)
after_call h (CommentOf text) = with_row nothing text (with_node 8 h)
after_call h (DoctypeOf name) = with_ids (with_row nothing name (with_node 10 h))
after_call h (InstructionOf target content) = with_row nothing content (with_row nothing target (with_node 7 h))

-- the number of a quirks mode
abbrev pub quirks_number : QuirksMode → ℕ
quirks_number NoQuirks = 0
quirks_number LimitedQuirks = 1
quirks_number Quirks = 2

-- the number of a quirks mode and of how the tree was parsed
abbrev pub mode_number : QuirksMode → (scripting_enabled : Bool) → ℕ
mode_number quirks scripting_enabled = quirks_number quirks + (if scripting_enabled then 4 else 0)

-- no data yet
abbrev pub nothing_held : (mode : ℕ) → DoctypeIds → Held
nothing_held mode ids = record {
  mode = mode;
  nodes = [];
  rows = no_texts;
  names = record { met = []; texts = no_texts };
  text = [];
  current = nothing;
  ids = ids;
}

-- the columns of the calls below a root of this kind
abbrev pub columns_of : (kind mode : ℕ) → DoctypeIds → List Call → Held
columns_of kind mode ids calls = closed (after_each after_call (opened kind (nothing_held mode ids)) calls)

-- the identifiers of the first doctype among children
abbrev pub ids_of_kind : Kind → Option DoctypeIds
ids_of_kind (DoctypeNode name public_id system_id) = Some (record { public_id = public_id; system_id = system_id })
ids_of_kind kind = None

abbrev pub ids_of_child : Forest → Child → Option DoctypeIds
ids_of_child f (ChildNode n) = option_and_then ids_of_kind (kind_of f n)
ids_of_child f (ChildText text) = None

unfoldable pub ids_among : Forest → List Child → DoctypeIds
ids_among f [] = no_ids
ids_among f (c ∷ cs) = unwrap_or (ids_of_child f c) (ids_among f cs)

-- the columns of a document, parsed with or without scripting: those of the calls of everything below it
unfoldable pub document_columns : ArenaView → (scripting_enabled : Bool) → Held
document_columns a scripting_enabled =
    let f = forest_seen a in columns_of 9 (mode_number a.quirks scripting_enabled) (ids_among f (children_of f 0)) (walk_of f 0 (ChildrenOnly None))

-- the columns of a fragment: those of the calls of everything below its root, if there is one
unfoldable pub fragment_columns : ArenaView → (scripting_enabled : Bool) → Held
fragment_columns a scripting_enabled =
    columns_of 11 (mode_number a.quirks scripting_enabled) no_ids (option_map_or (λ root. walk_of (forest_seen a) root (ChildrenOnly None)) (fragment_root a) [])
