-- A forest that has a plain document, and the meaning of "its tokens rebuild it".
use Rattle.std.specs.Prelude.{◌≡◌, ◌≢◌, ℕ, Bool, true, false, List, [], ◌∷◌, Some, None, map, codes}
use Rattle.h5_names.specs.AttributeText.{AttributeText}
use Rattle.h5_token.specs.TokenText.{TokenText}
use Rattle.h5_interface.specs.Forest.{Child, ChildNode, ChildText, DoctypeNode, DocumentNode, ElementNode, Forest, IsForest, Kind, attrs_of, children_of, contents_of, kind_of}
use Rattle.h5_interface.specs.SinkChoices.{SinkChoices}
use Rattle.h5_interface.specs.declared.marks.QuirksMode.TheVariants.{NoQuirks}
use Rattle.h5_tables.specs.Options.{default_options}
use Rattle.h5_tables.specs.declared.options.TreeBuilderOpts.{TreeBuilderOpts}
use Rattle.h5_tables.specs.declared.modes.InsertionMode.TheVariants.{InBody, Initial}
use Rattle.h5_token.specs.Joins.{join}
use Rattle.h5_builder_spec.specs.Run.{View, after_all, all_quiet, replies}
use Rattle.h5_builder_spec.specs.World.{World}
use Rattle.h5_builder_spec.specs.formatting.FormattingNames.{html_name}
use Rattle.h5_builder_laws.specs.Plain.{ElementThen, End, Flow, IsPlain, Nodes, PlainDocument, TextThen, document_tokens, fragment_tokens, nothing_open, plain_reply, root_of}
use Rattle.h5_names.specs.declared.qualified.QualName.{QualName}
use Rattle.h5_builder_spec.specs.reset.Situation.{Situation}
use Rattle.h5_builder_spec.specs.reset.Roles.{is_html_element, role_of}
use Rattle.h5_builder_spec.specs.reset.ResetByRoles.{decide_root}
use Rattle.h5_builder_spec.specs.inner.Kept.{Fitting}

-- a node of this kind, with these attributes and children, and without contents; any parent and any marks
pub record Looks (f : Forest) (n : ℕ) (kind : Kind) (attrs : List AttributeText) (children : List Child) : Type 0 where
  pub is_kind : kind_of f n ≡ Some kind
  pub has_attrs : attrs_of f n ≡ attrs
  pub has_children : children_of f n ≡ children
  pub no_contents : contents_of f n ≡ None

-- children that are a list of nodes
abbrev pub Stands : Forest → List Child → Nodes → Type 0
Stands f [] End = Unit {0}
Stands f (ChildText t ∷ cs) (TextThen text rest) = (t ≡ text) × Stands f cs rest
Stands f (ChildNode n ∷ cs) (ElementThen name attrs inner rest) =
    Looks f n (ElementNode (html_name name)) attrs (children_of f n) × (Stands f (children_of f n) inner × Stands f cs rest)
Stands f _ _ = ⊥

-- a document whose children are the doctype and the root
pub record DocumentStands (f : Forest) (d : PlainDocument) : Type 0 where
  pub doctype : ℕ
  pub root : ℕ
  pub document : Looks f f.document DocumentNode [] (ChildNode doctype ∷ ChildNode root ∷ [])
  pub is_doctype : Looks f doctype (DoctypeNode (codes "html") [] []) [] []
  pub stands : Stands f (ChildNode root ∷ []) (root_of d)

-- a forest of the document alone
pub record HoldsDocument (f : Forest) : Type 0 where
  pub is_forest : IsForest f
  pub document : Looks f f.document DocumentNode [] []

-- the default options, with or without scripting
abbrev pub with_scripting : Bool → TreeBuilderOpts
with_scripting scripting_enabled = record default_options { scripting_enabled = scripting_enabled }

-- a new builder, with the default options, with or without scripting, over a sink with the document alone
pub record IsStart (w : World) : Type 0 where
  pub holds : HoldsDocument w.forest
  pub options : w.options ≡ with_scripting w.options.scripting_enabled
  pub mode : w.mode ≡ Initial
  pub none_open : w.stack ≡ []
  pub none_listed : w.formatting ≡ []
  pub ignore_lf : w.ignore_lf ≡ false
  pub no_foster : w.foster ≡ false
  pub no_pending : w.pending ≡ []
  pub no_template_modes : w.template_modes ≡ []
  pub no_head : w.head ≡ None
  pub no_form : w.form ≡ None
  pub no_context : w.context ≡ None

-- tokens, run from a view, rebuild a document: the forest has it, in no-quirks mode; the replies are those to a plain
-- document's tokens; and no parse error is reported if no whitespace text is in a table
pub record Rebuilds (choices : SinkChoices) (ts : List TokenText) (d : PlainDocument) (v : View) : Type 0 where
  pub stands : DocumentStands (after_all choices ts v).world.forest d
  pub quirks : (after_all choices ts v).world.seen_quirks ≡ NoQuirks
  pub answers : replies choices ts v ≡ map plain_reply ts
  pub quiet : IsPlain false (Flow false nothing_open) d.blocks → all_quiet choices ts v ≡ true

-- `Rebuilds` for any split of the texts of a plain document's tokens
abbrev pub RebuildsAll : SinkChoices → List TokenText → View → Type 0
RebuildsAll choices ts v = (d : PlainDocument) → IsStart v.world → v.ended ≡ false → v.failed ≡ false → join ts ≡ document_tokens d → Rebuilds choices ts d v

-- a new builder of a fragment: its root, an `html` without children, is the only open element, and its context is an
-- element of HTML by which the mode is "in body", such as `div`, `body`, `span` or `li`
pub record IsFragmentStart (w : World) : Type 0 where
  pub root : ℕ
  pub is_forest : IsForest w.forest
  pub is_root : Looks w.forest root (ElementNode (html_name (codes "html"))) [] []
  pub mode : w.mode ≡ InBody
  pub is_open : w.stack ≡ root ∷ []
  pub none_listed : w.formatting ≡ []
  pub ignore_lf : w.ignore_lf ≡ false
  pub no_foster : w.foster ≡ false
  pub no_pending : w.pending ≡ []
  pub no_form : w.form ≡ None
  pub no_template_modes : w.template_modes ≡ []
  pub context : ℕ
  pub context_name : QualName
  pub in_context : w.context ≡ Some context
  pub is_context : kind_of w.forest context ≡ Some (ElementNode context_name)
  pub of_html : is_html_element context_name ≡ true
  pub is_ordinary : (s : Situation) → decide_root s (role_of context_name) ≡ InBody

-- one node has changed; all other nodes are as before, except for their parents and marks
pub record ChangesOne (f g : Forest) (root : ℕ) : Type 0 where
  pub document : g.document ≡ f.document
  pub others : (n : ℕ) (kind : Kind) (attrs : List AttributeText) (children : List Child) → n ≢ root → Looks f n kind attrs children → Looks g n kind attrs children

-- tokens, run from a view, rebuild a fragment below this root, and change no other node
pub record RebuildsFragment (choices : SinkChoices) (ts : List TokenText) (root : ℕ) (nodes : Nodes) (v : View) : Type 0 where
  pub stands : Stands (after_all choices ts v).world.forest (children_of (after_all choices ts v).world.forest root) nodes
  pub is_root : Looks (after_all choices ts v).world.forest root (ElementNode (html_name (codes "html"))) [] (children_of (after_all choices ts v).world.forest root)
  pub changes : ChangesOne v.world.forest (after_all choices ts v).world.forest root
  pub answers : replies choices ts v ≡ map plain_reply ts
  pub quiet : IsPlain false (Flow false nothing_open) nodes → all_quiet choices ts v ≡ true

-- `RebuildsFragment` for any split of the texts of its tokens
abbrev pub RebuildsFragments : SinkChoices → List TokenText → View → Type 0
RebuildsFragments choices ts v =
    (nodes : Nodes) (s : IsFragmentStart v.world) → IsPlain true (Flow false nothing_open) nodes → Fitting v.world → v.ended ≡ false → v.failed ≡ false
    → join ts ≡ fragment_tokens nodes → RebuildsFragment choices ts s.root nodes v
