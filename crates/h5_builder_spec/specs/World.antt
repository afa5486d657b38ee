-- The combined state of a tree builder and its sink (HTML standard, section 13.2.4, "Parse state").
use Rattle.std.specs.Prelude.{ℕ, Bool, List, [], map, Option, Some, None}
use Rattle.h5_names.specs.declared.qualified.QualName.{QualName}
use Rattle.h5_interface.specs.Forest.{CommentNode, DoctypeNode, DocumentNode, ElementNode, Forest, FragmentNode, InstructionNode, Kind, kind_of}
use Rattle.h5_interface.specs.declared.marks.QuirksMode.{QuirksMode}
use Rattle.h5_tables.specs.declared.modes.InsertionMode.{InsertionMode}
use Rattle.h5_tables.specs.declared.options.TreeBuilderOpts.{TreeBuilderOpts}
use Rattle.h5_builder_spec.specs.formatting.FormattingList.{Entry}
use Rattle.h5_builder_spec.specs.stack.Order.{first_or, last_or}

-- The stack of open elements and the list of active formatting elements, both with the newest first, and all else that
-- rules read. `seen_quirks` is the quirks mode that the sink received, `quirks` the builder's own.
pub record World : Type 0 where
  pub forest : Forest
  pub seen_quirks : QuirksMode
  pub options : TreeBuilderOpts
  pub mode : InsertionMode
  pub saved_mode : Option InsertionMode
  pub template_modes : List InsertionMode
  pub pending : List ℕ
  pub quirks : QuirksMode
  pub stack : List ℕ
  pub formatting : List Entry
  pub head : Option ℕ
  pub form : Option ℕ
  pub frameset_ok : Bool
  pub ignore_lf : Bool
  pub foster : Bool
  pub context : Option ℕ

-- the name of a node that isn't an element
abbrev pub no_name : QualName
no_name = record { prefix = None; ns = []; local = [] }

abbrev pub name_of_kind : Kind → QualName
name_of_kind DocumentNode = no_name
name_of_kind (DoctypeNode name public_id system_id) = no_name
name_of_kind (ElementNode name) = name
name_of_kind (CommentNode text) = no_name
name_of_kind (InstructionNode target text) = no_name
name_of_kind FragmentNode = no_name

-- the name of a node
abbrev pub name_of_found : Option Kind → QualName
name_of_found None = no_name
name_of_found (Some kind) = name_of_kind kind

abbrev pub name_in : Forest → ℕ → QualName
name_in f n = name_of_found (kind_of f n)

-- the names of the open elements
unfoldable pub names_of : World → List QualName
names_of w = map (name_in w.forest) w.stack

-- the current node (HTML standard, section 13.2.4.2); if no element is open, the document
abbrev pub current : World → ℕ
current w = first_or w.forest.document w.stack

-- the root: the oldest open element; if none is open, the document
abbrev pub root : World → ℕ
root w = last_or w.forest.document w.stack
