-- The nodes of a sink, which are numbers, and the data of each (DOM standard, section 4, "Nodes").
use Rattle.std.specs.Prelude.{◌≡◌, ◌≢◌, ℕ, ◌+◌, ◌≤◌, ◌==◌, Bool, false, if◌then◌else◌, List, [], ◌∷◌, ◌++◌, Option, None, Some}
use Rattle.std.specs.Option.{option_and_then, option_map, option_map_or, option_to_list}
use Rattle.h5_names.specs.declared.qualified.QualName.{QualName}
use Rattle.h5_names.specs.AttributeText.{AttributeText}
use Rattle.h5_interface.specs.declared.marks.ElementFlags.{ElementFlags}
use Rattle.h5_interface.specs.Ancestors.{IsAncestor}

-- the kind of a node (DOM standard, sections 4.5 to 4.14; `FragmentNode`: DocumentFragment)
pub data Kind : Type 0 where
  DocumentNode : Kind
  DoctypeNode : (name public_id system_id : List ℕ) → Kind
  ElementNode : (name : QualName) → Kind
  CommentNode : (text : List ℕ) → Kind
  InstructionNode : (target text : List ℕ) → Kind
  FragmentNode : Kind

-- a child is a node or a text (DOM standard, section 4.11, "Interface Text")
pub data Child : Type 0 where
  ChildNode : (node : ℕ) → Child
  ChildText : (text : List ℕ) → Child

-- the marks of a node: the flags with which it was made, whether it is a script that was started (HTML standard, section 4.12.1, already
-- started), and its form owner (HTML standard, section 4.10.18, form owner)
pub record Marks : Type 0 where
  pub flags : ElementFlags
  pub started : Bool
  pub form : Option ℕ

-- a node (DOM standard, section 4.4, "Interface Node"). The parent of template contents is their template (HTML standard, section 4.12.3,
-- template contents, host)
pub record Node : Type 0 where
  pub kind : Kind
  pub attrs : List AttributeText
  pub children : List Child
  pub contents : Option ℕ
  pub parent : Option ℕ
  pub marks : Marks

-- all nodes of a sink, also those without a parent; all are below the bound
pub record Forest : Type 0 where
  pub document : ℕ
  pub bound : ℕ
  pub node : ℕ → Option Node

-- the nodes among children, in tree order
abbrev pub nodes : List Child → List ℕ
nodes [] = []
nodes (ChildNode n ∷ cs) = n ∷ nodes cs
nodes (ChildText t ∷ cs) = nodes cs

-- the number of times that a number occurs in a list
abbrev pub count : ℕ → List ℕ → ℕ
count c [] = 0
count c (x ∷ xs) = (if c == x then 1 else 0) + count c xs

-- the nodes directly below a node: its children and its contents
abbrev pub below : Node → List ℕ
below d = nodes d.children ++ option_to_list d.contents

-- the data of a node
abbrev pub below_of : Forest → ℕ → List ℕ
below_of f n = option_map_or below (f.node n) []

abbrev pub children_of : Forest → ℕ → List Child
children_of f n = option_map_or (λ d. d.children) (f.node n) []

abbrev pub attrs_of : Forest → ℕ → List AttributeText
attrs_of f n = option_map_or (λ d. d.attrs) (f.node n) []

abbrev pub parent_of : Forest → ℕ → Option ℕ
parent_of f n = option_and_then (λ d. d.parent) (f.node n)

abbrev pub contents_of : Forest → ℕ → Option ℕ
contents_of f n = option_and_then (λ d. d.contents) (f.node n)

abbrev pub kind_of : Forest → ℕ → Option Kind
kind_of f n = option_map (λ d. d.kind) (f.node n)

-- n is a node
abbrev pub IsNode : Forest → ℕ → Type 0
IsNode f n = f.node n ≢ None

-- n is an element (DOM standard, section 4.9, "Interface Element")
abbrev pub IsElement : Forest → ℕ → Type 0
IsElement f n = (name : QualName) × (kind_of f n ≡ Some (ElementNode name))

-- n is a template: a node that has contents (HTML standard, section 4.12.3, template contents)
abbrev pub HasContents : Forest → ℕ → Type 0
HasContents f n = contents_of f n ≢ None

-- true if this number is given, and is n
abbrev pub is_at : ℕ → Option ℕ → Bool
is_at n None = false
is_at n (Some m) = n == m

-- no text is empty, and no two texts are neighbours
abbrev pub AreParted : List Child → Type 0
AreParted [] = Unit {0}
AreParted (ChildNode n ∷ cs) = AreParted cs
AreParted (ChildText t ∷ []) = t ≢ []
AreParted (ChildText t ∷ ChildNode n ∷ cs) = (t ≢ []) × AreParted cs
AreParted (ChildText t ∷ ChildText u ∷ cs) = ⊥

-- is a forest (DOM standard, section 1.1, "Trees")
pub record IsForest (f : Forest) : Type 0 where
  -- no number from the bound on is a node
  pub bounded : (n : ℕ) → f.bound ≤ n → f.node n ≡ None
  -- the document is a document node
  pub root : kind_of f f.document ≡ Some DocumentNode
  -- a node appears once below its parent, as a child or as contents, and below no other node
  pub one_parent : (p c : ℕ) → count c (below_of f p) ≡ (if is_at p (parent_of f c) then 1 else 0)
  -- a parent is a node
  pub inside : (p c : ℕ) → parent_of f c ≡ Some p → IsNode f p
  -- no node is its own ancestor
  pub acyclic : (n : ℕ) → ¬ (IsAncestor (parent_of f) n n)
  -- no text is empty, and no two texts are neighbours
  pub parted : (n : ℕ) → AreParted (children_of f n)
  -- contents are fragments
  pub hosted : (n c : ℕ) → contents_of f n ≡ Some c → kind_of f c ≡ Some FragmentNode
  -- the document has no parent
  pub top : parent_of f f.document ≡ None
