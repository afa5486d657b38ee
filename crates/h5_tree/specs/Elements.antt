-- The elements of a forest: their names, and the relations between them (DOM standard, section 1.1, "Trees"). Nodes that aren't elements
-- are ignored. A number that isn't a node has no name and no relations.
use Rattle.std.specs.Prelude.{◌≡◌, ℕ, ◌&&◌, Bool, true, false, if◌then◌else◌, List, [], ◌∷◌, Option, None, Some, is_some}
use Rattle.std.specs.List.{filter, find}
use Rattle.std.specs.Option.{option_and_then, option_map, option_map_or}
use Rattle.h5_names.specs.AttributeText.{AttributeText, is_same_text}
use Rattle.h5_names.specs.Urls.{html_text}
use Rattle.h5_names.specs.declared.qualified.QualName.{QualName}
use Rattle.h5_interface.specs.Forest.{Child, ChildNode, ChildText, DocumentNode, Forest, Kind, children_of, kind_of, nodes}
use Rattle.h5_arena.specs.ArenaModel.{name_of_kind}
use Rattle.h5_arena.specs.Kin.{children_before, children_behind, descendants, siblings_with_self}

-- the name of an element
abbrev pub name_of : Forest → ℕ → Option QualName
name_of f n = option_and_then name_of_kind (kind_of f n)

abbrev pub is_element : Forest → ℕ → Bool
is_element f n = is_some (name_of f n)

-- true if a node is an element, and its name passes a test
abbrev pub has_name : Forest → (test : QualName → Bool) → ℕ → Bool
has_name f test n = option_map_or test (name_of f n) false

abbrev pub is_html : QualName → Bool
is_html name = is_same_text name.ns html_text

abbrev pub is_html_element : Forest → ℕ → Bool
is_html_element f = has_name f is_html

abbrev pub has_namespace : Forest → (ns : List ℕ) → ℕ → Bool
has_namespace f ns = has_name f (λ name. is_same_text name.ns ns)

abbrev pub has_local_name : Forest → (local : List ℕ) → ℕ → Bool
has_local_name f local = has_name f (λ name. is_same_text name.local local)

-- true if two elements have the same local name and namespace; a prefix makes no difference
abbrev pub are_alike : QualName → QualName → Bool
are_alike one other = is_same_text one.local other.local && is_same_text one.ns other.ns

abbrev pub is_same_type : Forest → ℕ → ℕ → Bool
is_same_type f n m = has_name f (λ name. has_name f (are_alike name) m) n

-- the value of the first attribute with this namespace and local name
abbrev pub value_in : (ns local : List ℕ) → List AttributeText → Option (List ℕ)
value_in ns local attrs = option_map (λ a. a.value) (find (λ a. is_same_text a.name.ns ns && is_same_text a.name.local local) attrs)

-- the elements among nodes, and among children
abbrev pub elements : Forest → List ℕ → List ℕ
elements f = filter (is_element f)

abbrev pub elements_among : Forest → List Child → List ℕ
elements_among f children = elements f (nodes children)

abbrev pub child_elements : Forest → ℕ → List ℕ
child_elements f n = elements_among f (children_of f n)

-- the elements below a node, in tree order
abbrev pub below : Forest → ℕ → List ℕ
below f n = elements f (descendants f n)

-- the sibling elements before a node, and those after it
abbrev pub before : Forest → ℕ → List ℕ
before f n = elements_among f (children_before n (siblings_with_self f n))

abbrev pub behind : Forest → ℕ → List ℕ
behind f n = elements_among f (children_behind n (siblings_with_self f n))

abbrev pub is_document : Option Kind → Bool
is_document None = false
is_document (Some DocumentNode) = true
is_document (Some kind) = false

-- there are neither elements nor texts among children
abbrev pub is_bare : Forest → List Child → Bool
is_bare f [] = true
is_bare f (ChildText text ∷ cs) = false
is_bare f (ChildNode c ∷ cs) = if is_element f c then false else is_bare f cs

abbrev pub is_empty : Forest → ℕ → Bool
is_empty f n = is_bare f (children_of f n)

-- a child that is neither an element nor a text has no children
abbrev pub IsElementOrLeaf : Forest → Child → Type 0
IsElementOrLeaf f (ChildText t) = Unit {0}
IsElementOrLeaf f (ChildNode c) = is_element f c ≡ false → children_of f c ≡ []

abbrev pub AreElementsOrLeaves : Forest → List Child → Type 0
AreElementsOrLeaves f [] = Unit {0}
AreElementsOrLeaves f (c ∷ cs) = IsElementOrLeaf f c × AreElementsOrLeaves f cs
