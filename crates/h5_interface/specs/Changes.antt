-- The changes of a forest (DOM standard, section 4.2.3, "Mutation algorithms").
use Rattle.std.specs.Prelude.{ℕ, ◌+◌, ◌==◌, max, nat_lt, Bool, not, cond, List, [], ◌∷◌, ◌++◌, Option, None, Some}
use Rattle.std.specs.List.{filter, list_any}
use Rattle.std.specs.Option.{option_map}
use Rattle.h5_names.specs.declared.qualified.QualName.{QualName}
use Rattle.h5_names.specs.AttributeText.{AttributeText, is_same_name}
use Rattle.h5_interface.specs.Forest.{Child, ChildNode, ChildText, Forest, Marks, Node, children_of, count, nodes, parent_of}

-- a child before others; a text is joined to a text that follows
abbrev pub join : Child → List Child → List Child
join (ChildNode n) cs = ChildNode n ∷ cs
join (ChildText t) [] = ChildText t ∷ []
join (ChildText t) (ChildNode n ∷ cs) = ChildText t ∷ ChildNode n ∷ cs
join (ChildText t) (ChildText u ∷ cs) = ChildText (t ++ u) ∷ cs

-- children in which neighbouring texts are joined
abbrev pub joined : List Child → List Child
joined [] = []
joined (c ∷ cs) = join c (joined cs)

-- children without a node
abbrev pub without : ℕ → List Child → List Child
without c [] = []
without c (ChildNode n ∷ cs) = cond (c == n) (without c cs) (ChildNode n ∷ without c cs)
without c (ChildText t ∷ cs) = ChildText t ∷ without c cs

-- children with one more, inserted before a node
abbrev pub insert_before : ℕ → Child → List Child → List Child
insert_before s x [] = []
insert_before s x (ChildNode n ∷ cs) = cond (s == n) (x ∷ ChildNode n ∷ cs) (ChildNode n ∷ insert_before s x cs)
insert_before s x (ChildText t ∷ cs) = ChildText t ∷ insert_before s x cs

-- true if a node is among children
abbrev pub has_child : List Child → ℕ → Bool
has_child cs c = nat_lt 0 (count c (nodes cs))

-- each node is changed by a function
abbrev pub change_nodes : (ℕ → Node → Node) → Forest → Forest
change_nodes change f = record f { node = λ n. option_map (change n) (f.node n) }

-- the children of one node are edited; then neighbouring texts are joined
abbrev pub edit_children : ℕ → (List Child → List Child) → Forest → Forest
edit_children p edit = change_nodes (λ n d. record d { children = cond (n == p) (joined (edit d.children)) d.children })

-- the chosen nodes get this parent, or none
abbrev pub set_parents : (ℕ → Bool) → Option ℕ → Forest → Forest
set_parents chosen p = change_nodes (λ n d. record d { parent = cond (chosen n) p d.parent })

-- a new node is added
abbrev pub add_node : ℕ → Node → Forest → Forest
add_node n d f = record f { bound = max f.bound (n + 1); node = λ m. cond (m == n) (Some d) (f.node m) }

-- a new last child (DOM standard: append a node to a parent)
abbrev pub append_node : ℕ → ℕ → Forest → Forest
append_node p c f = set_parents (λ n. n == c) (Some p) (edit_children p (λ cs. cs ++ ChildNode c ∷ []) f)

abbrev pub append_text : ℕ → List ℕ → Forest → Forest
append_text p t = edit_children p (λ cs. cs ++ ChildText t ∷ [])

-- a new child before a sibling, below the sibling's parent (DOM standard: insert a node into a parent
-- before a child)
abbrev pub insert_node_below : Option ℕ → ℕ → ℕ → Forest → Forest
insert_node_below None s c f = f
insert_node_below (Some p) s c f = set_parents (λ n. n == c) (Some p) (edit_children p (insert_before s (ChildNode c)) f)

abbrev pub insert_node_before : ℕ → ℕ → Forest → Forest
insert_node_before s c f = insert_node_below (parent_of f s) s c f

abbrev pub insert_text_below : Option ℕ → ℕ → List ℕ → Forest → Forest
insert_text_below None s t f = f
insert_text_below (Some p) s t f = edit_children p (insert_before s (ChildText t)) f

abbrev pub insert_text_before : ℕ → List ℕ → Forest → Forest
insert_text_before s t f = insert_text_below (parent_of f s) s t f

-- a node is removed from its parent; without a parent, nothing changes (DOM standard: remove a node)
abbrev pub detach_from : Option ℕ → ℕ → Forest → Forest
detach_from None c f = f
detach_from (Some p) c f = set_parents (λ n. n == c) None (edit_children p (without c) f)

abbrev pub detach : ℕ → Forest → Forest
detach c f = detach_from (parent_of f c) c f

-- all children of one node are moved, in order, to the end of the children of another
abbrev pub reparent : ℕ → ℕ → Forest → Forest
reparent from to f =
    set_parents (has_child (children_of f from)) (Some to)
    (edit_children from (λ _. []) (edit_children to (λ cs. cs ++ children_of f from) f))

-- true if an attribute of this name is among attributes
abbrev pub has_attribute : QualName → List AttributeText → Bool
has_attribute name = list_any (λ a. is_same_name a.name name)

-- attributes, followed by those of `more` whose names aren't among them
abbrev pub with_missing : List AttributeText → List AttributeText → List AttributeText
with_missing more attrs = attrs ++ filter (λ a. not (has_attribute a.name attrs)) more

-- a node gets the attributes that it doesn't have (HTML standard, section 13.2.6.4.7, start tag "html")
abbrev pub add_missing_attributes : ℕ → List AttributeText → Forest → Forest
add_missing_attributes n more = change_nodes (λ m d. record d { attrs = cond (m == n) (with_missing more d.attrs) d.attrs })

-- each node gets these marks
abbrev pub mark : (ℕ → Marks) → Forest → Forest
mark marks = change_nodes (λ n d. record d { marks = marks n })

-- a node becomes the contents of another (HTML standard, section 4.12.3, template contents)
abbrev pub host : ℕ → ℕ → Forest → Forest
host t c f = set_parents (λ n. n == c) (Some t) (change_nodes (λ n d. record d { contents = cond (n == t) (Some c) d.contents }) f)
