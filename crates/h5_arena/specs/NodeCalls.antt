-- The calls of a node's walk (HTML standard, section 13.3, "Serializing HTML fragments").
use Rattle.std.specs.Prelude.{ℕ, List, [], ◌∷◌, ◌++◌, unwrap_or}
use Rattle.std.specs.List.{flat_map}
use Rattle.std.specs.Option.{option_map_or}
use Prim.Native.Nat.{zero, suc}
use Rattle.h5_names.specs.AttributeText.{AttributeText}
use Rattle.h5_interface.specs.Forest.{Child, ChildNode, ChildText, CommentNode, DoctypeNode, DocumentNode, ElementNode, Forest, FragmentNode, InstructionNode, Kind, children_of, contents_of}
use Rattle.h5_serialize.specs.Call.{Call, CommentOf, DoctypeOf, EndOf, InstructionOf, StartOf, TextOf}
use Rattle.h5_serialize.specs.declared.options.TraversalScope.{TraversalScope}
use Rattle.h5_serialize.specs.declared.options.TraversalScope.TheVariants.{ChildrenOnly, IncludeNode}

-- the children in the walk: for a template, those of its contents
abbrev pub shown_children : Forest → ℕ → List Child
shown_children f n = children_of f (unwrap_or (contents_of f n) n)

-- the calls of a node around those of its children: an element has a start and an end, a document and a fragment have no calls themselves,
-- and any other node is one call
abbrev pub calls_around : Kind → List AttributeText → List Call → List Call
calls_around DocumentNode attrs below = below
calls_around (DoctypeNode name public_id system_id) attrs below = DoctypeOf name ∷ []
calls_around (ElementNode name) attrs below = StartOf name attrs ∷ below ++ EndOf name ∷ []
calls_around (CommentNode text) attrs below = CommentOf text ∷ []
calls_around (InstructionNode target text) attrs below = InstructionOf target text ∷ []
calls_around FragmentNode attrs below = below

-- the calls of a child, given those of each node
abbrev pub child_calls : (ℕ → List Call) → Child → List Call
child_calls node_calls (ChildNode n) = node_calls n
child_calls node_calls (ChildText t) = TextOf t ∷ []

-- the calls of a node and of its subtree, down to this number of levels
unfoldable pub calls_within : ℕ → Forest → ℕ → List Call
calls_within zero f n = []
calls_within (suc levels) f n =
    option_map_or (λ d. calls_around d.kind d.attrs (flat_map (child_calls (calls_within levels f)) (shown_children f n))) (f.node n) []

-- all levels: there are no more of them than nodes
abbrev pub calls_of : Forest → ℕ → List Call
calls_of f = calls_within f.bound f

abbrev pub calls_of_children : Forest → List Child → List Call
calls_of_children f = flat_map (child_calls (calls_of f))

-- the calls of a node, or only those of its children
abbrev pub walk_of : Forest → ℕ → TraversalScope → List Call
walk_of f n IncludeNode = calls_of f n
walk_of f n (ChildrenOnly name) = calls_of_children f (shown_children f n)
