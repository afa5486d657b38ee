-- Lists of calls in which each start of an element has its end.
use Rattle.std.proofs.Common.{ℕ, zero, suc, List, [], ◌∷◌, ◌++◌}
use Rattle.std.specs.Prelude.{None, Option, Some}
use Rattle.std.specs.List.{flat_map}
use Rattle.std.specs.Option.{option_map_or}
use Rattle.h5_names.specs.AttributeText.{AttributeText}
use Rattle.h5_names.specs.declared.qualified.QualName.{QualName}
use Rattle.h5_interface.specs.Forest.{Child, ChildNode, ChildText, CommentNode, DoctypeNode, DocumentNode, ElementNode, Forest, FragmentNode, InstructionNode, Kind, Node}
use Rattle.h5_serialize.specs.Call.{Call, CommentOf, DoctypeOf, EndOf, InstructionOf, StartOf, TextOf}
use Rattle.h5_serialize.specs.declared.options.TraversalScope.TheVariants.{ChildrenOnly}
use Rattle.h5_arena.specs.NodeCalls.{calls_around, calls_of, calls_within, child_calls, shown_children, walk_of}

-- a call for one node without children
abbrev pub IsLeafCall : Call → Type 0
IsLeafCall (StartOf name attrs) = ⊥
IsLeafCall (EndOf name) = ⊥
IsLeafCall (TextOf text) = Unit {0}
IsLeafCall (CommentOf text) = Unit {0}
IsLeafCall (DoctypeOf name) = Unit {0}
IsLeafCall (InstructionOf target content) = Unit {0}

pub data AreBalanced : List Call → Type 0 where
  NoCalls : AreBalanced []
  LeafCall : (call : Call) → IsLeafCall call → AreBalanced (call ∷ [])
  ElementCalls : (name : QualName) (attrs : List AttributeText) {inner : List Call} → AreBalanced inner → AreBalanced (StartOf name attrs ∷ (inner ++ EndOf name ∷ []))
  Joined : {xs ys : List Call} → AreBalanced xs → AreBalanced ys → AreBalanced (xs ++ ys)

flat_balanced : {X : Type 0} (f : X → List Call) → ((x : X) → AreBalanced (f x)) → (xs : List X) → AreBalanced (flat_map f xs)
flat_balanced f each [] = NoCalls
flat_balanced f each (x ∷ xs) = Joined (each x) (flat_balanced f each xs)

child_balanced : (node_calls : ℕ → List Call) → ((n : ℕ) → AreBalanced (node_calls n)) → (c : Child) → AreBalanced (child_calls node_calls c)
child_balanced node_calls each (ChildNode n) = each n
child_balanced node_calls each (ChildText t) = LeafCall (TextOf t) tt

around_balanced : (kind : Kind) (attrs : List AttributeText) (inner : List Call) → AreBalanced inner → AreBalanced (calls_around kind attrs inner)
around_balanced DocumentNode attrs inner h = h
around_balanced (DoctypeNode name public_id system_id) attrs inner h = LeafCall (DoctypeOf name) tt
around_balanced (ElementNode name) attrs inner h = ElementCalls name attrs h
around_balanced (CommentNode text) attrs inner h = LeafCall (CommentOf text) tt
around_balanced (InstructionNode target text) attrs inner h = LeafCall (InstructionOf target text) tt
around_balanced FragmentNode attrs inner h = h

node_balanced : (node : Option Node) (inner : List Call) → AreBalanced inner → AreBalanced (option_map_or {U = List Call} (λ (d : Node). calls_around d.kind d.attrs inner) node [])
node_balanced None inner h = NoCalls
node_balanced (Some d) inner h = around_balanced d.kind d.attrs inner h

within_balanced : (levels : ℕ) (f : Forest) (n : ℕ) → AreBalanced (calls_within levels f n)
unfolding calls_within
within_balanced zero f n = NoCalls
within_balanced (suc levels) f n =
    node_balanced (f.node n) (flat_map (child_calls (calls_within levels f)) (shown_children f n))
    (flat_balanced (child_calls (calls_within levels f)) (child_balanced (calls_within levels f) (within_balanced levels f)) (shown_children f n))

-- the calls of everything below a node
pub walk_balanced : (f : Forest) (n : ℕ) → AreBalanced (walk_of f n (ChildrenOnly None))
walk_balanced f n = flat_balanced (child_calls (calls_of f)) (child_balanced (calls_of f) (within_balanced f.bound f)) (shown_children f n)
