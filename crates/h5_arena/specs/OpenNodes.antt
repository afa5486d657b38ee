-- Nodes in the middle of a walk.
use Rattle.std.specs.Prelude.{◌≡◌, ◌<◌, ℕ, List, [], ◌∷◌, ◌++◌, Option, None, Some, Result, Ok, Err, option_copied}
use Rattle.h5_names.specs.declared.qualified.QualName.{QualName}
use Rattle.h5_interface.specs.Forest.{Child, ChildNode, ChildText, Forest}
use Rattle.h5_serialize.specs.Call.{Call, EndOf}
use Rattle.h5_serialize.specs.Walk.{AreMade, IsStopped}
use Rattle.h5_serialize.specs.declared.fault.SerializeFault.{SerializeFault}
use Rattle.h5_arena.specs.ArenaModel.{child_views}
use Rattle.h5_arena.specs.NodeCalls.{calls_of_children, shown_children}
use Rattle.h5_arena.specs.declared.walk.OpenNode.{OpenNode}

-- the end of an element
abbrev pub end_calls : Option QualName → List Call
end_calls None = []
end_calls (Some name) = EndOf name ∷ []

-- the calls that are left of an open node: those of its remaining children, and its end
abbrev pub calls_left : Forest → OpenNode → List Call
calls_left f node = calls_of_children f (child_views node.rest.now) ++ end_calls (option_copied node.name)

-- the calls that are left of a node if it was opened
abbrev pub calls_opened : Forest → Option OpenNode → List Call
calls_opened f None = []
calls_opened f (Some node) = calls_left f node

-- children are nodes of the forest, or texts
abbrev pub AreNodes : Forest → List Child → Type 0
AreNodes f [] = Unit {0}
AreNodes f (ChildNode n ∷ cs) = (n < f.bound) × AreNodes f cs
AreNodes f (ChildText t ∷ cs) = AreNodes f cs

-- if a node was opened, its remaining children are all children that n shows
abbrev pub OpensChildren : Forest → ℕ → Result (Option OpenNode) SerializeFault → Type 0
OpensChildren f n (Ok None) = Unit {0}
OpensChildren f n (Ok (Some node)) = child_views node.rest.now ≡ shown_children f n
OpensChildren f n (Err fault) = Unit {0}

-- if a child was opened, it is a node, with all children that it shows
abbrev pub OpensChild : Forest → Child → Result (Option OpenNode) SerializeFault → Type 0
OpensChild f (ChildNode n) result = OpensChildren f n result
OpensChild f (ChildText t) (Ok None) = Unit {0}
OpensChild f (ChildText t) (Ok (Some node)) = ⊥
OpensChild f (ChildText t) (Err fault) = Unit {0}

module _ {M : Type 0} (answer : M → Call → Result (Unit {0}) SerializeFault) (after : M → Call → M) (writes : M → Call → List ℕ) (breaks : M → Option (List ℕ) → Call → SerializeFault → M → Option (List ℕ) → Type 0) where
  -- the first of these calls are made, and those of the node that was opened are left
  abbrev pub Begins : Forest → List Call → M → Option (List ℕ) → Result (Option OpenNode) SerializeFault → M → Option (List ℕ) → Type 0
  Begins f calls m t (Ok opened) n u = (made : List Call) × (calls ≡ made ++ calls_opened f opened) × AreMade answer after writes breaks m t made n u
  Begins f calls m t (Err fault) n u = IsStopped answer after writes breaks calls m t fault n u
