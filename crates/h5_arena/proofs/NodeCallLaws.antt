-- The calls of a node by those of its children, and a measure of a walk's remainder.
use Rattle.std.proofs.Common.{◌≡◌, ◌∙◌, ℕ, ◌+◌, ◌<◌, List, [], ◌∷◌, ◌++◌, ap, arith, refl, sym}
use Rattle.std.specs.Prelude.{Option, None, Some}
use Rattle.std.specs.List.{flat_map}
use Rattle.std.specs.Option.{option_map, option_map_or}
use Rattle.std.proofs.lemmas.Bool.{eq-eqb}
use Prim.Native.Nat.{zero, suc}
use Rattle.h5_names.specs.AttributeText.{AttributeText}
use Rattle.h5_names.specs.declared.qualified.QualName.{QualName}
use Rattle.h5_interface.specs.Ancestors.{Further, IsAncestor, Parent}
use Rattle.h5_interface.specs.Forest.{Child, ChildNode, ChildText, ElementNode, Forest, IsForest, Kind, Node, contents_of, count, kind_of, nodes, parent_of}
use Rattle.h5_interface.proofs.ForestLaws.{child_is_node}
use Rattle.h5_serialize.specs.Call.{Call, EndOf, StartOf, TextOf}
use Rattle.h5_arena.specs.OpenNodes.{AreNodes}
use Rattle.h5_arena.specs.NodeCalls.{calls_around, calls_of, calls_of_children, calls_within, child_calls, shown_children}
use Rattle.h5_arena.proofs.CallConditions.{some_same}
use Rattle.h5_arena.proofs.LevelLaws.{held, settled, settled_beyond, shown_is_below}

pub here_first : (n : ℕ) (cs : List Child) → 0 < count n (nodes (ChildNode n ∷ cs))
here_first n cs = rw (eq-eqb n n refl) (omega arith)

pub here_later : (m n : ℕ) (cs : List Child) → 0 < count m (nodes cs) → 0 < count m (nodes (ChildNode n ∷ cs))
here_later m n cs h = omega arith

same_calls : (g h : ℕ → List Call) (cs : List Child) → ((m : ℕ) → 0 < count m (nodes cs) → g m ≡ h m) → flat_map (child_calls g) cs ≡ flat_map (child_calls h) cs
same_calls g h [] e = refl
same_calls g h (ChildText t ∷ cs) e = ap (λ l. TextOf t ∷ l) (same_calls g h cs e)
same_calls g h (ChildNode n ∷ cs) e =
    ap (λ l. l ++ flat_map (child_calls g) cs) (e n (here_first n cs)) ∙ ap (λ l. h n ++ l) (same_calls g h cs (λ m w. e m (here_later m n cs w)))

calls_gone : (f : Forest) (levels n : ℕ) → f.node n ≡ None → calls_within (suc levels) f n ≡ calls_within levels f n
unfolding calls_within
calls_gone f zero n e = rw e refl
calls_gone f (suc levels) n e = rw e refl

calls_further : (f : Forest) (levels n : ℕ) → ((m : ℕ) → 0 < count m (nodes (shown_children f n)) → calls_within (suc levels) f m ≡ calls_within levels f m) → calls_within (suc (suc levels)) f n ≡ calls_within (suc levels) f n
unfolding calls_within
calls_further f levels n same = ap (λ below. option_map_or (λ (d : Node). calls_around d.kind d.attrs below) (f.node n) []) (same_calls (calls_within (suc levels) f) (calls_within levels f) (shown_children f n) same)

-- the calls of a node surround those of its children
pub calls_of_node : (f : Forest) (n : ℕ) (d : Node) → IsForest f → f.node n ≡ Some d → calls_of f n ≡ calls_around d.kind d.attrs (calls_of_children f (shown_children f n))
unfolding calls_within
calls_of_node f n d k e =
    sym (settled f k (λ n. nodes (shown_children f n)) (λ n m. shown_is_below f n m k) (λ levels. calls_within levels f) (calls_gone f) (calls_further f) n)
    ∙ ap (λ (o : Option Node). option_map_or (λ (d : Node). calls_around d.kind d.attrs (calls_of_children f (shown_children f n))) o []) e

-- as above, if the kind is known
pub calls_of_kind : (f : Forest) (n : ℕ) (kind : Kind) → IsForest f → kind_of f n ≡ Some kind → (attrs : List AttributeText) × (calls_of f n ≡ calls_around kind attrs (calls_of_children f (shown_children f n)))
calls_of_kind f n kind k e = at (f.node n) refl
  where
    at : (o : Option Node) → f.node n ≡ o → (attrs : List AttributeText) × (calls_of f n ≡ calls_around kind attrs (calls_of_children f (shown_children f n)))
    at None w = let v = (rw w at e) in cc
    at (Some d) w = (d.attrs, calls_of_node f n d k w ∙ ap (λ x. calls_around x d.attrs (calls_of_children f (shown_children f n))) (some_same _ _ (rw w at e)))

pub calls_of_element : (f : Forest) (n : ℕ) (name : QualName) (attrs : List AttributeText) → IsForest f → kind_of f n ≡ Some (ElementNode name) → option_map (λ d. d.attrs) (f.node n) ≡ Some attrs
    → calls_of f n ≡ StartOf name attrs ∷ calls_of_children f (shown_children f n) ++ EndOf name ∷ []
calls_of_element f n name attrs k e a = at (f.node n) refl
  where
    at : (o : Option Node) → f.node n ≡ o → calls_of f n ≡ StartOf name attrs ∷ calls_of_children f (shown_children f n) ++ EndOf name ∷ []
    at None w = let v = (rw w at e) in cc
    at (Some d) w =
        calls_of_node f n d k w ∙ ap (λ x. calls_around x d.attrs (calls_of_children f (shown_children f n))) (some_same _ _ (rw w at e))
        ∙ ap (λ x. StartOf name x ∷ calls_of_children f (shown_children f n) ++ EndOf name ∷ []) (some_same _ _ (rw w at a))

-- the calls of the contents of a node
pub contents_told : (f : Forest) (n : ℕ) (contents : Option ℕ) → option_map (λ d. d.contents) (f.node n) ≡ Some contents → contents_of f n ≡ contents
contents_told f n contents e = at (f.node n) refl
  where
    at : (o : Option Node) → f.node n ≡ o → contents_of f n ≡ contents
    at None w = let v = (rw w at e) in cc
    at (Some d) w = rw w (some_same _ _ (rw w at e))

-- the shown children are nodes
pub shown_are_nodes : (f : Forest) (n : ℕ) → IsForest f → AreNodes f (shown_children f n)
shown_are_nodes f n k = all (shown_children f n) (λ m h. at m (shown_is_below f n m k h))
  where
    at : (m : ℕ) → IsAncestor (parent_of f) n m → m < f.bound
    at m (Parent e) = held f m k (child_is_node f m n e)
    at m (Further p h e) = held f m k (child_is_node f m p e)

    all : (cs : List Child) → ((m : ℕ) → 0 < count m (nodes cs) → m < f.bound) → AreNodes f cs
    all [] h = tt
    all (ChildText t ∷ cs) h = all cs h
    all (ChildNode m ∷ cs) h = (h m (here_first m cs), all cs (λ p w. h p (here_later p m cs w)))

-- a measure of a walk's remainder: one step for each child, and one for the end of each node
abbrev pub weight_of_children : (ℕ → ℕ) → List Child → ℕ
weight_of_children weight [] = 0
weight_of_children weight (ChildText t ∷ cs) = 1 + weight_of_children weight cs
weight_of_children weight (ChildNode n ∷ cs) = 1 + weight n + weight_of_children weight cs

unfoldable pub weight_within : ℕ → Forest → ℕ → ℕ
weight_within zero f n = 1
weight_within (suc levels) f n = 1 + weight_of_children (weight_within levels f) (shown_children f n)

abbrev pub weight_of : Forest → ℕ → ℕ
weight_of f = weight_within f.bound f

same_weight : (g h : ℕ → ℕ) (cs : List Child) → ((m : ℕ) → 0 < count m (nodes cs) → g m ≡ h m) → weight_of_children g cs ≡ weight_of_children h cs
same_weight g h [] e = refl
same_weight g h (ChildText t ∷ cs) e = ap (λ w. 1 + w) (same_weight g h cs e)
same_weight g h (ChildNode n ∷ cs) e =
    ap (λ w. 1 + w + weight_of_children g cs) (e n (here_first n cs)) ∙ ap (λ w. 1 + h n + w) (same_weight g h cs (λ m w. e m (here_later m n cs w)))

weight_gone : (f : Forest) (levels n : ℕ) → f.node n ≡ None → weight_within (suc levels) f n ≡ weight_within levels f n
unfolding weight_within
weight_gone f zero n e = rw (e, e) refl
weight_gone f (suc levels) n e = rw (e, e) refl

weight_further : (f : Forest) (levels n : ℕ) → ((m : ℕ) → 0 < count m (nodes (shown_children f n)) → weight_within (suc levels) f m ≡ weight_within levels f m) → weight_within (suc (suc levels)) f n ≡ weight_within (suc levels) f n
unfolding weight_within
weight_further f levels n same = ap (λ below. 1 + below) (same_weight (weight_within (suc levels) f) (weight_within levels f) (shown_children f n) same)

pub weight_of_node : (f : Forest) (n : ℕ) → IsForest f → weight_of f n ≡ 1 + weight_of_children (weight_of f) (shown_children f n)
unfolding weight_within
weight_of_node f n k = sym (settled f k (λ n. nodes (shown_children f n)) (λ n m. shown_is_below f n m k) (λ levels. weight_within levels f) (weight_gone f) (weight_further f) n)

-- more levels than nodes add no calls
pub calls_settled : (f : Forest) (more n : ℕ) → IsForest f → calls_within (f.bound + more) f n ≡ calls_of f n
calls_settled f more n k = settled_beyond f k (λ n. nodes (shown_children f n)) (λ n m. shown_is_below f n m k) (λ levels. calls_within levels f) (calls_gone f) (calls_further f) more n
