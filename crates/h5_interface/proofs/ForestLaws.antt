-- What holds in every forest.
use Rattle.std.proofs.Common.{◌≡◌, ◌≢◌, ◌∙◌, ℕ, ◌+◌, ◌<◌, ◌≤◌, Bool, true, false, ap, arith, refl, sym}
use Rattle.std.specs.Prelude.{◌==◌, if◌then◌else◌, Option, None, Some}
use Rattle.std.specs.Option.{option_map, option_to_list}
use Rattle.std.proofs.lemmas.Bool.{eq-eqb, eqb-true}
use Rattle.h5_interface.specs.Ancestors.{Further, IsAncestor, Parent}
use Rattle.h5_interface.specs.Forest.{DocumentNode, Forest, FragmentNode, IsForest, IsNode, Kind, Node, below_of, children_of, contents_of, count, is_at, kind_of, nodes, parent_of}
use Rattle.h5_interface.specs.SinkChoices.{Rearranges}
use Rattle.h5_interface.proofs.ChildLaws.{count-append}

-- forests that agree at each node are equal
pub same_forest : (f g : Forest) → f.document ≡ g.document → f.bound ≡ g.bound → ((n : ℕ) → f.node n ≡ g.node n) → f ≡ g
same_forest f g e b h = λ i. record { document = e i; bound = b i; node = λ n. h n i }

pub is_some : {A : Type 0} (o : Option A) (x : A) → o ≡ Some x → o ≢ None
is_some o x e k = cc

-- a number with a kind is a node
pub node_of_kind : (f : Forest) (n : ℕ) (kind : Kind) → kind_of f n ≡ Some kind → IsNode f n
node_of_kind f n kind e h = let w = (rw h at e) in cc

no_kind : (o : Option Node) → option_map {U = Kind} (λ d. d.kind) o ≡ None → o ≡ None
no_kind None w = refl
no_kind (Some d) w = cc

-- numbers with equal kinds are both nodes, or both not
pub gone_alike : (f g : Forest) (n : ℕ) → kind_of g n ≡ kind_of f n → f.node n ≡ None → g.node n ≡ None
gone_alike f g n e k = no_kind (g.node n) (e ∙ rw k refl)

pub there_alike : (f g : Forest) (n : ℕ) → kind_of g n ≡ kind_of f n → IsNode f n → IsNode g n
there_alike f g n e k h = k (gone_alike g f n (sym e) h)

pub document_is_node : (f : Forest) → IsForest f → IsNode f f.document
document_is_node f k = node_of_kind f f.document DocumentNode k.root

-- a parent's child is a node, and so is an ancestor
pub child_is_node : (f : Forest) (n p : ℕ) → parent_of f n ≡ Some p → IsNode f n
child_is_node f n p e h = let w = (rw h at e) in cc

pub ancestor_is_node : (f : Forest) (a n : ℕ) → IsForest f → IsAncestor (parent_of f) a n → IsNode f a
ancestor_is_node f a n k (Parent e) = k.inside a n e
ancestor_is_node f a n k (Further q h e) = ancestor_is_node f a q k h

-- a template's contents are a node, and a fragment
pub contents_are_node : (f : Forest) (n c : ℕ) → IsForest f → contents_of f n ≡ Some c → IsNode f c
contents_are_node f n c k e = node_of_kind f c FragmentNode (k.hosted n c e)

-- a node without a parent is below no node
pub none_below : (f : Forest) (p c : ℕ) → IsForest f → parent_of f c ≡ None → count c (below_of f p) ≡ 0
none_below f p c k o = let w = k.one_parent p c in (rw o at w)

pub self_at : (p : ℕ) → ◌≡◌ {A = ℕ} (if is_at p (Some p) then 1 else 0) 1
self_at p = rw (eq-eqb p p refl) refl

-- a node that isn't a fragment occurs once among its parent's children
pub child_once : (f : Forest) (p c : ℕ) → IsForest f → parent_of f c ≡ Some p → kind_of f c ≢ Some FragmentNode → count c (nodes (children_of f p)) ≡ 1
child_once f p c k up no_fragment = at (f.node p) refl
  where
    no_contents : (o : Option ℕ) → contents_of f p ≡ o → count c (option_to_list o) ≡ 0
    no_contents None e = refl
    no_contents (Some m) e = other (c == m) refl
      where
        other : (b : Bool) → (c == m) ≡ b → (if c == m then 1 else 0) + 0 ≡ 0
        other true w = absurd (no_fragment (rw (eqb-true c m w) (k.hosted p m e)))
        other false w = rw w refl

    at : (o : Option Node) → f.node p ≡ o → count c (nodes (children_of f p)) ≡ 1
    at None e = absurd (k.inside p c up e)
    at (Some d) e =
        let all = k.one_parent p c in
        let all' = (rw (e, up, self_at p) at all) in
        let none = no_contents d.contents (rw e refl) in
        rw e (omega (arith, none, simp count-append at all'))

pub at_parent : (p : ℕ) (o : Option ℕ) → 0 < (if is_at p o then 1 else 0) → o ≡ Some p
at_parent p None h = absurd (omega arith)
at_parent p (Some q) h = case (p == q) refl h
  where
    case : (b : Bool) → (p == q) ≡ b → 0 < (if b then 1 else 0) → Some q ≡ Some p
    case true e w = ap (λ x. Some x) (sym (eqb-true p q e))
    case false e w = absurd (omega arith)

pub children_few : (f : Forest) (p c : ℕ) → count c (nodes (children_of f p)) ≤ count c (below_of f p)
children_few f p c = at (f.node p) refl
  where
    at : (o : Option Node) → f.node p ≡ o → count c (nodes (children_of f p)) ≤ count c (below_of f p)
    at None e = rw e (omega arith)
    at (Some d) e = rw (e, count-append) (omega arith)

-- the parent of a node
pub parent_of_child : (f : Forest) (p c : ℕ) → IsForest f → 0 < count c (nodes (children_of f p)) → parent_of f c ≡ Some p
parent_of_child f p c k h = at_parent p (parent_of f c) (rw (← k.one_parent p c) (let few = children_few f p c in omega arith))

-- a rearrangement makes no old node an ancestor of another that it was not
pub rearranged_ancestor : (f g : Forest) (a n : ℕ) → IsForest f → Rearranges f g → IsNode f n → IsAncestor (parent_of g) a n → IsAncestor (parent_of f) a n
rearranged_ancestor f g a n k r there (Parent e) = Parent (r.parents n a there e)
rearranged_ancestor f g a n k r there (Further p h e) =
    let up = r.parents n p there e in Further p (rearranged_ancestor f g a p k r (k.inside p n up) h) up

pub rearranged_node : (f g : Forest) (n : ℕ) → Rearranges f g → IsNode f n → IsNode g n
rearranged_node f g n r there = there_alike f g n (r.same_kind n there) there

-- two rearrangements in a row are one
pub rearranges_trans : (f g h : Forest) → Rearranges f g → Rearranges g h → Rearranges f h
rearranges_trans f g h r s = record {
  is_forest = s.is_forest;
  same_document = s.same_document ∙ r.same_document;
  same_kind = λ n there. s.same_kind n (rearranged_node f g n r there) ∙ r.same_kind n there;
  contents = λ n w. s.contents n (r.contents n w);
  parents = λ n p there e. r.parents n p there (s.parents n p (rearranged_node f g n r there) e);
}

pub rearranges_refl : (f : Forest) → IsForest f → Rearranges f f
rearranges_refl f k = record {
  is_forest = k;
  same_document = refl;
  same_kind = λ n there. refl;
  contents = λ n w. w;
  parents = λ n p there e. e;
}
