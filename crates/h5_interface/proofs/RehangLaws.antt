-- Nodes that get a parent, or lose it: what stays.
use Rattle.std.proofs.Common.{◌≡◌, ◌∙◌, ℕ, Bool, true, false, cond, List, ◌++◌, ap, refl, subst, sym}
use Rattle.std.specs.Prelude.{◌==◌, if◌then◌else◌, Option, None, Some}
use Rattle.std.specs.Option.{option_map, option_to_list}
use Rattle.std.proofs.lemmas.Bool.{eq-eqb, eqb-true}
use Rattle.h5_interface.specs.Ancestors.{AtOrAbove, IsAncestor}
use Rattle.h5_interface.specs.Changes.{change_nodes, edit_children, joined, set_parents}
use Rattle.h5_interface.specs.Forest.{AreParted, Child, Forest, FragmentNode, HasContents, IsForest, IsNode, Node, below, below_of, children_of, contents_of, count, is_at, kind_of, nodes, parent_of}
use Rattle.h5_interface.specs.SinkChoices.{Rearranges}
use Rattle.h5_interface.proofs.AncestorLaws.{ComesBy, acyclic_after, ancestor_after, ancestor_fewer, hung}
use Rattle.h5_interface.proofs.ChildLaws.{NoneEmpty, count-append, nodes-joined, none_empty_of_parted, parted-joined}
use Rattle.h5_interface.proofs.ForestLaws.{gone_alike, same_forest, there_alike}

-- g is f with the chosen nodes below q, or without a parent; contents are fragments, and templates keep theirs
pub record Rehangs (f g : Forest) (chosen : ℕ → Bool) (q : Option ℕ) : Type 0 where
  pub document : g.document ≡ f.document
  pub bound : g.bound ≡ f.bound
  pub kinds : (n : ℕ) → kind_of g n ≡ kind_of f n
  pub parents : (n : ℕ) → parent_of g n ≡ cond (chosen n) q (parent_of f n)
  pub counts : (p c : ℕ) → count c (below_of g p) ≡ cond (chosen c) (if is_at p q then 1 else 0) (count c (below_of f p))
  pub texts : (n : ℕ) → AreParted (children_of g n)
  pub hosts : (n c : ℕ) → contents_of g n ≡ Some c → kind_of f c ≡ Some FragmentNode
  pub contents : (n : ℕ) → HasContents f n → HasContents g n

one_case : (b : Bool) (p x : ℕ) (q o : Option ℕ) → x ≡ (if is_at p o then 1 else 0) → cond b (if is_at p q then 1 else 0) x ≡ (if is_at p (cond b q o) then 1 else 0)
one_case true p x q o e = refl
one_case false p x q o e = e

one_parent_after : (f g : Forest) (chosen : ℕ → Bool) (q : Option ℕ) → IsForest f → Rehangs f g chosen q → (p c : ℕ) → count c (below_of g p) ≡ (if is_at p (parent_of g c) then 1 else 0)
one_parent_after f g chosen q k r p c =
    rw (r.parents c) (r.counts p c ∙ one_case (chosen c) p (count c (below_of f p)) q (parent_of f c) (k.one_parent p c))

loosened_edge : (b : Bool) (o : Option ℕ) (p : ℕ) → cond b None o ≡ Some p → o ≡ Some p
loosened_edge true o p e = cc
loosened_edge false o p e = e

loosened_top : (b : Bool) (o : Option ℕ) → o ≡ None → cond b None o ≡ None
loosened_top true o e = refl
loosened_top false o e = e

hung_edge : (f : Forest) (p c q : ℕ) (b : Bool) → IsForest f → IsNode f p → cond b (Some p) (parent_of f c) ≡ Some q → IsNode f q
hung_edge f p c q true k there e = let w : p ≡ q = cc in rw (← w) there
hung_edge f p c q false k there e = k.inside q c e

-- the chosen nodes may be put below a node that is not at or below any of them, if the document is none of them
pub hung_keeps : (f g : Forest) (chosen : ℕ → Bool) (p : ℕ) → IsForest f → Rehangs f g chosen (Some p) → IsNode f p → ((c : ℕ) → chosen c ≡ true → ¬ (AtOrAbove (parent_of f) c p)) → chosen f.document ≡ false → IsForest g
hung_keeps f g chosen p k r there apart not_document = record {
  bounded = λ n h. gone_alike f g n (r.kinds n) (k.bounded n (rw (← r.bound) h));
  root = rw r.document (r.kinds f.document ∙ k.root);
  one_parent = one_parent_after f g chosen (Some p) k r;
  inside = λ q c e. there_alike f g q (r.kinds q) (hung_edge f p c q (chosen c) k there (sym (r.parents c) ∙ e));
  acyclic = λ n h. acyclic_after (parent_of f) chosen p k.acyclic apart n (ancestor_fewer (hung (parent_of f) chosen p) (parent_of g) (λ c q e. sym (r.parents c) ∙ e) n n h);
  parted = r.texts;
  hosted = λ n c e. r.kinds c ∙ r.hosts n c e;
  top = rw r.document (r.parents f.document ∙ rw not_document k.top);
}

-- any nodes may lose their parent
pub loosened_keeps : (f g : Forest) (chosen : ℕ → Bool) → IsForest f → Rehangs f g chosen None → IsForest g
loosened_keeps f g chosen k r = record {
  bounded = λ n h. gone_alike f g n (r.kinds n) (k.bounded n (rw (← r.bound) h));
  root = rw r.document (r.kinds f.document ∙ k.root);
  one_parent = one_parent_after f g chosen None k r;
  inside = λ q c e. there_alike f g q (r.kinds q) (k.inside q c (loosened_edge (chosen c) (parent_of f c) q (sym (r.parents c) ∙ e)));
  acyclic = λ n h. k.acyclic n (ancestor_fewer (parent_of f) (parent_of g) (λ c q e. loosened_edge (chosen c) (parent_of f c) q (sym (r.parents c) ∙ e)) n n h);
  parted = r.texts;
  hosted = λ n c e. r.kinds c ∙ r.hosts n c e;
  top = rw r.document (r.parents f.document ∙ loosened_top (chosen f.document) (parent_of f f.document) k.top);
}

pub loosened_rearranges : (f g : Forest) (chosen : ℕ → Bool) → IsForest f → Rehangs f g chosen None → Rearranges f g
loosened_rearranges f g chosen k r = record {
  is_forest = loosened_keeps f g chosen k r;
  same_document = r.document;
  same_kind = λ n there. r.kinds n;
  contents = r.contents;
  parents = λ n p there e. loosened_edge (chosen n) (parent_of f n) p (sym (r.parents n) ∙ e);
}

-- after nodes were given a parent, an ancestor is an old one, or comes by a chosen node
pub hung_ancestor : (f g : Forest) (chosen : ℕ → Bool) (p a n : ℕ) → Rehangs f g chosen (Some p) → IsAncestor (parent_of g) a n → ComesBy (parent_of f) chosen p a n
hung_ancestor f g chosen p a n r h =
    ancestor_after (parent_of f) chosen p a n (ancestor_fewer (hung (parent_of f) chosen p) (parent_of g) (λ c q e. sym (r.parents c) ∙ e) a n h)

pub rehung_node : (f g : Forest) (chosen : ℕ → Bool) (q : Option ℕ) (n : ℕ) → Rehangs f g chosen q → IsNode f n → IsNode g n
rehung_node f g chosen q n r there = there_alike f g n (r.kinds n) there

-- the children of p are edited, and the chosen nodes get a parent, or none
abbrev pub edited : ℕ → (List Child → List Child) → (ℕ → Bool) → Option ℕ → Forest → Forest
edited p h chosen q f = set_parents chosen q (edit_children p h f)

edited-kind : (p : ℕ) (h : List Child → List Child) (chosen : ℕ → Bool) (q : Option ℕ) (f : Forest) (n : ℕ) (o : Option Node) → f.node n ≡ o → kind_of (edited p h chosen q f) n ≡ kind_of f n
edited-kind p h chosen q f n None e = rw e refl
edited-kind p h chosen q f n (Some d) e = rw e refl

edited-contents : (p : ℕ) (h : List Child → List Child) (chosen : ℕ → Bool) (q : Option ℕ) (f : Forest) (n : ℕ) (o : Option Node) → f.node n ≡ o → contents_of (edited p h chosen q f) n ≡ contents_of f n
edited-contents p h chosen q f n None e = rw e refl
edited-contents p h chosen q f n (Some d) e = rw e refl

edited-parent : (p : ℕ) (h : List Child → List Child) (chosen : ℕ → Bool) (q : Option ℕ) (f : Forest) (n : ℕ) (o : Option Node) (b : Bool) → f.node n ≡ o → chosen n ≡ b → (chosen n ≡ true → IsNode f n) → parent_of (edited p h chosen q f) n ≡ cond (chosen n) q (parent_of f n)
edited-parent p h chosen q f n None true e m k = absurd (k m e)
edited-parent p h chosen q f n None false e m k = rw (e, m) refl
edited-parent p h chosen q f n (Some d) b e m k = rw e refl

edited-below : (p : ℕ) (h : List Child → List Child) (chosen : ℕ → Bool) (q : Option ℕ) (f : Forest) (d : Node) → f.node p ≡ Some d → below_of (edited p h chosen q f) p ≡ nodes (h d.children) ++ option_to_list d.contents
edited-below p h chosen q f d e = rw (e, eq-eqb p p refl, nodes-joined) refl

edited-below_other : (p : ℕ) (h : List Child → List Child) (chosen : ℕ → Bool) (q : Option ℕ) (f : Forest) (n : ℕ) (o : Option Node) → f.node n ≡ o → (n == p) ≡ false → below_of (edited p h chosen q f) n ≡ below_of f n
edited-below_other p h chosen q f n None e m = rw e refl
edited-below_other p h chosen q f n (Some d) e m = rw (e, m) refl

texts_case : (h : List Child → List Child) (cs : List Child) (b : Bool) → (NoneEmpty cs → NoneEmpty (h cs)) → AreParted cs → AreParted (cond b (joined (h cs)) cs)
texts_case h cs true k a = parted-joined (h cs) (k (none_empty_of_parted cs a))
texts_case h cs false k a = a

edited-texts : (p : ℕ) (h : List Child → List Child) (chosen : ℕ → Bool) (q : Option ℕ) (f : Forest) (n : ℕ) (o : Option Node) → f.node n ≡ o → ((cs : List Child) → NoneEmpty cs → NoneEmpty (h cs)) → AreParted (children_of f n) → AreParted (children_of (edited p h chosen q f) n)
edited-texts p h chosen q f n None e k a = rw e tt
edited-texts p h chosen q f n (Some d) e k a = rw e (texts_case h d.children (n == p) (k d.children) (rw e at a))

-- an edit gives parents if it makes no text empty, and the chosen nodes are below p exactly if they get it as their parent
pub edited_rehangs : (p : ℕ) (h : List Child → List Child) (chosen : ℕ → Bool) (q : Option ℕ) (f : Forest) (d : Node) → IsForest f → f.node p ≡ Some d
    → ((n : ℕ) → chosen n ≡ true → IsNode f n)
    → ((cs : List Child) → NoneEmpty cs → NoneEmpty (h cs))
    → ((c : ℕ) → count c (nodes (h d.children) ++ option_to_list d.contents) ≡ cond (chosen c) (if is_at p q then 1 else 0) (count c (below d)))
    → ((n c : ℕ) → (n == p) ≡ false → chosen c ≡ true → is_at n (parent_of f c) ≡ is_at n q)
    → Rehangs f (edited p h chosen q f) chosen q
edited_rehangs p h chosen q f d k e there texts here other = record {
  document = refl;
  bound = refl;
  kinds = λ n. edited-kind p h chosen q f n (f.node n) refl;
  parents = λ n. edited-parent p h chosen q f n (f.node n) (chosen n) refl refl (there n);
  counts = λ n c. edited_counts n c (n == p) refl (chosen c) refl;
  texts = λ n. edited-texts p h chosen q f n (f.node n) refl texts (k.parted n);
  hosts = λ n c w. k.hosted n c (sym (edited-contents p h chosen q f n (f.node n) refl) ∙ w);
  contents = λ n w z. w (sym (edited-contents p h chosen q f n (f.node n) refl) ∙ z);
}
  where
    edited_counts : (n c : ℕ) (b : Bool) → (n == p) ≡ b → (m : Bool) → chosen c ≡ m → count c (below_of (edited p h chosen q f) n) ≡ cond (chosen c) (if is_at n q then 1 else 0) (count c (below_of f n))
    edited_counts n c true w m v = rw (eqb-true n p w, edited-below p h chosen q f d e, e) (here c)
    edited_counts n c false w true v = ap (count c) (edited-below_other p h chosen q f n (f.node n) refl w) ∙ k.one_parent n c ∙ rw (v, other n c w v) refl
    edited_counts n c false w false v = ap (count c) (edited-below_other p h chosen q f n (f.node n) refl w) ∙ rw v refl

abbrev pub none_chosen : ℕ → Bool
none_chosen _ = false

pub id_map : (o : Option Node) → option_map {T = Node} {U = Node} (λ d. d) o ≡ o
id_map None = refl
id_map (Some d) = refl

none_set : (f : Forest) → set_parents none_chosen None f ≡ f
none_set f = same_forest _ f refl refl (λ n. id_map (f.node n))

-- the children of one node are edited, and the same nodes stay among them
pub edit_rehangs : (f : Forest) (p : ℕ) (h : List Child → List Child) → IsForest f → IsNode f p → ((cs : List Child) → NoneEmpty cs → NoneEmpty (h cs)) → ((c : ℕ) (cs : List Child) → count c (nodes (h cs)) ≡ count c (nodes cs)) → Rehangs f (edit_children p h f) none_chosen None
edit_rehangs f p h k there_p texts same = case_p (f.node p) refl
  where
    case_p : (o : Option Node) → f.node p ≡ o → Rehangs f (edit_children p h f) none_chosen None
    case_p None e = absurd (there_p e)
    case_p (Some d) e = subst (λ g. Rehangs f g none_chosen None) (none_set (edit_children p h f))
        (edited_rehangs p h none_chosen None f d k e (λ n w. cc) texts
        (λ c. simp (count-append, same c d.children))
        (λ n c w v. cc))

-- something else changes: neither kind, children, contents nor parent
pub record KeepsShape (change : ℕ → Node → Node) : Type 0 where
  pub kind : (n : ℕ) (d : Node) → (change n d).kind ≡ d.kind
  pub children : (n : ℕ) (d : Node) → (change n d).children ≡ d.children
  pub contents : (n : ℕ) (d : Node) → (change n d).contents ≡ d.contents
  pub parent : (n : ℕ) (d : Node) → (change n d).parent ≡ d.parent

pub shape_rehangs : (f : Forest) (change : ℕ → Node → Node) → IsForest f → KeepsShape change → Rehangs f (change_nodes change f) none_chosen None
shape_rehangs f change k s = record {
  document = refl;
  bound = refl;
  kinds = λ n. kinds n (f.node n) refl;
  parents = λ n. parents n (f.node n) refl;
  counts = λ p c. ap (count c) (below_same p (f.node p) refl);
  texts = λ n. rw (children_same n (f.node n) refl) (k.parted n);
  hosts = λ n c e. k.hosted n c (sym (contents_same n (f.node n) refl) ∙ e);
  contents = λ n w z. w (sym (contents_same n (f.node n) refl) ∙ z);
}
  where
    kinds : (n : ℕ) (o : Option Node) → f.node n ≡ o → kind_of (change_nodes change f) n ≡ kind_of f n
    kinds n None e = rw e refl
    kinds n (Some d) e = rw (e, s.kind n d) refl

    parents : (n : ℕ) (o : Option Node) → f.node n ≡ o → parent_of (change_nodes change f) n ≡ parent_of f n
    parents n None e = rw e refl
    parents n (Some d) e = rw (e, s.parent n d) refl

    below_same : (n : ℕ) (o : Option Node) → f.node n ≡ o → below_of (change_nodes change f) n ≡ below_of f n
    below_same n None e = rw e refl
    below_same n (Some d) e = rw (e, s.children n d, s.contents n d) refl

    children_same : (n : ℕ) (o : Option Node) → f.node n ≡ o → children_of (change_nodes change f) n ≡ children_of f n
    children_same n None e = rw e refl
    children_same n (Some d) e = rw (e, s.children n d) refl

    contents_same : (n : ℕ) (o : Option Node) → f.node n ≡ o → contents_of (change_nodes change f) n ≡ contents_of f n
    contents_same n None e = rw e refl
    contents_same n (Some d) e = rw (e, s.contents n d) refl
