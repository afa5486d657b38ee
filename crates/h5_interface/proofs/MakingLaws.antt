-- New nodes, contents and marks keep a forest, and give no old node a parent.
use Rattle.std.proofs.Common.{◌≡◌, ◌≢◌, ◌∙◌, ℕ, ◌+◌, ◌≤◌, Bool, true, false, cond, List, [], arith, inl, inr, max, refl, subst, sym}
use Rattle.std.specs.Prelude.{◌==◌, if◌then◌else◌, IfOk, OnOk, Option, None, Some, Result, Ok, Err}
use Rattle.std.specs.declared.alloc.AllocError.{AllocError}
use Rattle.std.proofs.lemmas.Bool.{eq-eqb, eqb-true}
use Rattle.h5_names.specs.declared.qualified.QualName.{QualName}
use Rattle.h5_names.specs.AttributeText.{AttributeText}
use Rattle.h5_interface.specs.declared.marks.ElementFlags.{ElementFlags}
use Rattle.h5_interface.specs.Ancestors.{AtOrAbove}
use Rattle.h5_interface.specs.Changes.{add_missing_attributes, add_node, append_node, host, mark}
use Rattle.h5_interface.specs.Forest.{AreParted, DoctypeNode, DocumentNode, ElementNode, Forest, FragmentNode, HasContents, IsElement, IsForest, IsNode, Kind, Marks, Node, below_of, children_of, contents_of, count, is_at, kind_of, parent_of}
use Rattle.h5_interface.specs.Seen.{IsFreeFor, Seen, after_create_element, append_doctype, element, make, make_contents, make_element, plain, with_contents}
use Rattle.h5_interface.specs.SinkChoices.{Rearranges, SinkChoices}
use Rattle.h5_interface.proofs.AncestorLaws.{ancestor_fewer}
use Rattle.h5_interface.proofs.ChildLaws.{count-append}
use Rattle.h5_interface.proofs.ForestLaws.{ancestor_is_node, document_is_node, node_of_kind, rearranged_ancestor, rearranges_trans}
use Rattle.h5_interface.proofs.HangingLaws.{append_node_keeps, append_node_rehangs, free_not_document}
use Rattle.h5_interface.proofs.RehangLaws.{Rehangs, hung_keeps, loosened_rearranges, none_chosen, shape_rehangs}

-- marks alone change
pub mark_rearranges : (f : Forest) (marks : ℕ → Marks) → IsForest f → Rearranges f (mark marks f)
mark_rearranges f marks k =
    loosened_rearranges f (mark marks f) none_chosen k
    (shape_rehangs f _ k (record { kind = λ n d. refl; children = λ n d. refl; contents = λ n d. refl; parent = λ n d. refl }))

-- attributes alone change
pub add_missing_rearranges : (f : Forest) (n : ℕ) (attrs : List AttributeText) → IsForest f → Rearranges f (add_missing_attributes n attrs f)
add_missing_rearranges f n attrs k =
    loosened_rearranges f (add_missing_attributes n attrs f) none_chosen k
    (shape_rehangs f _ k (record { kind = λ n d. refl; children = λ n d. refl; contents = λ n d. refl; parent = λ n d. refl }))

-- a node with nothing below it and no parent
pub record IsLone (d : Node) : Type 0 where
  pub children : d.children ≡ []
  pub contents : d.contents ≡ None
  pub parent : d.parent ≡ None

-- the parents are unchanged when a lone node is added
pub added_parent : (f : Forest) (n : ℕ) (d : Node) → f.node n ≡ None → IsLone d → (m : ℕ) → parent_of (add_node n d f) m ≡ parent_of f m
added_parent f n d new lone m = at (m == n) refl
  where
    at : (b : Bool) → (m == n) ≡ b → parent_of (add_node n d f) m ≡ parent_of f m
    at true w = rw (w, eqb-true m n w, new, lone.parent) refl
    at false w = rw w refl

pub added_kind : (f : Forest) (n : ℕ) (d : Node) → f.node n ≡ None → (m : ℕ) → IsNode f m → kind_of (add_node n d f) m ≡ kind_of f m
added_kind f n d new m there = at (m == n) refl
  where
    at : (b : Bool) → (m == n) ≡ b → kind_of (add_node n d f) m ≡ kind_of f m
    at true w = absurd (there (rw (eqb-true m n w) new))
    at false w = rw w refl

added_contents : (f : Forest) (n : ℕ) (d : Node) → f.node n ≡ None → IsLone d → (m : ℕ) → contents_of (add_node n d f) m ≡ contents_of f m
added_contents f n d new lone m = at (m == n) refl
  where
    at : (b : Bool) → (m == n) ≡ b → contents_of (add_node n d f) m ≡ contents_of f m
    at true w = rw (w, eqb-true m n w, new, lone.contents) refl
    at false w = rw w refl

pub new_is_node : (f : Forest) (n : ℕ) (d : Node) → IsNode (add_node n d f) n
new_is_node f n d = rw (eq-eqb n n refl) (λ e. cc)

pub new_kind : (f : Forest) (n : ℕ) (d : Node) → kind_of (add_node n d f) n ≡ Some d.kind
new_kind f n d = rw (eq-eqb n n refl) refl

pub old_is_node : (f : Forest) (n m : ℕ) (d : Node) → IsNode f m → IsNode (add_node n d f) m
old_is_node f n m d h = at (m == n) refl
  where
    at : (b : Bool) → (m == n) ≡ b → IsNode (add_node n d f) m
    at true w = rw w (λ e. cc)
    at false w = rw w h

-- a lone node that was not there keeps a forest
pub add_keeps : (f : Forest) (n : ℕ) (d : Node) → IsForest f → f.node n ≡ None → IsLone d → IsForest (add_node n d f)
add_keeps f n d k new lone = record {
  bounded = λ m h. far m (m == n) refl h;
  root = added_kind f n d new f.document (document_is_node f k) ∙ k.root;
  one_parent = λ p c. rw (below_same p (p == n) refl, added_parent f n d new lone c) (k.one_parent p c);
  inside = λ p c e. old_is_node f n p d (k.inside p c (sym (added_parent f n d new lone c) ∙ e));
  acyclic = λ m h. k.acyclic m (ancestor_fewer (parent_of f) (parent_of (add_node n d f)) (λ c p e. sym (added_parent f n d new lone c) ∙ e) m m h);
  parted = λ m. rw (children_same m (m == n) refl) (k.parted m);
  hosted = λ m c e. let w = k.hosted m c (sym (added_contents f n d new lone m) ∙ e) in added_kind f n d new c (λ z. let v = (rw z at w) in cc) ∙ w;
  top = added_parent f n d new lone f.document ∙ k.top;
}
  where
    far : (m : ℕ) (b : Bool) → (m == n) ≡ b → max f.bound (n + 1) ≤ m → (add_node n d f).node m ≡ None
    far m true w h = absurd (let z : m ≡ n = eqb-true m n w in omega arith)
    far m false w h = rw w (k.bounded m (omega arith))

    below_same : (m : ℕ) (b : Bool) → (m == n) ≡ b → below_of (add_node n d f) m ≡ below_of f m
    below_same m true w = rw (w, eqb-true m n w, new, lone.children, lone.contents) refl
    below_same m false w = rw w refl

    children_same : (m : ℕ) (b : Bool) → (m == n) ≡ b → children_of (add_node n d f) m ≡ children_of f m
    children_same m true w = rw (w, eqb-true m n w, new, lone.children) refl
    children_same m false w = rw w refl

pub add_rearranges : (f : Forest) (n : ℕ) (d : Node) → IsForest f → f.node n ≡ None → IsLone d → Rearranges f (add_node n d f)
add_rearranges f n d k new lone = record {
  is_forest = add_keeps f n d k new lone;
  same_document = refl;
  same_kind = added_kind f n d new;
  contents = λ m w z. w (sym (added_contents f n d new lone m) ∙ z);
  parents = λ m p there e. sym (added_parent f n d new lone m) ∙ e;
}

-- a new node is above none that was there
pub new_not_above : (f : Forest) (n p : ℕ) (d : Node) → IsForest f → f.node n ≡ None → IsLone d → IsNode f p → ¬ (AtOrAbove (parent_of (add_node n d f)) n p)
new_not_above f n p d k new lone there (inl e) = there (rw (← e) new)
new_not_above f n p d k new lone there (inr h) =
    ancestor_is_node f n p k (ancestor_fewer (parent_of f) (parent_of (add_node n d f)) (λ c q e. sym (added_parent f n d new lone c) ∙ e) n p h) new

pub new_parent : (f : Forest) (n : ℕ) (d : Node) → IsLone d → parent_of (add_node n d f) n ≡ None
new_parent f n d lone = rw (eq-eqb n n refl, lone.parent) refl

-- a new node that is not a document is free for each old one
pub new_is_free : (f : Forest) (n p : ℕ) (d : Node) → IsForest f → f.node n ≡ None → IsLone d → d.kind ≢ DocumentNode → IsNode f p → IsFreeFor (add_node n d f) p n
new_is_free f n p d k new lone other there = record {
  is_node = new_is_node f n d;
  no_document = λ e. other (let w : Some d.kind ≡ Some DocumentNode = sym (new_kind f n d) ∙ e in cc);
  no_parent = new_parent f n d lone;
  not_above = new_not_above f n p d k new lone there;
}

-- if a new node is put below another, no old node gets a parent
pub hung_fresh_rearranges : (f g h : Forest) (n p : ℕ) → f.node n ≡ None → Rearranges f g → IsForest h → Rehangs g h (λ m. m == n) (Some p) → Rearranges f h
hung_fresh_rearranges f g h n p new r kept s = record {
  is_forest = kept;
  same_document = s.document ∙ r.same_document;
  same_kind = λ m there. s.kinds m ∙ r.same_kind m there;
  contents = λ m w. s.contents m (r.contents m w);
  parents = λ m q there e. parents m q there (m == n) refl (sym (s.parents m) ∙ e);
}
  where
    parents : (m q : ℕ) → IsNode f m → (b : Bool) → (m == n) ≡ b → cond (m == n) (Some p) (parent_of g m) ≡ Some q → parent_of f m ≡ Some q
    parents m q there true w e = absurd (there (rw (eqb-true m n w) new))
    parents m q there false w e = r.parents m q there (let e' = (rw w at e) in e')

-- a new node as the last child of an old one
pub append_new_rearranges : (f : Forest) (n p : ℕ) (d : Node) → IsForest f → f.node n ≡ None → IsLone d → d.kind ≢ DocumentNode → IsNode f p → Rearranges f (append_node p n (add_node n d f))
append_new_rearranges f n p d k new lone other there =
    let kept : IsForest (add_node n d f) = add_keeps f n d k new lone in
    let free : IsFreeFor (add_node n d f) p n = new_is_free f n p d k new lone other there in
    let there' : IsNode (add_node n d f) p = old_is_node f n p d there in
    hung_fresh_rearranges f (add_node n d f) (append_node p n (add_node n d f)) n p new (add_rearranges f n d k new lone)
    (append_node_keeps (add_node n d f) p n kept (record { is_node = there'; child = free }))
    (append_node_rehangs (add_node n d f) p n kept there' free)

some_inj : (y z : Node) → Some y ≡ Some z → y ≡ z
some_inj y z h = cc

-- a free fragment becomes the contents of a node that has none
pub host_rehangs : (f : Forest) (p c : ℕ) → IsForest f → IsNode f p → contents_of f p ≡ None → kind_of f c ≡ Some FragmentNode → IsFreeFor f p c → Rehangs f (host p c f) (λ n. n == c) (Some p)
host_rehangs f p c k there none fragment free = case_p (f.node p) refl
  where
    case_p : (o : Option Node) → f.node p ≡ o → Rehangs f (host p c f) (λ n. n == c) (Some p)
    case_p None e = absurd (there e)
    case_p (Some d) e = record {
      document = refl;
      bound = refl;
      kinds = λ n. kinds n (f.node n) refl;
      parents = λ n. parents n (n == c) refl (f.node n) refl;
      counts = λ q x. counts q x (q == p) refl (x == c) refl (f.node q) refl;
      texts = λ n. texts n (f.node n) refl;
      hosts = λ n x w. hosts n x (n == p) refl (f.node n) refl w;
      contents = λ n w. kept n (n == p) refl (f.node n) refl w;
    }
      where
        empty : d.contents ≡ None
        empty = let w = (rw e at none) in w

        kinds : (n : ℕ) (o : Option Node) → f.node n ≡ o → kind_of (host p c f) n ≡ kind_of f n
        kinds n None w = rw w refl
        kinds n (Some x) w = rw w refl

        parents : (n : ℕ) (b : Bool) → (n == c) ≡ b → (o : Option Node) → f.node n ≡ o → parent_of (host p c f) n ≡ cond (n == c) (Some p) (parent_of f n)
        parents n true m None w = absurd (free.is_node (rw (eqb-true n c m) at w))
        parents n false m None w = rw (w, m) refl
        parents n b m (Some x) w = rw w refl

        texts : (n : ℕ) (o : Option Node) → f.node n ≡ o → AreParted (children_of (host p c f) n)
        texts n None w = rw w tt
        texts n (Some x) w = rw w (rw w at (k.parted n))

        hosts : (n x : ℕ) (b : Bool) → (n == p) ≡ b → (o : Option Node) → f.node n ≡ o → contents_of (host p c f) n ≡ Some x → kind_of f x ≡ Some FragmentNode
        hosts n x b m None w z = let z' = (rw w at z) in cc
        hosts n x true m (Some y) w z = let z' = (rw (w, m) at z) in let v : c ≡ x = cc in rw (← v) fragment
        hosts n x false m (Some y) w z = k.hosted n x (let z' = (rw (w, m) at z) in rw w z')

        kept : (n : ℕ) (b : Bool) → (n == p) ≡ b → (o : Option Node) → f.node n ≡ o → HasContents f n → HasContents (host p c f) n
        kept n b m None w h = absurd (h (rw w refl))
        kept n true m (Some y) w h = rw (w, m) (λ z. cc)
        kept n false m (Some y) w h = rw (w, m) (rw w at h)

        none_at : (q : ℕ) → count c (below_of f q) ≡ 0
        none_at q = let w = k.one_parent q c in (rw free.no_parent at w)

        counts : (q x : ℕ) (b : Bool) → (q == p) ≡ b → (m : Bool) → (x == c) ≡ m → (o : Option Node) → f.node q ≡ o → count x (below_of (host p c f) q) ≡ cond (x == c) (if is_at q (Some p) then 1 else 0) (count x (below_of f q))
        counts q x true v m w None u = let z = (rw (eqb-true q p v, e) at u) in cc
        counts q x false v true w None u = rw (u, w, v) refl
        counts q x false v false w None u = rw (u, w) refl
        counts q x true v true w (Some y) u =
            let z : y ≡ d = some_inj y d (sym u ∙ rw (eqb-true q p v) e) in
            let n0 = (rw (u, z, empty) at (none_at q)) in
            rw (u, v, w, z, eqb-true x c w) (simp (count-append, eq-eqb c c refl) (omega (arith, simp count-append at n0)))
        counts q x true v false w (Some y) u =
            let z : y ≡ d = some_inj y d (sym u ∙ rw (eqb-true q p v) e) in
            rw (u, v, w, z, empty) (simp (count-append, w) refl)
        counts q x false v true w (Some y) u = let n0 = (rw u at (none_at q)) in rw (u, v, w, eqb-true x c w) n0
        counts q x false v false w (Some y) u = rw (u, v, w) refl

pub plain_lone : (kind : Kind) → IsLone (plain kind)
plain_lone kind = record { children = refl; contents = refl; parent = refl }

pub element_lone : (name : QualName) (attrs : List AttributeText) (flags : ElementFlags) → IsLone (element name attrs flags)
element_lone name attrs flags = record { children = refl; contents = refl; parent = refl }

-- a comment, an instruction or any plain node is made
pub make_rearranges : (choices : SinkChoices) (f : Forest) (d : Node) → IsForest f → IsLone d → Rearranges f (make choices d f)
make_rearranges choices f d k lone = add_rearranges f (choices.fresh f) d k (choices.fresh_is_new f k) lone

-- contents are made
pub make_contents_rearranges : (choices : SinkChoices) (f : Forest) (t : ℕ) → IsForest f → IsNode f t → contents_of f t ≡ None → Rearranges f (make_contents choices t f)
make_contents_rearranges choices f t k there none =
    let c : ℕ = choices.fresh f in
    let new : f.node c ≡ None = choices.fresh_is_new f k in
    let lone : IsLone (plain FragmentNode) = plain_lone FragmentNode in
    let g : Forest = make choices (plain FragmentNode) f in
    let kept : IsForest g = add_keeps f c (plain FragmentNode) k new lone in
    let there' : IsNode g t = old_is_node f c t (plain FragmentNode) there in
    let free : IsFreeFor g t c = new_is_free f c t (plain FragmentNode) k new lone (λ e. cc) there in
    let hangs : Rehangs g (host t c g) (λ n. n == c) (Some t) =
    host_rehangs g t c kept there' (added_contents f c (plain FragmentNode) new lone t ∙ none) (new_kind f c (plain FragmentNode)) free in
    hung_fresh_rearranges f g (host t c g) c t new (add_rearranges f c (plain FragmentNode) k new lone)
    (hung_keeps g (host t c g) (λ n. n == c) t kept hangs there' (λ x w. rw (eqb-true x c w) free.not_above) (free_not_document g c t kept free)) hangs

-- an element is made, and its contents if it is a template
pub make_element_rearranges : (choices : SinkChoices) (f : Forest) (name : QualName) (attrs : List AttributeText) (flags : ElementFlags) → IsForest f → Rearranges f (make_element choices name attrs flags f)
make_element_rearranges choices f name attrs flags k = at flags.template
  where
    made : Rearranges f (make choices (element name attrs flags) f)
    made = make_rearranges choices f (element name attrs flags) k (element_lone name attrs flags)

    at : (b : Bool) → Rearranges f (with_contents b choices (choices.fresh f) (make choices (element name attrs flags) f))
    at true =
        rearranges_trans f (make choices (element name attrs flags) f) (make_contents choices (choices.fresh f) (make choices (element name attrs flags) f)) made
        (make_contents_rearranges choices (make choices (element name attrs flags) f) (choices.fresh f) made.is_forest (new_is_node f (choices.fresh f) (element name attrs flags))
        (rw (eq-eqb (choices.fresh f) (choices.fresh f) refl) refl))
    at false = made

-- what the new element is
pub made_kind : (choices : SinkChoices) (f : Forest) (name : QualName) (attrs : List AttributeText) (flags : ElementFlags) → IsForest f → kind_of (make_element choices name attrs flags f) (choices.fresh f) ≡ Some (ElementNode name)
made_kind choices f name attrs flags k = at flags.template
  where
    g : Forest
    g = make choices (element name attrs flags) f

    kept : IsForest g
    kept = (make_rearranges choices f (element name attrs flags) k (element_lone name attrs flags)).is_forest

    there : IsNode g (choices.fresh f)
    there = new_is_node f (choices.fresh f) (element name attrs flags)

    at : (b : Bool) → kind_of (with_contents b choices (choices.fresh f) g) (choices.fresh f) ≡ Some (ElementNode name)
    at true = (make_contents_rearranges choices g (choices.fresh f) kept there (rw (eq-eqb (choices.fresh f) (choices.fresh f) refl) refl)).same_kind (choices.fresh f) there ∙ new_kind f (choices.fresh f) (element name attrs flags)
    at false = new_kind f (choices.fresh f) (element name attrs flags)

-- a call that makes an element gives a handle of an element
pub gives_element : {H : Type 0} (node : H → ℕ) (choices : SinkChoices) (name : QualName) (attrs : List AttributeText) (flags : ElementFlags) (old new : Seen) (r : Result H AllocError) → IsForest old.forest
    → IfOk r (λ h. node h ≡ choices.fresh old.forest) → OnOk r (new ≡ after_create_element choices name attrs flags old) → IfOk r (λ h. IsElement new.forest (node h))
gives_element node choices name attrs flags old new (Ok h) k at made =
    subst (λ (s : Seen). IsElement s.forest (node h)) (sym made) (subst (λ n. IsElement (make_element choices name attrs flags old.forest) n) (sym at) (name, made_kind choices old.forest name attrs flags k))
gives_element node choices name attrs flags old new (Err e) k at made = tt

pub made_parent : (choices : SinkChoices) (f : Forest) (name : QualName) (attrs : List AttributeText) (flags : ElementFlags) → IsForest f → parent_of (make_element choices name attrs flags f) (choices.fresh f) ≡ None
made_parent choices f name attrs flags k = at flags.template
  where
    g : Forest
    g = make choices (element name attrs flags) f

    kept : IsForest g
    kept = (make_rearranges choices f (element name attrs flags) k (element_lone name attrs flags)).is_forest

    there : IsNode g (choices.fresh f)
    there = new_is_node f (choices.fresh f) (element name attrs flags)

    none : parent_of g (choices.fresh f) ≡ None
    none = new_parent f (choices.fresh f) (element name attrs flags) (element_lone name attrs flags)

    stays : (o : Option ℕ) → parent_of (make_contents choices (choices.fresh f) g) (choices.fresh f) ≡ o → o ≡ None
    stays None e = refl
    stays (Some p) e =
        let up = (make_contents_rearranges choices g (choices.fresh f) kept there (rw (eq-eqb (choices.fresh f) (choices.fresh f) refl) refl)).parents (choices.fresh f) p there e in
        let w : None ≡ Some p = sym none ∙ up in cc

    at : (b : Bool) → parent_of (with_contents b choices (choices.fresh f) g) (choices.fresh f) ≡ None
    at true = stays (parent_of (make_contents choices (choices.fresh f) g) (choices.fresh f)) refl
    at false = none

-- a new template has contents
pub made_contents : (choices : SinkChoices) (f : Forest) (name : QualName) (attrs : List AttributeText) (flags : ElementFlags) → flags.template ≡ true → HasContents (make_element choices name attrs flags f) (choices.fresh f)
made_contents choices f name attrs flags e =
    subst (λ b. HasContents (with_contents b choices (choices.fresh f) g) (choices.fresh f)) (sym e) (at (choices.fresh f == choices.fresh g) refl)
  where
    g : Forest
    g = make choices (element name attrs flags) f

    at : (b : Bool) → (choices.fresh f == choices.fresh g) ≡ b → HasContents (make_contents choices (choices.fresh f) g) (choices.fresh f)
    at true w = rw (w, eq-eqb (choices.fresh f) (choices.fresh f) refl) (λ z. cc)
    at false w = rw (w, eq-eqb (choices.fresh f) (choices.fresh f) refl) (λ z. cc)

-- the new element may be put below each old node
pub made_is_free : (choices : SinkChoices) (f : Forest) (name : QualName) (attrs : List AttributeText) (flags : ElementFlags) (p : ℕ) → IsForest f → IsNode f p → IsFreeFor (make_element choices name attrs flags f) p (choices.fresh f)
made_is_free choices f name attrs flags p k there = record {
  is_node = node_of_kind (make_element choices name attrs flags f) (choices.fresh f) (ElementNode name) (made_kind choices f name attrs flags k);
  no_document = λ e. let w : Some (ElementNode name) ≡ Some DocumentNode = sym (made_kind choices f name attrs flags k) ∙ e in cc;
  no_parent = made_parent choices f name attrs flags k;
  not_above = apart;
}
  where
    new : f.node (choices.fresh f) ≡ None
    new = choices.fresh_is_new f k

    apart : ¬ (AtOrAbove (parent_of (make_element choices name attrs flags f)) (choices.fresh f) p)
    apart (inl e) = there (rw (← e) new)
    apart (inr h) = ancestor_is_node f (choices.fresh f) p k (rearranged_ancestor f (make_element choices name attrs flags f) (choices.fresh f) p k (make_element_rearranges choices f name attrs flags k) there h) new

-- a doctype is made, and becomes the document's last child
pub append_doctype_rearranges : (choices : SinkChoices) (f : Forest) (name public_id system_id : List ℕ) → IsForest f → Rearranges f (append_doctype choices name public_id system_id f)
append_doctype_rearranges choices f name public_id system_id k =
    append_new_rearranges f (choices.fresh f) f.document (plain (DoctypeNode name public_id system_id)) k (choices.fresh_is_new f k) (plain_lone (DoctypeNode name public_id system_id)) (λ e. cc) (document_is_node f k)
