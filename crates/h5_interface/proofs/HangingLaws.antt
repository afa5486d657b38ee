-- Each change of parents and children, under its conditions, keeps a forest.
use Rattle.std.proofs.Common.{◌≡◌, ◌∙◌, ℕ, ◌+◌, ◌<◌, ◌≤◌, Bool, true, false, cond, List, [], ◌∷◌, ◌++◌, ap, arith, inl, inr, refl, subst, sym}
use Rattle.std.specs.Prelude.{◌==◌, if◌then◌else◌, nat_lt, Option, None, Some}
use Rattle.std.specs.Option.{option_to_list}
use Rattle.std.proofs.lemmas.Bool.{eq-eqb, eqb-true}
use Rattle.std.proofs.lemmas.Bool.Decides.{nat_tests}
use Rattle.h5_interface.specs.Ancestors.{AtOrAbove, Parent}
use Rattle.h5_interface.specs.Changes.{append_node, append_text, detach, detach_from, has_child, insert_before, insert_node_before, insert_node_below, insert_text_before, insert_text_below, reparent, without}
use Rattle.h5_interface.specs.Forest.{AreParted, Child, ChildNode, ChildText, DocumentNode, Forest, IsForest, IsNode, Node, below, below_of, children_of, contents_of, count, is_at, kind_of, nodes, parent_of}
use Rattle.h5_interface.specs.Seen.{CanAppend, CanDetach, CanInsertBefore, CanReparent, IsFreeFor}
use Rattle.h5_interface.specs.SinkChoices.{Rearranges}
use Rattle.h5_interface.proofs.AncestorLaws.{ancestor_trans}
use Rattle.h5_interface.proofs.ChildLaws.{count-append, count-insert_before, count-without, nodes-append, nodes-insert_before_text, nodes-joined, none_empty-append, none_empty-insert_before, none_empty-without, none_empty_of_parted, parted-joined}
use Rattle.h5_interface.proofs.ForestLaws.{child_is_node, child_once, children_few, none_below, parent_of_child, rearranges_refl, self_at}
use Rattle.h5_interface.proofs.RehangLaws.{Rehangs, edit_rehangs, edited_rehangs, hung_keeps, loosened_rearranges, none_chosen}

append_count : (c x : ℕ) (cs : List Child) (ys : List ℕ) → count x (nodes (cs ++ ChildNode c ∷ []) ++ ys) ≡ cond (x == c) 1 0 + count x (nodes cs ++ ys)
append_count c x cs ys = simp (nodes-append, count-append) (omega arith)

-- one more of a node that was not there
one_more : (c x n : ℕ) (b : Bool) (old : ℕ) → (x ≡ c → old ≡ 0) → (x == c) ≡ b → n ≡ cond (x == c) 1 0 + old → n ≡ cond b 1 old
one_more c x n true old z w e = rw (e, w, z (eqb-true x c w)) refl
one_more c x n false old z w e = rw (e, w) (omega arith)

none_below_node : (f : Forest) (p c : ℕ) (d : Node) → IsForest f → f.node p ≡ Some d → parent_of f c ≡ None → count c (below d) ≡ 0
none_below_node f p c d k e o = let w = none_below f p c k o in (rw e at w)

-- a free node becomes a last child
pub append_node_rehangs : (f : Forest) (p c : ℕ) → IsForest f → IsNode f p → IsFreeFor f p c → Rehangs f (append_node p c f) (λ n. n == c) (Some p)
append_node_rehangs f p c k there free = case_p (f.node p) refl
  where
    case_p : (o : Option Node) → f.node p ≡ o → Rehangs f (append_node p c f) (λ n. n == c) (Some p)
    case_p None e = absurd (there e)
    case_p (Some d) e =
        edited_rehangs p (λ cs. cs ++ ChildNode c ∷ []) (λ n. n == c) (Some p) f d k e
        (λ n w. rw (eqb-true n c w) free.is_node)
        (λ cs h. none_empty-append cs (ChildNode c ∷ []) h tt)
        (λ x. rw (self_at p) (one_more c x _ (x == c) (count x (below d)) (λ w. rw w (none_below_node f p c d k e free.no_parent)) refl (append_count c x d.children (option_to_list d.contents))))
        (λ n x w v. rw (eqb-true x c v, free.no_parent) (sym w))

-- the document is not free
pub free_not_document : (f : Forest) (c p : ℕ) → IsForest f → IsFreeFor f p c → (f.document == c) ≡ false
free_not_document f c p k free = at (f.document == c) refl
  where
    at : (b : Bool) → (f.document == c) ≡ b → (f.document == c) ≡ false
    at true w = absurd (free.no_document (subst (λ n. kind_of f n ≡ Some DocumentNode) (eqb-true f.document c w) k.root))
    at false w = w

-- a node that is hung alone keeps a forest
hung_one_keeps : (f g : Forest) (p c : ℕ) → IsForest f → IsNode f p → IsFreeFor f p c → Rehangs f g (λ n. n == c) (Some p) → IsForest g
hung_one_keeps f g p c k there free r = hung_keeps f g (λ n. n == c) p k r there (λ x w. rw (eqb-true x c w) free.not_above) (free_not_document f c p k free)

pub append_node_keeps : (f : Forest) (p c : ℕ) → IsForest f → CanAppend f p (ChildNode c) → IsForest (append_node p c f)
append_node_keeps f p c k may = hung_one_keeps f (append_node p c f) p c k may.is_node may.child (append_node_rehangs f p c k may.is_node may.child)

pub append_text_rehangs : (f : Forest) (p : ℕ) (t : List ℕ) → IsForest f → CanAppend f p (ChildText t) → Rehangs f (append_text p t f) none_chosen None
append_text_rehangs f p t k may =
    edit_rehangs f p (λ cs. cs ++ ChildText t ∷ []) k may.is_node (λ cs h. none_empty-append cs (ChildText t ∷ []) h (may.child, tt))
    (λ c cs. simp (nodes-append, count-append) (omega arith))

pub append_text_rearranges : (f : Forest) (p : ℕ) (t : List ℕ) → IsForest f → CanAppend f p (ChildText t) → Rearranges f (append_text p t f)
append_text_rearranges f p t k may = loosened_rearranges f (append_text p t f) none_chosen k (append_text_rehangs f p t k may)

-- a free node comes before a sibling
insert_below_rehangs : (f : Forest) (p s c : ℕ) → IsForest f → parent_of f s ≡ Some p → count s (nodes (children_of f p)) ≡ 1 → IsFreeFor f p c → Rehangs f (insert_node_below (Some p) s c f) (λ n. n == c) (Some p)
insert_below_rehangs f p s c k up one free = case_p (f.node p) refl
  where
    case_p : (o : Option Node) → f.node p ≡ o → Rehangs f (insert_node_below (Some p) s c f) (λ n. n == c) (Some p)
    case_p None e = absurd (k.inside p s up e)
    case_p (Some d) e =
        let once = (rw e at one) in
        edited_rehangs p (insert_before s (ChildNode c)) (λ n. n == c) (Some p) f d k e
        (λ n w. rw (eqb-true n c w) free.is_node)
        (λ cs h. none_empty-insert_before s (ChildNode c) cs tt h)
        (λ x. rw (self_at p) (one_more c x _ (x == c) (count x (below d)) (λ w. rw w (none_below_node f p c d k e free.no_parent)) refl
        (count-append x (nodes (insert_before s (ChildNode c) d.children)) (option_to_list d.contents) ∙ rw (count-insert_before s c x d.children once, count-append x (nodes d.children) (option_to_list d.contents)) (omega arith))))
        (λ n x w v. rw (eqb-true x c v, free.no_parent) (sym w))

pub insert_node_rehangs : (f : Forest) (s c : ℕ) → IsForest f → (may : CanInsertBefore f s (ChildNode c)) → Rehangs f (insert_node_before s c f) (λ n. n == c) (Some may.parent)
insert_node_rehangs f s c k may =
    subst (λ o. Rehangs f (insert_node_below o s c f) (λ n. n == c) (Some may.parent)) (sym may.is_parent)
    (insert_below_rehangs f may.parent s c k may.is_parent (child_once f may.parent s k may.is_parent may.no_fragment) may.child)

pub insert_node_keeps : (f : Forest) (s c : ℕ) → IsForest f → CanInsertBefore f s (ChildNode c) → IsForest (insert_node_before s c f)
insert_node_keeps f s c k may =
    hung_one_keeps f (insert_node_before s c f) may.parent c k (k.inside may.parent s may.is_parent) may.child (insert_node_rehangs f s c k may)

pub insert_text_rehangs : (f : Forest) (s : ℕ) (t : List ℕ) → IsForest f → CanInsertBefore f s (ChildText t) → Rehangs f (insert_text_before s t f) none_chosen None
insert_text_rehangs f s t k may =
    subst (λ o. Rehangs f (insert_text_below o s t f) none_chosen None) (sym may.is_parent)
    (edit_rehangs f may.parent (insert_before s (ChildText t)) k (k.inside may.parent s may.is_parent)
    (λ cs h. none_empty-insert_before s (ChildText t) cs (may.child, tt) h)
    (λ c cs. ap (count c) (nodes-insert_before_text s t cs)))

pub insert_text_rearranges : (f : Forest) (s : ℕ) (t : List ℕ) → IsForest f → CanInsertBefore f s (ChildText t) → Rearranges f (insert_text_before s t f)
insert_text_rearranges f s t k may = loosened_rearranges f (insert_text_before s t f) none_chosen k (insert_text_rehangs f s t k may)

-- a child is taken from its parent
detach_from_rehangs : (f : Forest) (p c : ℕ) → IsForest f → parent_of f c ≡ Some p → count c (nodes (children_of f p)) ≡ 1 → IsNode f c → Rehangs f (detach_from (Some p) c f) (λ n. n == c) None
detach_from_rehangs f p c k up one there = case_p (f.node p) refl
  where
    below_count : (d : Node) → f.node p ≡ Some d → (x : ℕ) (b : Bool) → (x == c) ≡ b → count x (nodes (without c d.children) ++ option_to_list d.contents) ≡ cond (x == c) 0 (count x (below d))
    below_count d e x true w =
        let all = k.one_parent p c in
        let all' = (rw (e, up, self_at p) at all) in
        let one' = (rw e at one) in
        rw (eqb-true x c w, count-append, count-without, eq-eqb c c refl) (omega (arith, one', simp count-append at all'))
    below_count d e x false w = simp (count-append, count-without, w)

    case_p : (o : Option Node) → f.node p ≡ o → Rehangs f (detach_from (Some p) c f) (λ n. n == c) None
    case_p None e = absurd (k.inside p c up e)
    case_p (Some d) e =
        edited_rehangs p (without c) (λ n. n == c) None f d k e
        (λ n w. rw (eqb-true n c w) there)
        (none_empty-without c)
        (λ x. below_count d e x (x == c) refl)
        (λ n x w v. rw (eqb-true x c v, up) w)

pub detach_rearranges : (f : Forest) (c : ℕ) → IsForest f → CanDetach f c → Rearranges f (detach c f)
detach_rearranges f c k may = at (parent_of f c) refl
  where
    at : (o : Option ℕ) → parent_of f c ≡ o → Rearranges f (detach c f)
    at None e = subst (λ o. Rearranges f (detach_from o c f)) (sym e) (rearranges_refl f k)
    at (Some p) e = subst (λ o. Rearranges f (detach_from o c f)) (sym e)
        (loosened_rearranges f (detach_from (Some p) c f) (λ n. n == c) k
        (detach_from_rehangs f p c k e (child_once f p c k e may.no_fragment) may.is_node))

-- a node that was detached has no parent
pub detached_parent : (f : Forest) (c : ℕ) → parent_of (detach c f) c ≡ None
detached_parent f c = at (parent_of f c) refl (f.node c) refl
  where
    at : (o : Option ℕ) → parent_of f c ≡ o → (d : Option Node) → f.node c ≡ d → parent_of (detach c f) c ≡ None
    at None e d w = subst (λ o. parent_of (detach_from o c f) c ≡ None) (sym e) e
    at (Some p) e None w = absurd (child_is_node f c p e w)
    at (Some p) e (Some d) w = subst (λ o. parent_of (detach_from o c f) c ≡ None) (sym e) (rw (w, eq-eqb c c refl) refl)

chosen_true : (n : ℕ) → nat_lt 0 n ≡ true → 0 < n
chosen_true n e = grind (arith, nat_tests)

chosen_false : (n : ℕ) → nat_lt 0 n ≡ false → n ≡ 0
chosen_false n e = grind (arith, nat_tests)

at_most : (b : Bool) → cond b 1 0 ≤ 1
at_most true = omega arith
at_most false = omega arith

-- a moved child was a child of the one node
pub moved_child : (f : Forest) (from c : ℕ) → IsForest f → has_child (children_of f from) c ≡ true → parent_of f c ≡ Some from
moved_child f from c k w = parent_of_child f from c k (chosen_true (count c (nodes (children_of f from))) w)

-- all children of the one node go to the end of those of another, which is not at or below it
pub reparent_rehangs : (f : Forest) (from to : ℕ) → IsForest f → CanReparent f from to → Rehangs f (reparent from to f) (has_child (children_of f from)) (Some to)
reparent_rehangs f from to k may =
    record {
      document = refl;
      bound = refl;
      kinds = λ n. kinds n (f.node n) refl;
      parents = λ n. parents n (chosen n) refl (f.node n) refl;
      counts = λ p c. counts p c (p == from) refl (p == to) refl (chosen c) refl (f.node p) refl;
      texts = λ n. texts n (f.node n) refl (n == from) refl (n == to) refl;
      hosts = λ n c e. k.hosted n c (sym (contents_same n (f.node n) refl) ∙ e);
      contents = λ n w z. w (sym (contents_same n (f.node n) refl) ∙ z);
    }
  where
    moved : List Child
    moved = children_of f from

    chosen : ℕ → Bool
    chosen = has_child (children_of f from)

    g : Forest
    g = reparent from to f

    below_from : (c : ℕ) → chosen c ≡ true → parent_of f c ≡ Some from
    below_from c w = moved_child f from c k w

    kinds : (n : ℕ) (o : Option Node) → f.node n ≡ o → kind_of g n ≡ kind_of f n
    kinds n None e = rw e refl
    kinds n (Some d) e = rw e refl

    contents_same : (n : ℕ) (o : Option Node) → f.node n ≡ o → contents_of g n ≡ contents_of f n
    contents_same n None e = rw e refl
    contents_same n (Some d) e = rw e refl

    parents : (n : ℕ) (b : Bool) → chosen n ≡ b → (o : Option Node) → f.node n ≡ o → parent_of g n ≡ cond (chosen n) (Some to) (parent_of f n)
    parents n true w None e = absurd (child_is_node f n from (below_from n w) e)
    parents n false w None e = rw (e, w) refl
    parents n b w (Some d) e = rw e refl

    counts : (p c : ℕ) (bf : Bool) → (p == from) ≡ bf → (bt : Bool) → (p == to) ≡ bt → (m : Bool) → chosen c ≡ m → (o : Option Node) → f.node p ≡ o → count c (below_of g p) ≡ cond (chosen c) (if is_at p (Some to) then 1 else 0) (count c (below_of f p))
    counts p c bf wf true wt true v None e = absurd (may.to_is_node (rw (eqb-true p to wt) at e))
    counts p c bf wf false wt true v None e = rw (e, v, wt) refl
    counts p c bf wf bt wt false v None e = rw (e, v) refl
    counts p c true wf true wt m v (Some d) e = absurd (may.not_above (inl (sym (eqb-true p from wf) ∙ eqb-true p to wt)))
    counts p c true wf false wt true v (Some d) e =
        let all = (rw (e, below_from c v) at (k.one_parent p c)) in
        let some = (rw (← eqb-true p from wf, e) at (chosen_true (count c (nodes (children_of f from))) v)) in
        let most = at_most (is_at p (Some from)) in
        rw (e, wf, v, wt) (omega (arith, some, most, simp count-append at all))
    counts p c true wf false wt false v (Some d) e =
        let none = (rw (← eqb-true p from wf, e) at (chosen_false (count c (nodes (children_of f from))) v)) in
        rw (e, wf, v) (simp count-append (omega (arith, none)))
    counts p c false wf true wt true v (Some d) e =
        let all = (rw (e, below_from c v, wf) at (k.one_parent p c)) in
        let some = chosen_true (count c (nodes (children_of f from))) v in
        let few = children_few f from c in
        let most = (rw (below_from c v) at (k.one_parent from c)) in
        let most' = at_most (is_at from (Some from)) in
        rw (e, wf, wt, v) (simp (nodes-joined, nodes-append, count-append) (omega (arith, simp count-append at all, some, few, most, most')))
    counts p c false wf true wt false v (Some d) e =
        let none = chosen_false (count c (nodes (children_of f from))) v in
        rw (e, wf, wt, v) (simp (nodes-joined, nodes-append, count-append) (omega (arith, none)))
    counts p c false wf false wt true v (Some d) e =
        let all = (rw (e, below_from c v, wf) at (k.one_parent p c)) in
        rw (e, wf, wt, v) all
    counts p c false wf false wt false v (Some d) e = rw (e, wf, wt, v) refl

    texts : (n : ℕ) (o : Option Node) → f.node n ≡ o → (bf : Bool) → (n == from) ≡ bf → (bt : Bool) → (n == to) ≡ bt → AreParted (children_of g n)
    texts n None e bf wf bt wt = rw e tt
    texts n (Some d) e true wf bt wt = rw (e, wf) tt
    texts n (Some d) e false wf true wt = rw (e, wf, wt) (parted-joined (d.children ++ moved) (none_empty-append d.children moved (none_empty_of_parted d.children (rw e at (k.parted n))) (none_empty_of_parted moved (k.parted from))))
    texts n (Some d) e false wf false wt = rw (e, wf, wt) (rw e at (k.parted n))

-- a moved child is not at or above the node that it goes to
moved_apart : (f : Forest) (from to c : ℕ) → CanReparent f from to → parent_of f c ≡ Some from → ¬ (AtOrAbove (parent_of f) c to)
moved_apart f from to c may e (inl h) = may.not_above (inr (Parent (rw (← h) e)))
moved_apart f from to c may e (inr h) = may.not_above (inr (ancestor_trans (parent_of f) from c to (Parent e) h))

pub reparent_keeps : (f : Forest) (from to : ℕ) → IsForest f → CanReparent f from to → IsForest (reparent from to f)
reparent_keeps f from to k may =
    hung_keeps f (reparent from to f) (has_child (children_of f from)) to k (reparent_rehangs f from to k may) may.to_is_node
    (λ c w. moved_apart f from to c may (moved_child f from c k w))
    (not_moved (has_child (children_of f from) f.document) refl)
  where
    not_moved : (b : Bool) → has_child (children_of f from) f.document ≡ b → has_child (children_of f from) f.document ≡ false
    not_moved true w = let e : None ≡ Some from = sym k.top ∙ moved_child f from f.document k w in cc
    not_moved false w = w
