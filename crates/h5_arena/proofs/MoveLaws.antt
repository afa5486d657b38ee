-- Children that move from one node to another.
use Rattle.std.proofs.Common.{◌≡◌, ◌≢◌, ◌∙◌, ℕ, ◌+◌, ◌-◌, ◌<◌, ◌≤◌, Bool, true, false, cond, eqb, List, [], ◌∷◌, ◌++◌, ap, arith, drop, get_or, length, refl, sym, take}
use Rattle.std.specs.Prelude.{◌==◌, ◌||◌, if◌then◌else◌, nat_lt, Option, None, Some, slice_get}
use Rattle.std.proofs.Math.ListN.{set}
use Rattle.std.proofs.lemmas.Bool.{eq-eqb, eqb-true}
use Rattle.std.proofs.lemmas.Bool.Decides.{nat_tests}
use Rattle.std.proofs.lemmas.List.{get_or-set_other, get_or-set_same, length-drop, length-map, length-set, map-set}
use Prim.Native.Nat.{zero, suc}
use Rattle.h5_interface.specs.Changes.{edit_children, has_child, join, joined, reparent, set_parents, without}
use Rattle.h5_interface.specs.Forest.{AreParted, Child, ChildNode, ChildText, Forest, IsForest, Node, children_of, count, nodes}
use Rattle.h5_interface.proofs.ChildLaws.{count-append, nodes-append, nodes-joined}
use Rattle.h5_interface.proofs.ForestLaws.{parent_of_child, same_forest}
use Rattle.h5_arena.specs.declared.nodes.Child as own
use Rattle.h5_arena.specs.declared.nodes.Child.TheVariants as own_is
use Rattle.h5_arena.specs.declared.nodes.NodeData.{NodeData}
use Rattle.h5_arena.specs.declared.nodes.NodeId.{NodeId}
use Rattle.h5_arena.specs.ArenaModel.{child_view, child_views, children_in, forest_in, node_view, node_views}
use Rattle.h5_arena.specs.ChildTests.{is_node_at, is_this}
use Rattle.h5_arena.proofs.ChildViews.{child_at, set-back}
use Rattle.h5_arena.proofs.NodeWrites.{child_within, children_at, children_write, node_at, same_write}
use Rattle.h5_interface.proofs.RehangLaws.{id_map}

-- the same nodes get a parent
pub set_parents_same : (a b : ℕ → Bool) (q : Option ℕ) (f : Forest) → ((n : ℕ) → a n ≡ b n) → set_parents a q f ≡ set_parents b q f
set_parents_same a b q f h = ap (λ chosen. set_parents chosen q f) (λ i n. h n i)

-- no node gets a parent
pub set_parents_none : (a : ℕ → Bool) (q : Option ℕ) (f : Forest) → ((n : ℕ) → a n ≡ false) → f ≡ set_parents a q f
set_parents_none a q f h = sym (set_parents_same a (λ _. false) q f h ∙ same_forest _ f refl refl (λ n. id_map (f.node n)))

or_case : (a b : Bool) (q o : Option ℕ) → cond a q (cond b q o) ≡ cond (a || b) q o
or_case true b q o = refl
or_case false b q o = refl

-- some nodes get a parent, and then others
pub set_parents_twice : (a b c : ℕ → Bool) (q : Option ℕ) (f : Forest) → ((n : ℕ) → c n ≡ (a n || b n)) → set_parents a q (set_parents b q f) ≡ set_parents c q f
set_parents_twice a b c q f h = same_forest _ (set_parents c q f) refl refl (λ n. at n (f.node n) refl)
  where
    at : (n : ℕ) (o : Option Node) → f.node n ≡ o → (set_parents a q (set_parents b q f)).node n ≡ (set_parents c q f).node n
    at n None e = rw e refl
    at n (Some d) e = rw (e, h n) (ap (λ p. Some (record d { parent = p })) (or_case (a n) (b n) q d.parent))

pub set_parents_children : (a : ℕ → Bool) (q : Option ℕ) (f : Forest) (n : ℕ) → children_of (set_parents a q f) n ≡ children_of f n
set_parents_children a q f n = at (f.node n) refl
  where
    at : (o : Option Node) → f.node n ≡ o → children_of (set_parents a q f) n ≡ children_of f n
    at None e = rw e refl
    at (Some d) e = rw e refl

-- true if a node is among children, child by child
abbrev has : List Child → ℕ → Bool
has [] n = false
has (x ∷ xs) n = is_this n x || has xs n

lt_more : (b : Bool) (k : ℕ) → nat_lt 0 ((if b then 1 else 0) + k) ≡ (b || nat_lt 0 k)
lt_more true k = grind (arith, nat_tests)
lt_more false k = grind (arith, nat_tests)

has_is : (cs : List Child) (n : ℕ) → has_child cs n ≡ has cs n
has_is [] n = grind (arith, nat_tests)
has_is (ChildNode m ∷ cs) n = lt_more (n == m) (count n (nodes cs)) ∙ ap (λ b. (n == m) || b) (has_is cs n)
has_is (ChildText t ∷ cs) n = has_is cs n

or_swap : (a b c : Bool) → (a || (b || c)) ≡ (b || (a || c))
or_swap true true c = refl
or_swap true false c = refl
or_swap false true c = refl
or_swap false false c = refl

has_more : (cs : List Child) (k n : ℕ) → k < length cs → has (take (suc k) cs) n ≡ (is_node_at cs k n || has (take k cs) n)
has_more [] k n h = absurd (omega arith)
has_more (x ∷ cs) zero n h = refl
has_more (x ∷ cs) (suc k) n h = ap (λ b. is_this n x || b) (has_more cs k n (omega arith)) ∙ or_swap (is_this n x) (is_node_at cs k n) (has (take k cs) n)

-- one child more
pub taken_more : (cs : List Child) (k j n : ℕ) → j ≡ suc k → k < length cs → has_child (take j cs) n ≡ (is_node_at cs k n || has_child (take k cs) n)
taken_more cs k j n e h = rw e (has_is (take (suc k) cs) n ∙ has_more cs k n h ∙ ap (λ b. is_node_at cs k n || b) (sym (has_is (take k cs) n)))

get_drop : (cs : List Child) (i k : ℕ) → slice_get (drop i cs) k ≡ slice_get cs (i + k)
get_drop cs zero k = rw (let e : 0 + k ≡ k = omega arith in e) refl
get_drop [] (suc i) k = refl
get_drop (x ∷ cs) (suc i) k = rw (let e : suc i + k ≡ suc (i + k) = omega arith in e) (get_drop cs i k)

-- the child at an index after the start
pub node_at_drop : (cs : List Child) (i k j n : ℕ) → j ≡ i + k → is_node_at (drop i cs) k n ≡ is_node_at cs j n
node_at_drop cs i k j n e = rw (e, get_drop cs i k) refl

drop_join : (t : List ℕ) (zs : List Child) → nodes (drop 1 (join (ChildText t) zs)) ≡ nodes zs
drop_join t [] = refl
drop_join t (ChildNode n ∷ zs) = refl
drop_join t (ChildText u ∷ zs) = refl

-- the nodes after those that were there are those that came
pub nodes_drop_joined : (xs ys : List Child) (k : ℕ) → k ≡ length xs → AreParted xs → nodes (drop k (joined (xs ++ ys))) ≡ nodes ys
nodes_drop_joined [] ys zero e h = nodes-joined ys
nodes_drop_joined [] ys (suc k) e h = absurd (omega arith)
nodes_drop_joined (x ∷ xs) ys zero e h = absurd (omega arith)
nodes_drop_joined (ChildNode n ∷ xs) ys (suc k) e h = nodes_drop_joined xs ys k (omega arith) h
nodes_drop_joined (ChildText t ∷ []) ys (suc zero) e h = drop_join t (joined ys) ∙ nodes-joined ys
nodes_drop_joined (ChildText t ∷ []) ys (suc (suc k)) e h = absurd (omega arith)
nodes_drop_joined (ChildText t ∷ ChildNode n ∷ xs) ys (suc zero) e h = absurd (omega arith)
nodes_drop_joined (ChildText t ∷ ChildNode n ∷ xs) ys (suc (suc k)) e h = nodes_drop_joined xs ys k (omega arith) h.1
nodes_drop_joined (ChildText t ∷ ChildText u ∷ xs) ys (suc k) e h = absurd h

-- edits of the children of two nodes
edits_commute : (f : Forest) (p q : ℕ) (h k : List Child → List Child) → p ≢ q → edit_children q k (edit_children p h f) ≡ edit_children p h (edit_children q k f)
edits_commute f p q h k apart = same_forest _ (edit_children p h (edit_children q k f)) refl refl (λ n. at n (n == p) refl (n == q) refl (f.node n) refl)
  where
    at : (n : ℕ) (a : Bool) → (n == p) ≡ a → (b : Bool) → (n == q) ≡ b → (o : Option Node) → f.node n ≡ o → (edit_children q k (edit_children p h f)).node n ≡ (edit_children p h (edit_children q k f)).node n
    at n a u b v None e = rw e refl
    at n true u true v (Some d) e = absurd (apart (sym (eqb-true n p u) ∙ eqb-true n q v))
    at n true u false v (Some d) e = rw (e, u, v) refl
    at n false u b v (Some d) e = rw (e, u) refl

edited_here : (f : Forest) (p q : ℕ) (h k : List Child → List Child) (d : Node) → p ≢ q → f.node q ≡ Some d → children_of (edit_children q k (edit_children p h f)) q ≡ joined (k d.children)
edited_here f p q h k d apart e = at (q == p) refl
  where
    at : (b : Bool) → (q == p) ≡ b → children_of (edit_children q k (edit_children p h f)) q ≡ joined (k d.children)
    at true u = absurd (apart (sym (eqb-true q p u)))
    at false u = rw (e, u, eq-eqb q q refl) refl

-- the children of `to` after the edits
pub moved_children : (f g : Forest) (from to : ℕ) (xs ys : List Child) (d : Node) → from ≢ to → f.node to ≡ Some d → d.children ≡ xs → g ≡ edit_children to (λ cs. cs ++ ys) (edit_children from (λ _. []) f) → children_of g to ≡ joined (xs ++ ys)
moved_children f g from to xs ys d apart e x w = rw (w, ← x) (edited_here f from to (λ _. []) (λ cs. cs ++ ys) d apart e)

-- with their parents set, all have moved
pub moved_all : (f g h : Forest) (from to start : ℕ) (xs ys : List Child) (d : Node) → from ≢ to → f.node to ≡ Some d → d.children ≡ xs → children_of f from ≡ ys → start ≡ length xs → AreParted xs
    → g ≡ edit_children to (λ cs. cs ++ ys) (edit_children from (λ _. []) f) → h ≡ set_parents (has_child (drop start (children_of g to))) (Some to) g → h ≡ reparent from to f
moved_all f g h from to start xs ys d apart e x y l parted w v =
    v ∙ set_parents_same (has_child (drop start (children_of g to))) (has_child ys) (Some to) g (λ n. ap (λ ns. nat_lt 0 (count n ns)) (ap (λ cs. nodes (drop start cs)) (moved_children f g from to xs ys d apart e x w) ∙ nodes_drop_joined xs ys start l parted))
    ∙ ap (set_parents (has_child ys) (Some to)) (w ∙ edits_commute f from to (λ _. []) (λ cs. cs ++ ys) apart)
    ∙ rw y refl

pub child_held : (ns : List NodeData) (p c : ℕ) → IsForest (forest_in ns) → 0 < count c (nodes (children_of (forest_in ns) p)) → c < length ns
child_held ns p c k h = child_within ns p c (parent_of_child (forest_in ns) p c k h)

-- all that are below `to` now are nodes
pub moved_held : (ns : List NodeData) (g : Forest) (from to c : ℕ) (xs ys : List Child) (d : Node) → IsForest (forest_in ns) → from ≢ to → slice_get (node_views ns) to ≡ Some d → d.children ≡ xs → children_of (forest_in ns) from ≡ ys
    → g ≡ edit_children to (λ cs. cs ++ ys) (edit_children from (λ _. []) (forest_in ns)) → 0 < count c (nodes (children_of g to)) → c < length ns
moved_held ns g from to c xs ys d k apart e x y w h =
    let all = (rw (moved_children (forest_in ns) g from to xs ys d apart e x w, nodes-joined (xs ++ ys), nodes-append xs ys, count-append c (nodes xs) (nodes ys)) at h) in
    case (nat_lt 0 (count c (nodes xs))) refl all
  where
    case : (b : Bool) → nat_lt 0 (count c (nodes xs)) ≡ b → 0 < count c (nodes xs) + count c (nodes ys) → c < length ns
    case true m all = child_held ns to c k (rw (e, x) (grind (arith, nat_tests)))
    case false m all = child_held ns from c k (rw y (grind (arith, nat_tests)))

-- a child that isn't a node is not among them
pub no_node : (n : ℕ) (x : own.Child) → ((id : NodeId) → x ≡ own_is.Node id → ⊥) → is_this n (child_view x) ≡ false
no_node n (own_is.Node id) none = absurd (none id refl)
no_node n (own_is.Text text) none = refl

-- the child that is read at a node
pub present : (ns : List NodeData) (p at : ℕ) (d : NodeData) (x : own.Child) → p < length ns → d ≡ get_or ns p d → x ≡ get_or (children_in d.children) at x → at < length (children_of (forest_in ns) p) → slice_get (children_of (forest_in ns) p) at ≡ Some (child_view x)
present ns p at d x h e f w =
    let w' = (rw (children_at ns p d h e) at w) in
    let within : at < length (children_in d.children) = simp length-map at w' in
    rw (children_at ns p d h e) (child_at (children_in d.children) at x within f)

-- none has its parent yet, one has, and all have
pub adopts_none : (f g : Forest) (cs : List Child) (q : Option ℕ) (i : ℕ) → g ≡ f → i ≡ 0 → g ≡ set_parents (has_child (take i cs)) q f
adopts_none f g cs q i e w = e ∙ set_parents_none (has_child (take i cs)) q f (λ n. rw w (grind (arith, nat_tests)))

pub adopts_one : (f g h : Forest) (cs : List Child) (p start i : ℕ) → start ≤ i → i < length cs → cs ≡ children_of f p → g ≡ set_parents (has_child (take (i - start) (drop start cs))) (Some p) f → h ≡ set_parents (is_node_at (children_of g p) i) (Some p) g
    → h ≡ set_parents (has_child (take (i + 1 - start) (drop start cs))) (Some p) f
adopts_one f g h cs p start i low high e w v =
    v ∙ set_parents_same (is_node_at (children_of g p) i) (is_node_at (drop start cs) (i - start)) (Some p) g
    (λ n. ap (λ xs. is_node_at xs i n) (ap (λ y. children_of y p) w ∙ set_parents_children (has_child (take (i - start) (drop start cs))) (Some p) f p ∙ sym e) ∙ sym (node_at_drop cs start (i - start) i n (omega arith)))
    ∙ ap (set_parents (is_node_at (drop start cs) (i - start)) (Some p)) w
    ∙ set_parents_twice (is_node_at (drop start cs) (i - start)) (has_child (take (i - start) (drop start cs))) (has_child (take (i + 1 - start) (drop start cs))) (Some p) f
    (λ n. taken_more (drop start cs) (i - start) (i + 1 - start) n (omega arith) (rw (length-drop start cs) (omega arith)))

pub adopts_all : (f g : Forest) (cs : List Child) (q : Option ℕ) (i : ℕ) → length cs ≤ i → g ≡ set_parents (has_child (take i cs)) q f → g ≡ set_parents (has_child cs) q f
adopts_all f g cs q i h e = e ∙ ap (λ xs. set_parents (has_child xs) q f) (take-past cs i h)
  where
    take-past : (xs : List Child) (k : ℕ) → length xs ≤ k → take k xs ≡ xs
    take-past [] zero w = refl
    take-past [] (suc k) w = refl
    take-past (x ∷ xs) zero w = absurd (omega arith)
    take-past (x ∷ xs) (suc k) w = ap (λ ys. x ∷ ys) (take-past xs k (omega arith))

-- if only parents were set, children are unchanged
pub kept_children : (f g : Forest) (chosen : ℕ → Bool) (q : Option ℕ) (p : ℕ) → g ≡ set_parents chosen q f → children_of g p ≡ children_of f p
kept_children f g chosen q p e = ap (λ y. children_of y p) e ∙ set_parents_children chosen q f p

pub kept_length : (ns ms : List NodeData) (chosen : ℕ → Bool) (q : Option ℕ) → forest_in ms ≡ set_parents chosen q (forest_in ns) → length ms ≡ length ns
kept_length ns ms chosen q e = let w : length (node_views ms) ≡ length (node_views ns) = ap (λ f. f.bound) e in sym (length-map ms node_view) ∙ w ∙ length-map ns node_view

pub children_length : (ns : List NodeData) (p : ℕ) (d : NodeData) → p < length ns → d ≡ get_or ns p d → length (children_of (forest_in ns) p) ≡ length (children_in d.children)
children_length ns p d h e = ap length (children_at ns p d h e) ∙ length-map (children_in d.children) child_view

-- the one node was emptied, and the other filled
pub moved_forest : (ns : List NodeData) (from to : ℕ) (d d1 e e1 : NodeData) (ys : List Child) → from < length ns → to < length ns → d ≡ get_or ns from d → node_view d1 ≡ record (node_view d) { children = [] }
    → e ≡ get_or (set ns from d1) to e → node_view e1 ≡ record (node_view e) { children = joined (child_views (children_in e.children) ++ ys) }
    → forest_in (set (set ns from d1) to e1) ≡ edit_children to (λ cs. cs ++ ys) (edit_children from (λ _. []) (forest_in ns))
moved_forest ns from to d d1 e e1 ys a b ed wd ee we =
    children_write (set ns from d1) to e e1 (λ cs. cs ++ ys) (rw (length-set ns from d1) b) ee we
    ∙ ap (edit_children to (λ cs. cs ++ ys)) (children_write ns from d d1 (λ _. []) a ed wd)

-- the other node was read where it is
pub filled_at : (ns : List NodeData) (from to : ℕ) (d1 e : NodeData) → from ≢ to → e ≡ get_or (set ns from d1) to e → e ≡ get_or ns to e
filled_at ns from to d1 e apart h = h ∙ get_or-set_other ns from to d1 e (λ w. apart (sym w))

-- all is put back
pub put_back : (ns : List NodeData) (from to : ℕ) (d d1 e e1 r2 : NodeData) → from < length ns → d ≡ get_or ns from d → e ≡ get_or (set ns from d1) to e → node_view e1 ≡ node_view e → node_view r2 ≡ node_view d
    → node_views (set (set (set ns from d1) to e1) from r2) ≡ node_views ns
put_back ns from to d d1 e e1 r2 a ed ee we wr =
    map-set node_view (set (set ns from d1) to e1) from r2 ∙ ap (λ vs. set vs from (node_view r2)) (same_write (set ns from d1) to e e1 ee we ∙ map-set node_view ns from d1)
    ∙ ap (set (set (node_views ns) from (node_view d1)) from) wr ∙ set-back (node_views ns) from (node_view d1) (node_view d) (node_at ns from d a ed)

pub restored_at : (ns : List NodeData) (from to : ℕ) (d1 e1 r : NodeData) → from < length ns → from ≢ to → r ≡ get_or (set (set ns from d1) to e1) from r → r ≡ d1
restored_at ns from to d1 e1 r a apart h = h ∙ get_or-set_other (set ns from d1) to from e1 r apart ∙ get_or-set_same ns from d1 r a

same_node : (b : Bool) (n : ℕ) → (if b then 1 else 0) + 0 ≡ 1 → joined (cond b [] (ChildNode n ∷ [])) ≡ []
same_node true n h = refl
same_node false n h = absurd (omega (arith, h))

-- the remainder after an only child is removed
pub only_removed : (id : ℕ) (c : Child) → count id (nodes (c ∷ [])) ≡ 1 → joined (without id (c ∷ [])) ≡ []
only_removed id (ChildNode n) h = same_node (eqb id n) n h
only_removed id (ChildText t) h = absurd (omega (arith, h))
