-- Writes to the vector of nodes are changes of the forest.
use Rattle.std.proofs.Common.{◌≡◌, ◌≢◌, ◌∙◌, ℕ, ◌<◌, Bool, true, false, cond, List, [], ◌∷◌, ap, arith, get_or, length, refl, sym}
use Rattle.std.specs.Prelude.{◌==◌, Option, None, Some, slice_get}
use Rattle.std.specs.Option.{option_map}
use Rattle.std.proofs.Math.ListN.{set}
use Rattle.std.proofs.Math.Dec.{eqb-suc-zero, eqb-zero-suc, eqb-suc-suc}
use Rattle.std.proofs.Math.Seq.{map-set_same}
use Rattle.std.proofs.lemmas.Bool.{eq-eqb, eqb-true}
use Rattle.std.proofs.lemmas.List.{length-map, length-set, map-set}
use Rattle.std.proofs.lemmas.Option.{slice_get-map, slice_get_read}
use Prim.Native.Nat.{zero, suc}
use Rattle.h5_interface.specs.Changes.{add_missing_attributes, change_nodes, edit_children, joined, mark, set_parents, with_missing}
use Rattle.h5_interface.specs.Forest.{AreParted, Child, ElementNode, Forest, FragmentNode, IsElement, IsForest, IsNode, Node, children_of, count, kind_of, nodes, parent_of}
use Rattle.h5_interface.proofs.ForestLaws.{child_is_node, child_once, node_of_kind, same_forest}
use Rattle.h5_interface.specs.Seen.{Seen}
use Rattle.h5_interface.specs.declared.marks.QuirksMode.{QuirksMode}
use Rattle.h5_names.specs.AttributeText.{AttributeText}
use Rattle.h5_arena.specs.declared.nodes.NodeData.{NodeData}
use Rattle.h5_arena.specs.ArenaModel.{arena_choices, child_views, children_in, forest_in, marks_at, node_view, node_views}
use Rattle.h5_arena.specs.Edits.{edit_attrs}
use Rattle.h5_interface.proofs.RehangLaws.{id_map}

get-set : {A : Type 0} (xs : List A) (i : ℕ) (x : A) (m : ℕ) → i < length xs → slice_get (set xs i x) m ≡ cond (m == i) (Some x) (slice_get xs m)
get-set [] i x m h = absurd (omega arith)
get-set (y ∷ ys) zero x zero h = refl
get-set (y ∷ ys) zero x (suc m) h = rw (eqb-suc-zero m) refl
get-set (y ∷ ys) (suc i) x zero h = rw (eqb-zero-suc i) refl
get-set (y ∷ ys) (suc i) x (suc m) h = get-set ys i x m (omega arith) ∙ ap (λ b. cond b (Some x) (slice_get ys m)) (sym (eqb-suc-suc m i))

-- one node is replaced
abbrev replaced : ℕ → Node → Forest → Forest
replaced i v f = record f { node = λ m. cond (m == i) (Some v) (f.node m) }

write_is : (ns : List NodeData) (i : ℕ) (d : NodeData) → i < length ns → forest_in (set ns i d) ≡ replaced i (node_view d) (forest_in ns)
write_is ns i d h = rw (map-set node_view ns i d) (same_forest _ (replaced i (node_view d) (forest_in ns)) refl (length-set (node_views ns) i (node_view d)) (λ m. get-set (node_views ns) i (node_view d) m (simp length-map h)))

replaced_edit : (f : Forest) (p : ℕ) (v : Node) (h : List Child → List Child) → f.node p ≡ Some v → replaced p (record v { children = joined (h v.children) }) f ≡ edit_children p h f
replaced_edit f p v h e = same_forest _ (edit_children p h f) refl refl (λ m. at m (m == p) refl)
  where
    at : (m : ℕ) (b : Bool) → (m == p) ≡ b → cond (m == p) (Some (record v { children = joined (h v.children) })) (f.node m) ≡ (edit_children p h f).node m
    at m true w = rw (w, eqb-true m p w, e) refl
    at m false w = rw w (sym (id_map (f.node m)))

replaced_parent : (f : Forest) (c : ℕ) (v : Node) (q : Option ℕ) → f.node c ≡ Some v → replaced c (record v { parent = q }) f ≡ set_parents (λ n. n == c) q f
replaced_parent f c v q e = same_forest _ (set_parents (λ n. n == c) q f) refl refl (λ m. at m (m == c) refl)
  where
    at : (m : ℕ) (b : Bool) → (m == c) ≡ b → cond (m == c) (Some (record v { parent = q })) (f.node m) ≡ (set_parents (λ n. n == c) q f).node m
    at m true w = rw (w, eqb-true m c w, e) refl
    at m false w = rw w (sym (id_map (f.node m)))

pub node_at : (ns : List NodeData) (i : ℕ) (d : NodeData) → i < length ns → d ≡ get_or ns i d → slice_get (node_views ns) i ≡ Some (node_view d)
node_at ns i d h e = slice_get-map node_view ns i ∙ rw (slice_get_read ns (length ns) i d refl h e) refl

-- the children of one node are written
pub children_write : (ns : List NodeData) (p : ℕ) (d d1 : NodeData) (h : List Child → List Child) → p < length ns → d ≡ get_or ns p d
    → node_view d1 ≡ record (node_view d) { children = joined (h (child_views (children_in d.children))) } → forest_in (set ns p d1) ≡ edit_children p h (forest_in ns)
children_write ns p d d1 h there e w =
    write_is ns p d1 there ∙ ap (λ v. replaced p v (forest_in ns)) w ∙ replaced_edit (forest_in ns) p (node_view d) h (node_at ns p d there e)

-- the parent of one node is written
pub parent_write : (ns : List NodeData) (c : ℕ) (d d1 : NodeData) (q : Option ℕ) → c < length ns → d ≡ get_or ns c d
    → node_view d1 ≡ record (node_view d) { parent = q } → forest_in (set ns c d1) ≡ set_parents (λ n. n == c) q (forest_in ns)
parent_write ns c d d1 q there e w =
    write_is ns c d1 there ∙ ap (λ v. replaced c v (forest_in ns)) w ∙ replaced_parent (forest_in ns) c (node_view d) q (node_at ns c d there e)

-- a node is written as a change of only this node
node_write : (ns : List NodeData) (i : ℕ) (d d1 : NodeData) (change : ℕ → Node → Node) → i < length ns → d ≡ get_or ns i d
    → node_view d1 ≡ change i (node_view d) → ((m : ℕ) (v : Node) → slice_get (node_views ns) m ≡ Some v → (m == i) ≡ false → change m v ≡ v) → forest_in (set ns i d1) ≡ change_nodes change (forest_in ns)
node_write ns i d d1 change there e w other =
    write_is ns i d1 there ∙ same_forest _ (change_nodes change (forest_in ns)) refl refl (λ m. at m (m == i) refl (slice_get (node_views ns) m) refl)
  where
    at : (m : ℕ) (b : Bool) → (m == i) ≡ b → (o : Option Node) → slice_get (node_views ns) m ≡ o → cond (m == i) (Some (node_view d1)) (slice_get (node_views ns) m) ≡ option_map (change m) (slice_get (node_views ns) m)
    at m true z o g = rw (z, eqb-true m i z, node_at ns i d there e, w) refl
    at m false z None g = rw (z, g) refl
    at m false z (Some v) g = rw (z, g, other m v g z) refl

-- attributes, and marks, of one node are written
pub attrs_edited_write : (ns : List NodeData) (i : ℕ) (d d1 : NodeData) (edit : List AttributeText → List AttributeText) → i < length ns → d ≡ get_or ns i d → node_view d1 ≡ record (node_view d) { attrs = edit (node_view d).attrs }
    → forest_in (set ns i d1) ≡ edit_attrs i edit (forest_in ns)
attrs_edited_write ns i d d1 edit there e w =
    node_write ns i d d1 (λ m v. record v { attrs = cond (m == i) (edit v.attrs) v.attrs }) there e (w ∙ ap (λ b. record (node_view d) { attrs = cond b (edit (node_view d).attrs) (node_view d).attrs }) (sym (eq-eqb i i refl)))
    (λ m v g z. ap (λ b. record v { attrs = cond b (edit v.attrs) v.attrs }) z)

pub attrs_write : (ns : List NodeData) (i : ℕ) (d d1 : NodeData) (more : List AttributeText) → i < length ns → d ≡ get_or ns i d → node_view d1 ≡ record (node_view d) { attrs = with_missing more (node_view d).attrs }
    → forest_in (set ns i d1) ≡ add_missing_attributes i more (forest_in ns)
attrs_write ns i d d1 more there e w = attrs_edited_write ns i d d1 (with_missing more) there e w

pub started_write : (ns : List NodeData) (i : ℕ) (d d1 : NodeData) → i < length ns → d ≡ get_or ns i d → node_view d1 ≡ record (node_view d) { marks = record (node_view d).marks { started = true } }
    → forest_in (set ns i d1) ≡ mark (arena_choices.marks_after_started (forest_in ns) i) (forest_in ns)
started_write ns i d d1 there e w =
    node_write ns i d d1 (λ m v. record v { marks = arena_choices.marks_after_started (forest_in ns) i m }) there e
    (w ∙ sym (ap (λ x. record (node_view d) { marks = record x { started = cond (i == i) true x.started } }) (at_marks i (node_view d) (node_at ns i d there e)) ∙ ap (λ b. record (node_view d) { marks = record (node_view d).marks { started = cond b true (node_view d).marks.started } }) (eq-eqb i i refl)))
    (λ m v g z. ap (λ x. record v { marks = record x { started = cond (m == i) true x.started } }) (at_marks m v g) ∙ ap (λ b. record v { marks = record v.marks { started = cond b true v.marks.started } }) z)
  where
    at_marks : (m : ℕ) (v : Node) → slice_get (node_views ns) m ≡ Some v → marks_at (forest_in ns) m ≡ v.marks
    at_marks m v g = rw g refl

pub form_write : (ns : List NodeData) (i form place : ℕ) (outer : Option ℕ) (d d1 : NodeData) → i < length ns → d ≡ get_or ns i d → node_view d1 ≡ record (node_view d) { marks = record (node_view d).marks { form = Some form } }
    → forest_in (set ns i d1) ≡ mark (arena_choices.marks_after_associate (forest_in ns) i form place outer) (forest_in ns)
form_write ns i form place outer d d1 there e w =
    node_write ns i d d1 (λ m v. record v { marks = arena_choices.marks_after_associate (forest_in ns) i form place outer m }) there e
    (w ∙ sym (ap (λ x. record (node_view d) { marks = record x { form = cond (i == i) (Some form) x.form } }) (at_marks i (node_view d) (node_at ns i d there e)) ∙ ap (λ b. record (node_view d) { marks = record (node_view d).marks { form = cond b (Some form) (node_view d).marks.form } }) (eq-eqb i i refl)))
    (λ m v g z. ap (λ x. record v { marks = record x { form = cond (m == i) (Some form) x.form } }) (at_marks m v g) ∙ ap (λ b. record v { marks = record v.marks { form = cond b (Some form) v.marks.form } }) z)
  where
    at_marks : (m : ℕ) (v : Node) → slice_get (node_views ns) m ≡ Some v → marks_at (forest_in ns) m ≡ v.marks
    at_marks m v g = rw g refl

-- a node is written back as it was
pub same_write : (ns : List NodeData) (p : ℕ) (d d1 : NodeData) → d ≡ get_or ns p d → node_view d1 ≡ node_view d → node_views (set ns p d1) ≡ node_views ns
same_write ns p d d1 e w = map-set_same node_view ns p d1 d (w ∙ ap node_view e)

-- a node's children are parted
pub parted_at : (ns : List NodeData) (p : ℕ) (d : NodeData) → p < length ns → d ≡ get_or ns p d → IsForest (forest_in ns) → AreParted (child_views (children_in d.children))
parted_at ns p d h e k = let w = k.parted p in (rw (node_at ns p d h e) at w)

pub node_exists : (ns : List NodeData) (i : ℕ) → slice_get (node_views ns) i ≢ None → i < length ns
node_exists [] i h = absurd (h refl)
node_exists (n ∷ ns) zero h = omega arith
node_exists (n ∷ ns) (suc i) h = let w = node_exists ns i h in omega arith

-- and each entry of the vector is a node
pub within_is_node : (ns : List NodeData) (i : ℕ) → i < length ns → IsNode (forest_in ns) i
within_is_node [] i h = absurd (omega arith)
within_is_node (d ∷ ns) zero h = λ e. cc
within_is_node (d ∷ ns) (suc i) h = within_is_node ns i (omega arith)

pub held_is_node : (ns : List NodeData) (i : ℕ) → i < length (node_views ns) → IsNode (forest_in ns) i
held_is_node ns i h = within_is_node ns i (simp length-map at h)

-- where a parent, and a child, are
pub parent_within : (ns : List NodeData) (p c : ℕ) → IsForest (forest_in ns) → parent_of (forest_in ns) c ≡ Some p → p < length ns
parent_within ns p c k e = node_exists ns p (k.inside p c e)

pub child_within : (ns : List NodeData) (p c : ℕ) → parent_of (forest_in ns) c ≡ Some p → c < length ns
child_within ns p c e = node_exists ns c (child_is_node (forest_in ns) c p e)

pub children_at : (ns : List NodeData) (p : ℕ) (d : NodeData) → p < length ns → d ≡ get_or ns p d → children_of (forest_in ns) p ≡ child_views (children_in d.children)
children_at ns p d h e = rw (node_at ns p d h e) refl

-- a node that isn't a fragment occurs once among its parent's children
pub once_at : (ns : List NodeData) (p c : ℕ) (d : NodeData) → IsForest (forest_in ns) → parent_of (forest_in ns) c ≡ Some p → kind_of (forest_in ns) c ≢ Some FragmentNode → d ≡ get_or ns p d → count c (nodes (child_views (children_in d.children))) ≡ 1
once_at ns p c d k up no_fragment e =
    let one = child_once (forest_in ns) p c k up no_fragment in
    (rw (children_at ns p d (parent_within ns p c k up) e) at one)

-- an element lies in the vector
pub element_within : (ns : List NodeData) (n : ℕ) → IsElement (forest_in ns) n → n < length ns
element_within ns n e = node_exists ns n (node_of_kind (forest_in ns) n (ElementNode e.0) e.1)

-- what is shown if only the forest changed
pub seen_after : (f g : Forest) (q : QuirksMode) (e : ℕ) → f ≡ g → ◌≡◌ {A = Seen} (record { forest = f; quirks = q; errors = e }) (record { forest = g; quirks = q; errors = e })
seen_after f g q e w = ap (λ h. record { forest = h; quirks = q; errors = e }) w
