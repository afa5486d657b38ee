-- A text replaces children.
use Rattle.std.proofs.Common.{◌≡◌, ◌∙◌, ℕ, ◌+◌, ◌<◌, ◌≤◌, Bool, true, false, cond, List, [], ◌∷◌, ◌++◌, ap, arith, get_or, length, refl, sym, take}
use Rattle.std.specs.Prelude.{◌||◌, if◌then◌else◌, nat_lt, Option, None, Some, slice_get}
use Rattle.std.specs.Option.{option_map_or, option_to_list}
use Rattle.std.proofs.lemmas.Bool.{eq-eqb}
use Rattle.std.proofs.lemmas.Bool.Decides.{nat_tests}
use Rattle.h5_interface.specs.Changes.{edit_children, has_child, joined, set_parents}
use Rattle.h5_interface.specs.Forest.{Child, Forest, IsForest, IsNode, Node, below, children_of, count, is_at, nodes, parent_of}
use Rattle.h5_interface.proofs.ChildLaws.{NoneEmpty, count-append}
use Rattle.h5_interface.proofs.ForestLaws.{child_is_node}
use Rattle.h5_interface.proofs.HangingLaws.{moved_child}
use Rattle.h5_interface.proofs.RehangLaws.{Rehangs, edited_rehangs, loosened_keeps}
use Rattle.std.proofs.Math.ListN.{set}
use Rattle.h5_arena.specs.ArenaModel.{IsArena, child_views, children_in, forest_in, node_view}
use Rattle.h5_arena.specs.ChildTests.{is_this}
use Rattle.h5_arena.specs.Edits.{text_alone, with_text}
use Rattle.h5_arena.specs.declared.attribute_names.AttributeNames.{AttributeNames}
use Rattle.h5_arena.specs.declared.nodes.Child as own
use Rattle.h5_arena.specs.declared.nodes.NodeData.{NodeData}
use Rattle.h5_arena.proofs.MoveLaws.{set_parents_children, set_parents_none, set_parents_twice, taken_more}
use Rattle.h5_arena.proofs.NodeWrites.{children_at, children_write}
use Rattle.h5_arena.proofs.NoteLaws.{notes_edited, notes_hung}

-- a text alone is joined already, has no node, and isn't empty
pub joined_alone : (t : List ℕ) → joined (text_alone t) ≡ text_alone t
joined_alone [] = refl
joined_alone (c ∷ t) = refl

nodes_alone : (t : List ℕ) → nodes (text_alone t) ≡ []
nodes_alone [] = refl
nodes_alone (c ∷ t) = refl

none_empty_alone : (t : List ℕ) → NoneEmpty (text_alone t)
none_empty_alone [] = tt
none_empty_alone (c ∷ t) = (λ e. cc, tt)

at_one : (b : Bool) → (if b then 1 else 0) ≤ 1
at_one true = omega arith
at_one false = omega arith

-- a text replaces children, which lose their parent
with_text_rehangs : (f : Forest) (n : ℕ) (t : List ℕ) → IsForest f → IsNode f n → Rehangs f (with_text n t f) (has_child (children_of f n)) None
with_text_rehangs f n t k there = case_n (f.node n) refl
  where
    chosen : ℕ → Bool
    chosen = has_child (children_of f n)

    below_count : (d : Node) → f.node n ≡ Some d → (c : ℕ) (b : Bool) → chosen c ≡ b → count c (nodes (text_alone t) ++ option_to_list d.contents) ≡ cond (chosen c) 0 (count c (below d))
    below_count d e c true w =
        let all = (rw e at (k.one_parent n c)) in
        let most = at_one (is_at n (parent_of f c)) in
        let w' : nat_lt 0 (count c (nodes d.children)) ≡ true = (rw e at w) in
        let some : 0 < count c (nodes d.children) = grind (arith, nat_tests) in
        rw (w, nodes_alone t) (omega (arith, most, some, simp count-append at all))
    below_count d e c false w =
        let w' : nat_lt 0 (count c (nodes d.children)) ≡ false = (rw e at w) in
        let none : count c (nodes d.children) ≡ 0 = grind (arith, nat_tests) in
        let rest : count c (option_to_list d.contents) ≡ count c (below d) = rw count-append (omega (arith, none)) in
        rw (w, nodes_alone t) rest

    case_n : (o : Option Node) → f.node n ≡ o → Rehangs f (with_text n t f) chosen None
    case_n None e = absurd (there e)
    case_n (Some d) e =
        edited_rehangs n (λ _. text_alone t) chosen None f d k e
        (λ c w. child_is_node f c n (moved_child f n c k w))
        (λ cs h. none_empty_alone t)
        (λ c. below_count d e c (chosen c) refl)
        (λ m c w v. rw (moved_child f n c k v) w)

pub with_text_keeps : {names : AttributeNames} (f : Forest) (n : ℕ) (t : List ℕ) → IsNode f n → IsArena names f → IsArena names (with_text n t f)
with_text_keeps f n t there k = record {
  is_forest = loosened_keeps f (with_text n t f) (has_child (children_of f n)) k.is_forest (with_text_rehangs f n t k.is_forest there);
  notes = notes_hung (has_child (children_of f n)) None (edit_children n (λ _. text_alone t) f) (notes_edited n (λ _. text_alone t) f k.notes);
}

-- none has lost its parent yet, one more has, and all have
pub none_let_go : (f : Forest) (cs : List Child) → f ≡ set_parents (has_child (take 0 cs)) None f
none_let_go f cs = set_parents_none (has_child (take 0 cs)) None f (λ n. refl)

pub one_let_go : (f g h : Forest) (cs : List Child) (i : ℕ) (x : Child) → i < length cs → slice_get cs i ≡ Some x → g ≡ set_parents (has_child (take i cs)) None f → h ≡ set_parents (λ n. is_this n x) None g → h ≡ set_parents (has_child (take (i + 1) cs)) None f
one_let_go f g h cs i x within is v w =
    w ∙ ap (set_parents (λ n. is_this n x) None) v
    ∙ set_parents_twice (λ n. is_this n x) (has_child (take i cs)) (has_child (take (i + 1) cs)) None f
    (λ n. taken_more cs i (i + 1) n (omega arith) within ∙ ap (λ o. option_map_or (is_this n) o false || has_child (take i cs) n) is)

-- the text is where the children were, and they have no parent
pub text_stands : (ns : List NodeData) (n : ℕ) (d d1 : NodeData) (g : Forest) (gone : List own.Child) (t : List ℕ) → n < length ns → d ≡ get_or ns n d → node_view d1 ≡ record (node_view d) { children = text_alone t } → gone ≡ children_in d.children
    → g ≡ set_parents (has_child (child_views gone)) None (forest_in (set ns n d1)) → g ≡ with_text n t (forest_in ns)
text_stands ns n d d1 g gone t there e v stood w =
    w ∙ ap (set_parents (has_child (child_views gone)) None) (children_write ns n d d1 (λ _. text_alone t) there e (v ∙ ap (λ cs. record (node_view d) { children = cs }) (sym (joined_alone t))))
    ∙ ap (λ cs. set_parents (has_child cs) None (edit_children n (λ _. text_alone t) (forest_in ns))) (ap child_views stood ∙ sym (children_at ns n d there e))

-- the text is the only child then
pub text_below : (f : Forest) (n : ℕ) (t : List ℕ) → IsNode f n → children_of (with_text n t f) n ≡ text_alone t
text_below f n t there = set_parents_children (has_child (children_of f n)) None (edit_children n (λ _. text_alone t) f) n ∙ at (f.node n) refl
  where
    at : (o : Option Node) → f.node n ≡ o → children_of (edit_children n (λ _. text_alone t) f) n ≡ text_alone t
    at None w = absurd (there w)
    at (Some d) w = rw (w, eq-eqb n n refl) (joined_alone t)
