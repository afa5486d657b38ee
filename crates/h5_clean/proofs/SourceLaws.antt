-- Trees and their calls.
use Rattle.std.proofs.Common.{◌≡◌, ◌∙◌, ℕ, zero, suc, List, [], ◌∷◌, ◌++◌, Option, None, Some, append_assoc, ap, refl, subst, sym}
use Rattle.std.specs.List.{flat_map}
use Rattle.std.specs.Option.{option_map_or}
use Rattle.h5_names.specs.AttributeText.{AttributeText}
use Rattle.h5_interface.specs.Forest.{Child, ChildNode, ChildText, CommentNode, DoctypeNode, DocumentNode, ElementNode, Forest, FragmentNode, InstructionNode, Kind, Node, children_of}
use Rattle.h5_builder_spec.specs.formatting.FormattingNames.{html_name}
use Rattle.h5_serialize.specs.Call.{Call, EndOf, StartOf, TextOf}
use Rattle.h5_arena.specs.NodeCalls.{calls_around, calls_of, calls_of_children, calls_within, child_calls, shown_children}
use Rattle.h5_builder_laws.specs.Plain.{End, Nodes}
use Rattle.h5_builder_laws.specs.Plain as plain
use Rattle.h5_builder_laws.specs.Rebuilding.{Stands}
use Rattle.h5_round_trip.proofs.WrittenLaws.{around_kind, none_stands}
use Rattle.h5_clean.specs.Source.{CommentThen, DoctypeThen, Done, ElementThen, InstructionThen, Source, TextThen, calls_before, source_of}

-- ---- the tree of a walk

-- what a node is, by what is below it, before others
around : Kind → List AttributeText → (Source → Source) → Source → Source
around DocumentNode attrs below more = below more
around (DoctypeNode name public_id system_id) attrs below more = DoctypeThen name more
around (ElementNode name) attrs below more = ElementThen name attrs (below Done) more
around (CommentNode text) attrs below more = CommentThen text more
around (InstructionNode target text) attrs below more = InstructionThen target text more
around FragmentNode attrs below more = below more

all_children : (ℕ → Source → Source) → List Child → Source → Source
all_children node [] more = more
all_children node (ChildNode n ∷ cs) more = node n (all_children node cs more)
all_children node (ChildText t ∷ cs) more = TextThen t (all_children node cs more)

within : ℕ → Forest → ℕ → Source → Source
within zero f n more = more
within (suc levels) f n more = option_map_or (λ (d : Node). around d.kind d.attrs (all_children (within levels f) (shown_children f n)) more) (f.node n) more

-- its calls are these
abbrev IsTold : (Source → Source) → List Call → Type 0
IsTold tree calls = (more : Source) (others : List Call) → calls_before (tree more) others ≡ calls ++ calls_before more others

around_told : (kind : Kind) (attrs : List AttributeText) (below : Source → Source) (calls : List Call) → IsTold below calls → IsTold (around kind attrs below) (calls_around kind attrs calls)
unfolding around
around_told DocumentNode attrs below calls h more others = h more others
around_told (DoctypeNode name public_id system_id) attrs below calls h more others = refl
around_told (ElementNode name) attrs below calls h more others =
    ap (λ l. StartOf name attrs ∷ l) (h Done (EndOf name ∷ calls_before more others) ∙ sym (append_assoc calls (EndOf name ∷ []) (calls_before more others)))
around_told (CommentNode text) attrs below calls h more others = refl
around_told (InstructionNode target text) attrs below calls h more others = refl
around_told FragmentNode attrs below calls h more others = h more others

children_told : (node : ℕ → Source → Source) (calls : ℕ → List Call) → ((n : ℕ) → IsTold (node n) (calls n)) → (cs : List Child) → IsTold (all_children node cs) (flat_map (child_calls calls) cs)
unfolding all_children
children_told node calls h [] more others = refl
children_told node calls h (ChildNode n ∷ cs) more others =
    h n (all_children node cs more) others ∙ ap (λ l. calls n ++ l) (children_told node calls h cs more others)
    ∙ sym (append_assoc (calls n) (flat_map (child_calls calls) cs) (calls_before more others))
children_told node calls h (ChildText t ∷ cs) more others = ap (λ l. TextOf t ∷ l) (children_told node calls h cs more others)

within_told : (levels : ℕ) (f : Forest) (n : ℕ) → IsTold (within levels f n) (calls_within levels f n)
unfolding within calls_within
within_told zero f n more others = refl
within_told (suc levels) f n more others = at (children_told (within levels f) (calls_within levels f) (λ m. within_told levels f m) (shown_children f n)) (f.node n)
  where
    at : IsTold (all_children (within levels f) (shown_children f n)) (flat_map (child_calls (calls_within levels f)) (shown_children f n)) → (o : Option Node)
        → calls_before (option_map_or (λ (d : Node). around d.kind d.attrs (all_children (within levels f) (shown_children f n)) more) o more) others
        ≡ option_map_or (λ (d : Node). calls_around d.kind d.attrs (flat_map (child_calls (calls_within levels f)) (shown_children f n))) o [] ++ calls_before more others
    at h None = refl
    at h (Some d) = around_told d.kind d.attrs (all_children (within levels f) (shown_children f n)) (flat_map (child_calls (calls_within levels f)) (shown_children f n)) h more others

-- the tree of some children
pub tree_of : Forest → List Child → Source
tree_of f cs = all_children (within f.bound f) cs Done

append_none : {A : Type 0} (l : List A) → l ++ [] ≡ l
append_none [] = refl
append_none (x ∷ l) = ap (λ m. x ∷ m) (append_none l)

pub tree_told : (f : Forest) (cs : List Child) → calls_before (tree_of f cs) [] ≡ calls_of_children f cs
unfolding tree_of
tree_told f cs = children_told (within f.bound f) (calls_of f) (λ n. within_told f.bound f n) cs Done [] ∙ append_none (calls_of_children f cs)

-- ---- calls determine the tree

abbrev Ends : List Call → Type 0
Ends [] = Unit {0}
Ends (EndOf name ∷ calls) = Unit {0}
Ends _ = ⊥

first_of : {x y : Call} {xs ys : List Call} → ◌≡◌ {A = List Call} (x ∷ xs) (y ∷ ys) → x ≡ y
first_of e = cc

rest_of : {x y : Call} {xs ys : List Call} → ◌≡◌ {A = List Call} (x ∷ xs) (y ∷ ys) → xs ≡ ys
rest_of e = cc

told_once : (s t : Source) (xs ys : List Call) → Ends xs → Ends ys → calls_before s xs ≡ calls_before t ys → (s ≡ t) × (xs ≡ ys)
told_once Done Done xs ys k l e = (refl, e)
told_once Done (TextThen u b) xs ys k l e = absurd (subst Ends e k)
told_once Done (ElementThen m h j b) xs ys k l e = absurd (subst Ends e k)
told_once Done (CommentThen u b) xs ys k l e = absurd (subst Ends e k)
told_once Done (DoctypeThen u b) xs ys k l e = absurd (subst Ends e k)
told_once Done (InstructionThen q u b) xs ys k l e = absurd (subst Ends e k)
told_once (TextThen t a) Done xs ys k l e = absurd (subst Ends (sym e) l)
told_once (TextThen t a) (TextThen u b) xs ys k l e =
    let behind = told_once a b xs ys k l (rest_of e) in
    let texts : t ≡ u = cc in
    ((λ z. TextThen (texts z) (behind.0 z)), behind.1)
told_once (TextThen t a) (ElementThen m h j b) xs ys k l e = absurd (cc)
told_once (TextThen t a) (CommentThen u b) xs ys k l e = absurd (cc)
told_once (TextThen t a) (DoctypeThen u b) xs ys k l e = absurd (cc)
told_once (TextThen t a) (InstructionThen q u b) xs ys k l e = absurd (cc)
told_once (ElementThen n g i a) Done xs ys k l e = absurd (subst Ends (sym e) l)
told_once (ElementThen n g i a) (TextThen u b) xs ys k l e = absurd (cc)
told_once (ElementThen n g i a) (ElementThen m h j b) xs ys k l e =
    let names : n ≡ m = cc in
    let attrs : g ≡ h = cc in
    let inside = told_once i j (EndOf n ∷ calls_before a xs) (EndOf m ∷ calls_before b ys) tt tt (rest_of e) in
    let behind = told_once a b xs ys k l (rest_of inside.1) in
    ((λ z. ElementThen (names z) (attrs z) (inside.0 z) (behind.0 z)), behind.1)
told_once (ElementThen n g i a) (CommentThen u b) xs ys k l e = absurd (cc)
told_once (ElementThen n g i a) (DoctypeThen u b) xs ys k l e = absurd (cc)
told_once (ElementThen n g i a) (InstructionThen q u b) xs ys k l e = absurd (cc)
told_once (CommentThen t a) Done xs ys k l e = absurd (subst Ends (sym e) l)
told_once (CommentThen t a) (TextThen u b) xs ys k l e = absurd (cc)
told_once (CommentThen t a) (ElementThen m h j b) xs ys k l e = absurd (cc)
told_once (CommentThen t a) (CommentThen u b) xs ys k l e =
    let behind = told_once a b xs ys k l (rest_of e) in
    let texts : t ≡ u = cc in
    ((λ z. CommentThen (texts z) (behind.0 z)), behind.1)
told_once (CommentThen t a) (DoctypeThen u b) xs ys k l e = absurd (cc)
told_once (CommentThen t a) (InstructionThen q u b) xs ys k l e = absurd (cc)
told_once (DoctypeThen t a) Done xs ys k l e = absurd (subst Ends (sym e) l)
told_once (DoctypeThen t a) (TextThen u b) xs ys k l e = absurd (cc)
told_once (DoctypeThen t a) (ElementThen m h j b) xs ys k l e = absurd (cc)
told_once (DoctypeThen t a) (CommentThen u b) xs ys k l e = absurd (cc)
told_once (DoctypeThen t a) (DoctypeThen u b) xs ys k l e =
    let behind = told_once a b xs ys k l (rest_of e) in
    let texts : t ≡ u = cc in
    ((λ z. DoctypeThen (texts z) (behind.0 z)), behind.1)
told_once (DoctypeThen t a) (InstructionThen q u b) xs ys k l e = absurd (cc)
told_once (InstructionThen p t a) Done xs ys k l e = absurd (subst Ends (sym e) l)
told_once (InstructionThen p t a) (TextThen u b) xs ys k l e = absurd (cc)
told_once (InstructionThen p t a) (ElementThen m h j b) xs ys k l e = absurd (cc)
told_once (InstructionThen p t a) (CommentThen u b) xs ys k l e = absurd (cc)
told_once (InstructionThen p t a) (DoctypeThen u b) xs ys k l e = absurd (cc)
told_once (InstructionThen p t a) (InstructionThen q u b) xs ys k l e =
    let behind = told_once a b xs ys k l (rest_of e) in
    let targets : p ≡ q = cc in
    let texts : t ≡ u = cc in
    ((λ z. InstructionThen (targets z) (texts z) (behind.0 z)), behind.1)

pub one_tree : (s t : Source) → calls_before s [] ≡ calls_before t [] → s ≡ t
one_tree s t e = (told_once s t [] [] tt tt e).0

-- ---- the calls of a list of nodes

module _ (f : Forest) (calls_around_is : (n : ℕ) (d : Node) → f.node n ≡ Some d → calls_of f n ≡ calls_around d.kind d.attrs (calls_of_children f (shown_children f n))) where
  pub nodes_told : (cs : List Child) (ns : Nodes) (others : List Call) → Stands f cs ns → calls_of_children f cs ++ others ≡ calls_before (source_of ns) others
  nodes_told [] End others h = refl
  nodes_told (c ∷ cs) End others h = absurd (none_stands f c cs h)
  nodes_told (ChildText t ∷ cs) (plain.TextThen text rest) others h = (λ i. TextOf (h.0 i) ∷ nodes_told cs rest others h.1 i)
  nodes_told (ChildNode n ∷ cs) (plain.ElementThen name attrs inner rest) others h =
      let below = calls_of_children f (children_of f n) in
      append_assoc (calls_of f n) (calls_of_children f cs) others
      ∙ ap (λ l. l ++ (calls_of_children f cs ++ others)) (around_kind f calls_around_is n (ElementNode (html_name name)) attrs (children_of f n) h.0)
      ∙ ap (λ l. StartOf (html_name name) attrs ∷ l) (append_assoc below (EndOf (html_name name) ∷ []) (calls_of_children f cs ++ others)
      ∙ nodes_told (children_of f n) inner (EndOf (html_name name) ∷ (calls_of_children f cs ++ others)) h.1.0
      ∙ ap (λ l. calls_before (source_of inner) (EndOf (html_name name) ∷ l)) (nodes_told cs rest others h.1.1))
  nodes_told _ _ others h = absurd h
