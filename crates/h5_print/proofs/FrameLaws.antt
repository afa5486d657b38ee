-- Open nodes, from the innermost on.
use Rattle.std.proofs.Common.{◌≡◌, ℕ, zero, suc, ◌+◌, ◌≤◌, ◌<◌, List, [], ◌∷◌, ◌++◌, Option, None, Some, length, drop, refl, sym, ap, ◌∙◌, subst, arith, append_assoc, append-nil, length-append, codes, rules, add-one, ⊎_elim, slice_get, Result, Ok, Err}
use Rattle.std.proofs.Math.Seq.{get_or-append_seam}
use Rattle.std.proofs.lemmas.List.{get_or_append_left}
use Rattle.std.specs.Option.{option_map}
use Rattle.std.specs.Result.{OnOk}
use Rattle.std.specs.List.{All}
use Rattle.std.specs.declared.alloc.AllocError.{AllocError}
use Rattle.std.proofs.lemmas.List.Elements.{All-append}
use Rattle.h5_names.specs.AttributeText.{AttributeText}
use Rattle.h5_interface.specs.Forest.{Node, Kind, Child, ChildNode, ChildText}
use Rattle.h5_arena.specs.ArenaModel.{ArenaView, IsHeld, at_node}
use Rattle.h5_arena.specs.declared.nodes.NodeId.{NodeId}
use Rattle.h5_print.specs.Frames.{AreHeld, Left, NoneOpen, OneOpen, GoesOn, Opens, opened}
use Rattle.h5_print.specs.Nodes.{attribute_lines, indent, kind_line, line, quoted}
use Rattle.h5_print.specs.Printed.{IsTreeText, Printed, NoChild, TextChild, NodeChild, TemplateChild, first_lines}
use Rattle.h5_print.specs.declared.tree.Frame.{Frame}
use Rattle.h5_arena.proofs.ChildTexts.{drop-past}

-- lists with the same end
ends_front : (xs ys : List Frame) (x y : Frame) → xs ++ x ∷ [] ≡ ys ++ y ∷ [] → xs ≡ ys
ends_front [] [] x y e = refl
ends_front [] (z ∷ ys) x y e = absurd (omega (arith, ap length e, length-append ys (y ∷ [])))
ends_front (z ∷ xs) [] x y e = absurd (omega (arith, ap length e, length-append xs (x ∷ [])))
ends_front (z ∷ xs) (w ∷ ys) x y e =
    let head : z ≡ w = cc in
    let tail : xs ++ x ∷ [] ≡ ys ++ y ∷ [] = cc in
    (λ i. head i ∷ ends_front xs ys x y tail i)

ends_last : (xs ys : List Frame) (x y : Frame) → xs ++ x ∷ [] ≡ ys ++ y ∷ [] → x ≡ y
ends_last [] [] x y e = cc
ends_last [] (z ∷ ys) x y e = absurd (omega (arith, ap length e, length-append ys (y ∷ [])))
ends_last (z ∷ xs) [] x y e = absurd (omega (arith, ap length e, length-append xs (x ∷ [])))
ends_last (z ∷ xs) (w ∷ ys) x y e = let tail : xs ++ x ∷ [] ≡ ys ++ y ∷ [] = cc in ends_last xs ys x y tail

-- the text that is left for the innermost, and for those around it
record Innermost (a : ArenaView) (xs : List Frame) (f : Frame) (t : List ℕ) : Type 0 where
  d : Node
  rest : List ℕ
  below : List ℕ
  is : slice_get a.nodes f.node.index ≡ Some d
  printed : Printed a (length xs) (drop f.printed d.children) rest
  around : Left a xs below
  text : t ≡ rest ++ below

innermost_of : {zs : List Frame} {t : List ℕ} (a : ArenaView) (xs : List Frame) (f : Frame) → zs ≡ xs ++ f ∷ [] → Left a zs t → Innermost a xs f t
innermost_of a xs f e NoneOpen = absurd (omega (arith, ap length e, length-append xs (f ∷ [])))
innermost_of a xs f e (OneOpen {frames} {rest} {below} g d is printed around) =
    let same = ends_front frames xs g f e in
    let last = ends_last frames xs g f e in
    record {
      d = d;
      rest = rest;
      below = below;
      is = subst (λ (h : Frame). slice_get a.nodes h.node.index ≡ Some d) last is;
      printed = subst (λ (h : Frame). Printed a (length xs) (drop h.printed d.children) rest) last (subst (λ (hs : List Frame). Printed a (length hs) (drop g.printed d.children) rest) same printed);
      around = subst (λ (hs : List Frame). Left a hs below) same around;
      text = refl;
    }

innermost : (a : ArenaView) (xs : List Frame) (f : Frame) (t : List ℕ) → Left a (xs ++ f ∷ []) t → Innermost a xs f t
innermost a xs f t l = innermost_of a xs f refl l

none_open : {zs : List Frame} {t : List ℕ} (a : ArenaView) → zs ≡ [] → Left a zs t → t ≡ []
none_open a e NoneOpen = refl
none_open a e (OneOpen {frames} g d is printed around) = absurd (omega (arith, ap length e, length-append frames (g ∷ [])))

-- a node without further children is closed
pub closes : (a : ArenaView) (xs : List Frame) (f : Frame) (d : Node) (was : List ℕ) → slice_get a.nodes f.node.index ≡ Some d → length d.children ≤ f.printed → GoesOn a (xs ++ f ∷ []) was xs was
closes a xs f d was is le t l =
    (t, OneOpen f d is (subst (λ (cs : List Child). Printed a (length xs) cs []) (sym (drop-past d.children f.printed le)) NoChild) l, refl)

same_node : {o : Option Node} {d e : Node} → o ≡ Some d → o ≡ Some e → d ≡ e
same_node p q = cc

regroup : (was x rest below : List ℕ) → was ++ ((x ++ rest) ++ below) ≡ (was ++ x) ++ (rest ++ below)
regroup was x rest below = simp append_assoc

-- the next child of a node
abbrev pub next : Frame → Frame
next f = record { node = f.node; printed = f.printed + 1 }

pub text_goes : (a : ArenaView) (xs : List Frame) (f : Frame) (d : Node) (was text : List ℕ) → slice_get a.nodes f.node.index ≡ Some d → drop f.printed d.children ≡ ChildText text ∷ drop (f.printed + 1) d.children → GoesOn a (xs ++ f ∷ []) was (xs ++ next f ∷ []) (was ++ line (length xs) (quoted text))
text_goes a xs f d was text is child t l =
    let k = innermost a xs (next f) t l in
    let same : k.d ≡ d = same_node k.is is in
    let rest = subst (λ (e : Node). Printed a (length xs) (drop (f.printed + 1) e.children) k.rest) same k.printed in (
      (line (length xs) (quoted text) ++ k.rest) ++ k.below,
      OneOpen f d is (subst (λ (cs : List Child). Printed a (length xs) cs (line (length xs) (quoted text) ++ k.rest)) (sym child) (TextChild text rest)) k.around,
      regroup was (line (length xs) (quoted text)) k.rest k.below ∙ ap (λ u. (was ++ line (length xs) (quoted text)) ++ u) (sym k.text),
    )

one_more : (xs : List Frame) (f : Frame) → length (xs ++ f ∷ []) ≡ suc (length xs)
one_more xs f = omega (arith, length-append xs (f ∷ []))

regroup_node : (was x inner rest below : List ℕ) → was ++ ((x ++ (inner ++ rest)) ++ below) ≡ (was ++ x) ++ (inner ++ (rest ++ below))
regroup_node was x inner rest below = simp append_assoc

pub node_goes : (a : ArenaView) (xs : List Frame) (f : Frame) (id : NodeId) (d e : Node) (was : List ℕ) → slice_get a.nodes f.node.index ≡ Some d → drop f.printed d.children ≡ ChildNode id.index ∷ drop (f.printed + 1) d.children → slice_get a.nodes id.index ≡ Some e → e.contents ≡ None → GoesOn a (xs ++ f ∷ []) was ((xs ++ next f ∷ []) ++ opened id ∷ []) (was ++ first_lines (length xs) e)
node_goes a xs f id d e was is child there none t l =
    let j = innermost a (xs ++ next f ∷ []) (opened id) t l in
    let k = innermost a xs (next f) j.below j.around in
    let same : k.d ≡ d = same_node k.is is in
    let inside : j.d ≡ e = same_node j.is there in
    let rest = subst (λ (g : Node). Printed a (length xs) (drop (f.printed + 1) g.children) k.rest) same k.printed in
    let inner = subst (λ (g : Node). Printed a (suc (length xs)) g.children j.rest) inside (subst (λ n. Printed a n j.d.children j.rest) (one_more xs (next f)) j.printed) in
    let lines = first_lines (length xs) e in (
      (lines ++ (j.rest ++ k.rest)) ++ k.below,
      OneOpen f d is (subst (λ (cs : List Child). Printed a (length xs) cs (lines ++ (j.rest ++ k.rest))) (sym child) (NodeChild id.index e there none inner rest)) k.around,
      regroup_node was lines j.rest k.rest k.below ∙ ap (λ u. (was ++ lines) ++ (j.rest ++ u)) (sym k.text) ∙ ap (λ u. (was ++ lines) ++ u) (sym j.text),
    )

regroup_template : (was x y held inner rest below : List ℕ) → was ++ ((x ++ (y ++ (held ++ (inner ++ rest)))) ++ below) ≡ (was ++ (x ++ y)) ++ (held ++ (inner ++ (rest ++ below)))
regroup_template was x y held inner rest below = simp append_assoc

pub template_goes : (a : ArenaView) (xs : List Frame) (f : Frame) (id c : NodeId) (d e h : Node) (was : List ℕ) → slice_get a.nodes f.node.index ≡ Some d → drop f.printed d.children ≡ ChildNode id.index ∷ drop (f.printed + 1) d.children → slice_get a.nodes id.index ≡ Some e → e.contents ≡ Some c.index → slice_get a.nodes c.index ≡ Some h → GoesOn a (xs ++ f ∷ []) was (((xs ++ next f ∷ []) ++ opened id ∷ []) ++ opened c ∷ []) (was ++ (first_lines (length xs) e ++ line (suc (length xs)) (codes "content")))
template_goes a xs f id c d e h was is child there has held t l =
    let i = innermost a ((xs ++ next f ∷ []) ++ opened id ∷ []) (opened c) t l in
    let j = innermost a (xs ++ next f ∷ []) (opened id) i.below i.around in
    let k = innermost a xs (next f) j.below j.around in
    let same : k.d ≡ d = same_node k.is is in
    let inside : j.d ≡ e = same_node j.is there in
    let fragment : i.d ≡ h = same_node i.is held in
    let deep = one_more (xs ++ next f ∷ []) (opened id) ∙ ap suc (one_more xs (next f)) in
    let rest = subst (λ (g : Node). Printed a (length xs) (drop (f.printed + 1) g.children) k.rest) same k.printed in
    let inner = subst (λ (g : Node). Printed a (suc (length xs)) g.children j.rest) inside (subst (λ n. Printed a n j.d.children j.rest) (one_more xs (next f)) j.printed) in
    let contents = subst (λ (g : Node). Printed a (suc (suc (length xs))) g.children i.rest) fragment (subst (λ n. Printed a n i.d.children i.rest) deep i.printed) in
    let lines = first_lines (length xs) e in
    let content = line (suc (length xs)) (codes "content") in (
      (lines ++ (content ++ (i.rest ++ (j.rest ++ k.rest)))) ++ k.below,
      OneOpen f d is (subst (λ (cs : List Child). Printed a (length xs) cs (lines ++ (content ++ (i.rest ++ (j.rest ++ k.rest))))) (sym child) (TemplateChild id.index c.index e h there has held contents inner rest)) k.around,
      regroup_template was lines content i.rest j.rest k.rest k.below ∙ ap (λ u. (was ++ (lines ++ content)) ++ (i.rest ++ (j.rest ++ u))) (sym k.text) ∙ ap (λ u. (was ++ (lines ++ content)) ++ (i.rest ++ u)) (sym j.text) ∙ ap (λ u. (was ++ (lines ++ content)) ++ u) (sym i.text),
    )

-- ---- reading the arena

node_from : (nodes : List Node) (k : ℕ) → k < length nodes → (d : Node) × (slice_get nodes k ≡ Some d)
node_from [] k lt = absurd (omega arith)
node_from (d ∷ nodes) zero lt = (d, refl)
node_from (d ∷ nodes) (suc k) lt = node_from nodes k (omega arith)

pub node_there : (a : ArenaView) (id : NodeId) → IsHeld a id → (d : Node) × (slice_get a.nodes id.index ≡ Some d)
node_there a id lt = node_from a.nodes id.index lt

seen_at : {T : Type 0} (look : Node → T) (o : Option Node) (d : Node) (v : T) → o ≡ Some d → option_map look o ≡ Some v → look d ≡ v
seen_at look o d v p q = let e : ◌≡◌ {A = Option _} (Some (look d)) (Some v) = ap (option_map look) (sym p) ∙ q in cc

pub look_at : {T : Type 0} (a : ArenaView) (id : NodeId) (look : Node → T) (d : Node) (v : T) → slice_get a.nodes id.index ≡ Some d → at_node look a id ≡ Some v → look d ≡ v
look_at a id look d v p q = seen_at look (slice_get a.nodes id.index) d v p q

-- the first lines of a node were printed
pub first_printed : (a : ArenaView) (id : NodeId) (d : Node) (level inner : ℕ) (k : Kind) (attrs : List AttributeText) (was mid is : List ℕ) → slice_get a.nodes id.index ≡ Some d → at_node (λ e. e.kind) a id ≡ Some k → at_node (λ e. e.attrs) a id ≡ Some attrs → inner ≡ level + 1 → mid ≡ was ++ kind_line level k → is ≡ mid ++ attribute_lines inner attrs → is ≡ was ++ first_lines level d
first_printed a id d level inner k attrs was mid is there kind_is attrs_are deep first second =
    let same_kind : d.kind ≡ k = look_at a id (λ e. e.kind) d k there kind_is in
    let same_attrs : d.attrs ≡ attrs = look_at a id (λ e. e.attrs) d attrs there attrs_are in
    let same_level : inner ≡ suc level = omega arith in
    second ∙ ap (λ l. l ++ attribute_lines inner attrs) first ∙ append_assoc was (kind_line level k) (attribute_lines inner attrs)
    ∙ (λ i. was ++ (kind_line level (sym same_kind i) ++ attribute_lines (same_level i) (sym same_attrs i)))

-- ---- whole steps

All-one : (P : Frame → Type 0) (f : Frame) → P f → All P (f ∷ [])
All-one P f h = search (rules, h)

pub held_both : (a : ArenaView) (xs : List Frame) (f : Frame) → AreHeld a xs → IsHeld a f.node → AreHeld a (xs ++ f ∷ [])
held_both a xs f hs h = All-append (λ (g : Frame). IsHeld a g.node) xs (f ∷ []) hs (All-one (λ (g : Frame). IsHeld a g.node) f h)

pub opens_held : (a : ArenaView) (id : NodeId) (level : ℕ) (frames : List Frame) (was : List ℕ) (new : List Frame) (is : List ℕ) → AreHeld a frames → IsHeld a id → Opens a id level frames was new is → AreHeld a new
opens_held a id level frames was new is hs h o = ⊎_elim
    (λ plain. subst (AreHeld a) (sym plain.1) (held_both a frames (opened id) hs h))
    (λ template. subst (AreHeld a) (sym template.3) (held_both a (frames ++ opened id ∷ []) (opened template.0) (held_both a frames (opened id) hs h) template.2))
    o.2

pub opens_goes : (a : ArenaView) (xs : List Frame) (f : Frame) (id : NodeId) (d : Node) (was : List ℕ) (new : List Frame) (is : List ℕ) → slice_get a.nodes f.node.index ≡ Some d → drop f.printed d.children ≡ ChildNode id.index ∷ drop (f.printed + 1) d.children → Opens a id (length xs) (xs ++ next f ∷ []) was new is → GoesOn a (xs ++ f ∷ []) was new is
opens_goes a xs f id d was new is there child o = ⊎_elim
    (λ plain. subst (λ (u : List ℕ). GoesOn a (xs ++ f ∷ []) was new u) (sym plain.2) (subst (λ (fs : List Frame). GoesOn a (xs ++ f ∷ []) was fs (was ++ first_lines (length xs) o.0)) (sym plain.1)
    (node_goes a xs f id d o.0 was there child o.1 plain.0)))
    (λ template. let fragment = node_there a template.0 template.2 in
    subst (λ (u : List ℕ). GoesOn a (xs ++ f ∷ []) was new u) (sym template.4) (subst (λ (fs : List Frame). GoesOn a (xs ++ f ∷ []) was fs (was ++ (first_lines (length xs) o.0 ++ line (suc (length xs)) (codes "content")))) (sym template.3)
    (template_goes a xs f id template.0 d o.0 fragment.0 was there child o.1 template.1 fragment.1)))
    o.2

-- the whole tree
pub tree_done : (a : ArenaView) (items frames : List Frame) (f : Frame) (out : List ℕ) → items ≡ f ∷ [] → f.node.index ≡ 0 → f.printed ≡ 0 → frames ≡ [] → GoesOn a items [] frames out → IsTreeText a out
tree_done a items frames f out start first none empty goes =
    let end = goes [] (subst (λ (fs : List Frame). Left a fs []) (sym empty) NoneOpen) in
    let k = innermost_of a [] f start end.1 in
    let nothing = none_open a refl k.around in
    let same : k.rest ≡ out = sym (append-nil k.rest) ∙ ap (λ l. k.rest ++ l) (sym nothing) ∙ sym k.text ∙ end.2 ∙ append-nil out in (
      k.d,
      subst (λ n. slice_get a.nodes n ≡ Some k.d) first k.is,
      subst (Printed a 0 k.d.children) same (subst (λ n. Printed a 0 (drop n k.d.children) k.rest) none k.printed),
    )

pub on_ok : {P Q : Type 0} (r : Result (Unit {0}) AllocError) → (P → Q) → OnOk r P → OnOk r Q
on_ok (Ok done) f h = f h
on_ok (Err e) f h = tt

-- one more level
pub indent-more : (was mid is : List ℕ) (n : ℕ) → is ≡ mid ++ 32 ∷ 32 ∷ [] → mid ≡ was ++ indent n → is ≡ was ++ indent (n + 1)
indent-more was mid is n e h = e ∙ ap (λ l. l ++ 32 ∷ 32 ∷ []) h ∙ append_assoc was (indent n) (32 ∷ 32 ∷ []) ∙ ap (λ l. was ++ l) (deeper n ∙ ap indent (sym (add-one n)))
  where
    deeper : (k : ℕ) → indent k ++ 32 ∷ 32 ∷ [] ≡ indent (suc k)
    deeper zero = refl
    deeper (suc k) = ap (λ l. 32 ∷ 32 ∷ l) (deeper k)

-- the innermost, and those around it
pub held_front : (a : ArenaView) (zs xs : List Frame) (f : Frame) → zs ≡ xs ++ f ∷ [] → AreHeld a zs → AreHeld a xs
held_front a zs xs f e h k d lt =
    let all = subst (AreHeld a) e h in
    subst (λ (g : Frame). IsHeld a g.node) (get_or_append_left xs (f ∷ []) d k lt) (all k d (omega (arith, length-append xs (f ∷ []))))

pub held_last : (a : ArenaView) (zs xs : List Frame) (f : Frame) → zs ≡ xs ++ f ∷ [] → AreHeld a zs → IsHeld a f.node
held_last a zs xs f e h =
    let all = subst (AreHeld a) e h in
    subst (λ (g : Frame). IsHeld a g.node) (get_or-append_seam xs f [] f) (all (length xs) f (omega (arith, length-append xs (f ∷ []))))
