-- A walk over everything below a node, in the middle.
use Rattle.std.proofs.Common.{◌≡◌, ◌∙◌, ℕ, suc, ◌+◌, ◌-◌, ◌*◌, ◌<◌, ◌≤◌, Bor, All, List, [], ◌∷◌, ◌++◌, Option, None, Some, ap, append-nil, append_assoc, arith, length, map, refl, subst, sym}
use Rattle.std.specs.Prelude.{unwrap_or}
use Rattle.std.specs.List.{flat_map}
use Rattle.std.specs.Option.{option_map, option_map_or}
use Rattle.std.proofs.lemmas.List.{length-append, map-append}
use Rattle.std.proofs.lemmas.List.Elements.{All-head, All-push, All-tail}
use Prim.Native.Nat.{zero, suc}
use Rattle.h5_interface.specs.Forest.{Child, ChildNode, ChildText, Forest, Node, children_of}
use Rattle.h5_arena.specs.ArenaModel.{ArenaView, IsChildHeld, IsHeld, at_node, child_view, child_views, forest_seen}
use Rattle.h5_arena.specs.Kin.{descendants_with_text, with_below}
use Rattle.h5_arena.specs.Lent.{AreHeldLent, IsHeldLent, lent_view, lent_views}
use Rattle.h5_arena.specs.declared.nodes.Child as kept
use Rattle.h5_arena.specs.declared.nodes.NodeId.{NodeId}

-- the children that are left, with everything below them down to this number of levels
abbrev pub left_at : Forest → ℕ → List Child → List Child
left_at f k cs = flat_map (with_below k f) cs

-- what is left of the waiting lists, the innermost last; this number of levels is below the first
abbrev pub left_waiting : Forest → ℕ → List (Bor (List kept.Child)) → List Child
left_waiting f k [] = []
left_waiting f k (w ∷ ws) = left_waiting f (k - 1) ws ++ left_at f k (child_views w.now)

-- what is left of the current list, and of the waiting ones
abbrev pub left : ArenaView → List kept.Child → List (Bor (List kept.Child)) → List Child
left a rest waiting = let f = forest_seen a in left_at f (f.bound - length waiting) (child_views rest) ++ left_waiting f f.bound waiting

-- a measure of what is left: a child that is passed counts more than a list that starts to wait
abbrev pub weight : ArenaView → List kept.Child → List (Bor (List kept.Child)) → ℕ
weight a rest waiting = 2 * length (left a rest waiting) + length waiting

-- they are children that an arena holds
abbrev pub AreHeld : ArenaView → List (Bor (List kept.Child)) → Type 0
AreHeld a [] = Unit {0}
AreHeld a (w ∷ ws) = All (IsChildHeld a) w.now × AreHeld a ws

-- some are found, and the others are left
abbrev pub IsWalking : ArenaView → ℕ → List (Bor kept.Child) → List kept.Child → List (Bor (List kept.Child)) → Type 0
IsWalking a n found rest waiting =
    (lent_views found ++ left a rest waiting ≡ descendants_with_text (forest_seen a) n)
    × (length waiting ≤ (forest_seen a).bound) × All (IsChildHeld a) rest × AreHeld a waiting × AreHeldLent a found

text_alone : (f : Forest) (k : ℕ) (t : List ℕ) → with_below k f (ChildText t) ≡ ChildText t ∷ []
unfolding with_below
text_alone f zero t = refl
text_alone f (suc k) t = refl

node_last : (f : Forest) (n : ℕ) → with_below 0 f (ChildNode n) ≡ ChildNode n ∷ []
unfolding with_below
node_last f n = refl

node_more : (f : Forest) (k n : ℕ) → with_below (suc k) f (ChildNode n) ≡ ChildNode n ∷ left_at f k (children_of f n)
unfolding with_below
node_more f k n = refl

-- a list more that waits
waiting_more : (f : Forest) (k : ℕ) (ws : List (Bor (List kept.Child))) (w : Bor (List kept.Child)) → left_waiting f k (ws ++ w ∷ []) ≡ left_at f (k - length ws) (child_views w.now) ++ left_waiting f k ws
waiting_more f k [] w = let e : k - 0 ≡ k = omega arith in ap (λ m. left_at f m (child_views w.now)) (sym e) ∙ sym (append-nil (left_at f (k - 0) (child_views w.now)))
waiting_more f k (v ∷ ws) w =
    let e : (k - 1) - length ws ≡ k - suc (length ws) = omega arith in
    ap (λ l. l ++ left_at f k (child_views v.now)) (waiting_more f (k - 1) ws w)
    ∙ append_assoc (left_at f ((k - 1) - length ws) (child_views w.now)) (left_waiting f (k - 1) ws) (left_at f k (child_views v.now))
    ∙ ap (λ m. left_at f m (child_views w.now) ++ (left_waiting f (k - 1) ws ++ left_at f k (child_views v.now))) e

held_more : (a : ArenaView) (ws : List (Bor (List kept.Child))) (w : Bor (List kept.Child)) → AreHeld a ws → All (IsChildHeld a) w.now → AreHeld a (ws ++ w ∷ [])
held_more a [] w h k = (k, tt)
held_more a (v ∷ ws) w h k = (h.0, held_more a ws w h.1 k)

held_fewer : (a : ArenaView) (ws : List (Bor (List kept.Child))) (w : Bor (List kept.Child)) → AreHeld a (ws ++ w ∷ []) → AreHeld a ws × All (IsChildHeld a) w.now
held_fewer a [] w h = (tt, h.0)
held_fewer a (v ∷ ws) w h = let k = held_fewer a ws w h.1 in ((h.0, k.0), k.1)

-- the children that an arena returns are those of the forest
as_told : (o : Option Node) → option_map_or (λ d. d.children) o [] ≡ unwrap_or (option_map (λ d. d.children) o) []
as_told None = refl
as_told (Some d) = refl

pub children_told : (a : ArenaView) (id : NodeId) (cs : List kept.Child) → at_node (λ d. d.children) a id ≡ Some (child_views cs) → children_of (forest_seen a) id.index ≡ child_views cs
children_told a id cs e = as_told ((forest_seen a).node id.index) ∙ ap (λ o. unwrap_or o []) e

module _ (a : ArenaView) (rest : List kept.Child) (waiting : List (Bor (List kept.Child))) (c : kept.Child) (others : Bor (List kept.Child)) (first : rest ≡ c ∷ others.now) where
  abbrev level : ℕ
  level = (forest_seen a).bound - length waiting

  -- the first child comes next, with what is below it
  first_next : left a rest waiting ≡ with_below level (forest_seen a) (child_view c) ++ left a others.now waiting
  first_next =
      let f = forest_seen a in
      ap (λ r. left a r waiting) first
      ∙ append_assoc (with_below level f (child_view c)) (left_at f level (child_views others.now)) (left_waiting f f.bound waiting)

  -- a text comes alone, and so does a node if no level is left
  pub text_passed : (t : List ℕ) → child_view c ≡ ChildText t → left a rest waiting ≡ child_view c ∷ left a others.now waiting
  text_passed t is =
      first_next
      ∙ ap (λ x. with_below level (forest_seen a) x ++ left a others.now waiting) is
      ∙ ap (λ l. l ++ left a others.now waiting) (text_alone (forest_seen a) level t)
      ∙ ap (λ x. x ∷ left a others.now waiting) (sym is)

  pub node_passed : (n : ℕ) → child_view c ≡ ChildNode n → (forest_seen a).bound ≤ length waiting → left a rest waiting ≡ child_view c ∷ left a others.now waiting
  node_passed n is full =
      let none : level ≡ 0 = omega (arith, full) in
      first_next
      ∙ ap (λ x. with_below level (forest_seen a) x ++ left a others.now waiting) is
      ∙ ap (λ k. with_below k (forest_seen a) (ChildNode n) ++ left a others.now waiting) none
      ∙ ap (λ l. l ++ left a others.now waiting) (node_last (forest_seen a) n)
      ∙ ap (λ x. x ∷ left a others.now waiting) (sym is)

  -- any other node comes before its children, and those after it wait
  pub node_entered : (id : NodeId) (kids : List kept.Child) → child_view c ≡ ChildNode id.index → length waiting < (forest_seen a).bound → at_node (λ d. d.children) a id ≡ Some (child_views kids)
      → left a rest waiting ≡ child_view c ∷ left a kids (waiting ++ others ∷ [])
  node_entered id kids is room told =
      let f = forest_seen a in
      let j = f.bound - length (waiting ++ others ∷ []) in
      let longer : length (waiting ++ others ∷ []) ≡ length waiting + 1 = length-append waiting (others ∷ []) in
      let more : level ≡ suc j = omega (arith, longer, room) in
      let later = left a others.now waiting in
      let mine = left_at f j (child_views kids) in
      first_next
      ∙ ap (λ x. with_below level f x ++ later) is
      ∙ ap (λ k. with_below k f (ChildNode id.index) ++ later) more
      ∙ ap (λ l. l ++ later) (node_more f j id.index)
      ∙ ap (λ cs. ChildNode id.index ∷ (left_at f j cs ++ later)) (children_told a id kids told)
      ∙ ap (λ l. ChildNode id.index ∷ (mine ++ l)) (sym (waiting_more f f.bound waiting others))
      ∙ ap (λ x. x ∷ (mine ++ left_waiting f f.bound (waiting ++ others ∷ []))) (sym is)

-- no child is left in the current list, and the waiting ones come next
up_next : (a : ArenaView) (waiting : List (Bor (List kept.Child))) (outer : Bor (List kept.Child)) → left a [] (waiting ++ outer ∷ []) ≡ left a outer.now waiting
up_next a waiting outer = let f = forest_seen a in waiting_more f f.bound waiting outer

-- one more is found
found_more : (found : List (Bor kept.Child)) (c : Bor kept.Child) (later : List Child) → lent_views (found ++ c ∷ []) ++ later ≡ lent_views found ++ (lent_view c ∷ later)
found_more found c later = ap (λ l. l ++ later) (map-append lent_view found (c ∷ [])) ∙ append_assoc (lent_views found) (lent_view c ∷ []) later

-- the walk begins
pub begins : (a : ArenaView) (id : NodeId) (cs : List kept.Child) → at_node (λ d. d.children) a id ≡ Some (child_views cs) → All (IsChildHeld a) cs → IsWalking a id.index [] cs []
begins a id cs told held =
    let f = forest_seen a in
    let all : f.bound - 0 ≡ f.bound = omega arith in (
      append-nil (left_at f (f.bound - 0) (child_views cs))
          ∙ ap (λ m. left_at f m (child_views cs)) all
          ∙ ap (left_at f f.bound) (sym (children_told a id cs told)),
      omega arith,
      held,
      tt,
      λ k d lt. absurd (omega (arith, lt)),
    )

module _ (a : ArenaView) (n : ℕ) (found : List (Bor kept.Child)) (rest : List kept.Child) (waiting : List (Bor (List kept.Child))) (c : Bor kept.Child) (others : Bor (List kept.Child)) (first : rest ≡ c.now ∷ others.now) where
  held_first : All (IsChildHeld a) rest → IsHeldLent a c
  held_first h = All-head (IsChildHeld a) c.now others.now (subst (All (IsChildHeld a)) first h)

  pub held_others : All (IsChildHeld a) rest → All (IsChildHeld a) others.now
  held_others h = All-tail (IsChildHeld a) c.now others.now (subst (All (IsChildHeld a)) first h)

  -- a child was passed
  pub passes : left a rest waiting ≡ lent_view c ∷ left a others.now waiting → IsWalking a n found rest waiting → IsWalking a n (found ++ c ∷ []) others.now waiting
  passes e way = (
    found_more found c (left a others.now waiting) ∙ ap (λ l. lent_views found ++ l) (sym e) ∙ way.0,
    way.1,
    held_others way.2,
    way.3,
    All-push (IsHeldLent a) found c way.4 (held_first way.2),
  )

  -- a node was passed, and its children come next
  pub enters : (kids : List kept.Child) → left a rest waiting ≡ lent_view c ∷ left a kids (waiting ++ others ∷ []) → length waiting < (forest_seen a).bound → All (IsChildHeld a) kids
      → IsWalking a n found rest waiting → IsWalking a n (found ++ c ∷ []) kids (waiting ++ others ∷ [])
  enters kids e room held way =
      let longer : length (waiting ++ others ∷ []) ≡ length waiting + 1 = length-append waiting (others ∷ []) in (
        found_more found c (left a kids (waiting ++ others ∷ [])) ∙ ap (λ l. lent_views found ++ l) (sym e) ∙ way.0,
        omega (arith, longer, room),
        held,
        held_more a waiting others way.3 (held_others way.2),
        All-push (IsHeldLent a) found c way.4 (held_first way.2),
      )

  -- less is left then
  pub less_passed : left a rest waiting ≡ lent_view c ∷ left a others.now waiting → weight a others.now waiting < weight a rest waiting
  less_passed e = let e = ap length e in omega (arith, e)

  pub less_entered : (kids : List kept.Child) → left a rest waiting ≡ lent_view c ∷ left a kids (waiting ++ others ∷ []) → weight a kids (waiting ++ others ∷ []) < weight a rest waiting
  less_entered kids e =
      let e = ap length e in
      let longer : length (waiting ++ others ∷ []) ≡ length waiting + 1 = length-append waiting (others ∷ []) in
      omega (arith, e, longer)

-- the waiting lists continue
module _ (a : ArenaView) (n : ℕ) (found : List (Bor kept.Child)) (rest : List kept.Child) (all waiting : List (Bor (List kept.Child))) (outer : Bor (List kept.Child)) (none : rest ≡ []) (last : all ≡ waiting ++ outer ∷ []) where
  up : left a rest all ≡ left a outer.now waiting
  up = ap (λ r. left a r all) none ∙ ap (left a []) last ∙ up_next a waiting outer

  shorter : length all ≡ length waiting + 1
  shorter = ap length last ∙ length-append waiting (outer ∷ [])

  pub goes_up : IsWalking a n found rest all → IsWalking a n found outer.now waiting
  goes_up way =
      let held = held_fewer a waiting outer (subst (AreHeld a) last way.3) in (
        ap (λ l. lent_views found ++ l) (sym up) ∙ way.0,
        (let s = shorter in omega (arith, s, way.1)),
        held.1,
        held.0,
        way.4,
      )

  pub less_up : weight a outer.now waiting < weight a rest all
  less_up = let e = ap length up in let s = shorter in omega (arith, e, s)

-- nothing is left
pub ends : (a : ArenaView) (n : ℕ) (found : List (Bor kept.Child)) (rest : List kept.Child) (waiting : List (Bor (List kept.Child))) → rest ≡ [] → waiting ≡ [] → IsWalking a n found rest waiting → lent_views found ≡ descendants_with_text (forest_seen a) n
ends a n found rest waiting none last way =
    sym (append-nil (lent_views found))
    ∙ ap (λ l. lent_views found ++ l) (sym (ap (λ r. left a r waiting) none ∙ ap (left a []) last))
    ∙ way.0
