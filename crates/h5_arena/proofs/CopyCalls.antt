-- Copies have the calls of their originals.
use Rattle.std.proofs.Common.{◌≡◌, ◌∙◌, ℕ, ◌+◌, ◌-◌, ◌≤◌, List, [], ◌∷◌, ◌++◌, ap, arith, length, refl, subst, sym}
use Rattle.std.specs.Prelude.{Option, None, Some, slice_get, unwrap_or}
use Rattle.std.specs.List.{flat_map}
use Rattle.std.specs.Option.{option_and_then, option_map, option_map_or, option_to_list}
use Rattle.std.proofs.lemmas.Option.{some_pair_parts}
use Prim.Native.Nat.{zero, suc}
use Rattle.h5_interface.specs.Forest.{Child, ChildNode, ChildText, Forest, IsForest, Node, below, children_of, contents_of, nodes}
use Rattle.h5_serialize.specs.Call.{Call, TextOf}
use Rattle.h5_arena.specs.ArenaModel.{forest_of}
use Rattle.h5_arena.specs.Copies.{AreCopied, Wanted, copied, renumbered}
use Rattle.h5_arena.specs.Copy.{ForBoth, IsCopyOf, IsCopyWithin, IsLike, StandFor}
use Rattle.h5_arena.specs.NodeCalls.{calls_around, calls_of, calls_within, child_calls, shown_children}
use Rattle.h5_arena.proofs.CopyLaws.{get_left, get_right}
use Rattle.h5_arena.proofs.CopyForest.{copy_of}
use Rattle.h5_arena.proofs.NodeCallLaws.{calls_settled}

-- renumbered nodes correspond to those from which they come
renumbered_stand : (stands : ℕ → ℕ → Type 0) (first : ℕ) (cs : List Child) → ((j n : ℕ) → slice_get (nodes cs) j ≡ Some n → stands n (first + j)) → StandFor stands cs (renumbered first cs)
renumbered_stand stands first [] h = tt
renumbered_stand stands first (ChildText t ∷ cs) h = (refl, renumbered_stand stands first cs h)
renumbered_stand stands first (ChildNode n ∷ cs) h = (
  subst (stands n) (omega arith) (h 0 n refl),
  renumbered_stand stands (first + 1) cs (λ j m e. let at : first + suc j ≡ (first + 1) + j = omega arith in subst (stands m) at (h (suc j) m e)),
)

copied_like : (stands : ℕ → ℕ → Type 0) (first : ℕ) (parent : Option ℕ) (d : Node) → ((j n : ℕ) → slice_get (below d) j ≡ Some n → stands n (first + j)) → IsLike stands d (copied first parent d)
copied_like stands first parent d h = record {
  kind = refl;
  attrs = refl;
  flags = refl;
  started = refl;
  form = refl;
  children = renumbered_stand stands first d.children (λ j n e. h j n (get_left (nodes d.children) (option_to_list d.contents) j n e));
  contents = at d.contents refl;
}
  where
    last : (c : ℕ) → d.contents ≡ Some c → slice_get (below d) (length (nodes d.children)) ≡ Some c
    last c e =
        let z : length (nodes d.children) ≡ length (nodes d.children) + 0 = omega arith in
        ap (slice_get (below d)) z ∙ get_right (nodes d.children) (option_to_list d.contents) 0 ∙ ap (λ o. slice_get (option_to_list o) 0) e

    at : (o : Option ℕ) → d.contents ≡ o → ForBoth stands o (option_map (λ _. first + length (nodes d.children)) o)
    at None e = tt
    at (Some c) e = h (length (nodes d.children)) c (last c e)

-- the copy of each source is one, on all levels
pub copies_within : (ns cs : List Node) (n : ℕ) (sources : List Wanted) (whole : IsForest (forest_of ns)) (h : AreCopied (forest_of ns) n sources cs) (all : length sources ≡ length cs)
    → (levels i m : ℕ) (p : Option ℕ) → slice_get sources i ≡ Some (m, p) → IsCopyWithin levels (forest_of ns) (forest_of (ns ++ cs)) m (length ns + i)
copies_within ns cs n sources whole h all zero i m p e = tt
copies_within ns cs n sources whole h all (suc levels) i m p e =
    let x = copy_of ns cs n sources whole h all i m p e in
    let w = h.done i x.0 x.1 in
    let same = some_pair_parts w.source m w.parent p (sym w.is_wanted ∙ e) in
    let there : (forest_of ns).node m ≡ Some w.original = ap (slice_get ns) (sym same.0) ∙ w.there in
    let here : (forest_of (ns ++ cs)).node (length ns + i) ≡ Some (copied (length ns + w.first) w.parent w.original) = get_right ns cs i ∙ x.1 ∙ ap (λ d. Some d) w.is_copy in
    rw (there, here)
    (copied_like (IsCopyWithin levels (forest_of ns) (forest_of (ns ++ cs))) (length ns + w.first) w.parent w.original
    (λ j k v. let at : length ns + (w.first + j) ≡ (length ns + w.first) + j = omega arith in
    subst (IsCopyWithin levels (forest_of ns) (forest_of (ns ++ cs)) k) at (copies_within ns cs n sources whole h all levels (w.first + j) k (Some (length ns + i)) (w.all_below j k v))))

-- a correspondence on all levels is a correspondence as a whole
module _ (f g : Forest) where
  all_stand : (cs ds : List Child) → ((levels : ℕ) → StandFor (IsCopyWithin levels f g) cs ds) → StandFor (IsCopyOf f g) cs ds
  all_stand [] [] h = tt
  all_stand [] (d ∷ ds) h = h 0
  all_stand (ChildText t ∷ cs) [] h = h 0
  all_stand (ChildNode n ∷ cs) [] h = h 0
  all_stand (ChildText t ∷ cs) (ChildText u ∷ ds) h = ((h 0).0, all_stand cs ds (λ levels. (h levels).1))
  all_stand (ChildText t ∷ cs) (ChildNode m ∷ ds) h = h 0
  all_stand (ChildNode n ∷ cs) (ChildText u ∷ ds) h = h 0
  all_stand (ChildNode n ∷ cs) (ChildNode m ∷ ds) h = (λ levels. (h levels).0, all_stand cs ds (λ levels. (h levels).1))

  for_both : (o q : Option ℕ) → ((levels : ℕ) → ForBoth (IsCopyWithin levels f g) o q) → ForBoth (IsCopyOf f g) o q
  for_both None None h = tt
  for_both None (Some m) h = h 0
  for_both (Some n) None h = h 0
  for_both (Some n) (Some m) h = h

  all_like : (d e : Node) → ((levels : ℕ) → IsLike (IsCopyWithin levels f g) d e) → IsLike (IsCopyOf f g) d e
  all_like d e h = record {
    kind = (h 0).kind;
    attrs = (h 0).attrs;
    flags = (h 0).flags;
    started = (h 0).started;
    form = (h 0).form;
    children = all_stand d.children e.children (λ levels. (h levels).children);
    contents = for_both d.contents e.contents (λ levels. (h levels).contents);
  }

  pub nodes_like : (o q : Option Node) → ((levels : ℕ) → ForBoth (IsLike (IsCopyWithin levels f g)) o q) → ForBoth (IsLike (IsCopyOf f g)) o q
  nodes_like None None h = tt
  nodes_like None (Some e) h = h 0
  nodes_like (Some d) None h = h 0
  nodes_like (Some d) (Some e) h = all_like d e h

  copy_like : (n m : ℕ) → IsCopyOf f g n m → ForBoth (IsLike (IsCopyOf f g)) (f.node n) (g.node m)
  copy_like n m h = nodes_like (f.node n) (g.node m) (λ levels. h (suc levels))

  -- the children of a copy correspond to those of the original, and so do those that are shown
  children_stand : (n m : ℕ) → IsCopyOf f g n m → StandFor (IsCopyOf f g) (children_of f n) (children_of g m)
  children_stand n m h = at (f.node n) (g.node m) (copy_like n m h)
    where
      at : (o q : Option Node) → ForBoth (IsLike (IsCopyOf f g)) o q → StandFor (IsCopyOf f g) (option_map_or (λ d. d.children) o []) (option_map_or (λ d. d.children) q [])
      at None None w = tt
      at None (Some e) w = absurd w
      at (Some d) None w = absurd w
      at (Some d) (Some e) w = w.children

  contents_stand : (n m : ℕ) → IsCopyOf f g n m → ForBoth (IsCopyOf f g) (contents_of f n) (contents_of g m)
  contents_stand n m h = at (f.node n) (g.node m) (copy_like n m h)
    where
      at : (o q : Option Node) → ForBoth (IsLike (IsCopyOf f g)) o q → ForBoth (IsCopyOf f g) (option_and_then (λ d. d.contents) o) (option_and_then (λ d. d.contents) q)
      at None None w = tt
      at None (Some e) w = absurd w
      at (Some d) None w = absurd w
      at (Some d) (Some e) w = w.contents

  shown_stand : (n m : ℕ) → IsCopyOf f g n m → StandFor (IsCopyOf f g) (shown_children f n) (shown_children g m)
  shown_stand n m h = at (contents_of f n) (contents_of g m) (contents_stand n m h)
    where
      at : (o q : Option ℕ) → ForBoth (IsCopyOf f g) o q → StandFor (IsCopyOf f g) (children_of f (unwrap_or o n)) (children_of g (unwrap_or q m))
      at None None w = children_stand n m h
      at None (Some e) w = absurd w
      at (Some d) None w = absurd w
      at (Some d) (Some e) w = children_stand d e w

  same_below : (k l : ℕ → List Call) (cs ds : List Child) → StandFor (IsCopyOf f g) cs ds → ((n m : ℕ) → IsCopyOf f g n m → l m ≡ k n) → flat_map (child_calls l) ds ≡ flat_map (child_calls k) cs
  same_below k l [] [] h same = refl
  same_below k l [] (d ∷ ds) h same = absurd h
  same_below k l (ChildText t ∷ cs) [] h same = absurd h
  same_below k l (ChildNode n ∷ cs) [] h same = absurd h
  same_below k l (ChildText t ∷ cs) (ChildText u ∷ ds) h same = ap (λ x. TextOf x ∷ flat_map (child_calls l) ds) h.0 ∙ ap (λ xs. TextOf t ∷ xs) (same_below k l cs ds h.1 same)
  same_below k l (ChildText t ∷ cs) (ChildNode m ∷ ds) h same = absurd h
  same_below k l (ChildNode n ∷ cs) (ChildText u ∷ ds) h same = absurd h
  same_below k l (ChildNode n ∷ cs) (ChildNode m ∷ ds) h same = ap (λ x. x ++ flat_map (child_calls l) ds) (same n m h.0) ∙ ap (λ xs. k n ++ xs) (same_below k l cs ds h.1 same)

  -- down to this number of levels, the calls are equal
  same_within : (levels n m : ℕ) → IsCopyOf f g n m → calls_within levels g m ≡ calls_within levels f n
  unfolding calls_within
  same_within zero n m h = refl
  same_within (suc levels) n m h =
      at (f.node n) (g.node m) (copy_like n m h)
      ∙ ap (λ below. option_map_or (λ (d : Node). calls_around d.kind d.attrs below) (f.node n) []) (same_below (calls_within levels f) (calls_within levels g) (shown_children f n) (shown_children g m) (shown_stand n m h) (same_within levels))
    where
      at : (o q : Option Node) → ForBoth (IsLike (IsCopyOf f g)) o q
          → option_map_or (λ (d : Node). calls_around d.kind d.attrs (flat_map (child_calls (calls_within levels g)) (shown_children g m))) q []
          ≡ option_map_or (λ (d : Node). calls_around d.kind d.attrs (flat_map (child_calls (calls_within levels g)) (shown_children g m))) o []
      at None None w = refl
      at None (Some e) w = absurd w
      at (Some d) None w = absurd w
      at (Some d) (Some e) w = rw (w.kind, w.attrs) refl

-- the calls of a copy are those of the original, in a forest with as many nodes or more
pub same_calls : (f g : Forest) (n m : ℕ) → IsForest f → f.bound ≤ g.bound → IsCopyOf f g n m → calls_of g m ≡ calls_of f n
same_calls f g n m whole more h =
    let e : g.bound ≡ f.bound + (g.bound - f.bound) = omega (arith, more) in
    same_within f g g.bound n m h ∙ ap (λ levels. calls_within levels f n) e ∙ calls_settled f (g.bound - f.bound) n whole
