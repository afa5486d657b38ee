-- A measure of what is left to be copied.
use Rattle.std.proofs.Common.{◌≡◌, ◌∙◌, ℕ, ◌+◌, ◌<◌, List, [], ◌∷◌, ◌++◌, ap, arith, drop, refl, sym}
use Rattle.std.specs.Prelude.{Option, None, Some, slice_get}
use Rattle.std.proofs.lemmas.Bool.{eq-eqb}
use Prim.Native.Nat.{zero, suc}
use Rattle.h5_interface.specs.Ancestors.{Parent}
use Rattle.h5_interface.specs.Forest.{Forest, IsForest, Node, below, below_of, count}
use Rattle.h5_arena.specs.Copies.{Wanted, wanted_below}
use Rattle.h5_arena.proofs.CallConditions.{some_same}
use Rattle.h5_arena.proofs.LevelLaws.{below_has_parent, settled}

abbrev pub total : (ℕ → ℕ) → List ℕ → ℕ
total size [] = 0
total size (n ∷ ns) = size n + total size ns

-- the number of nodes at and below one, down to this number of levels, and at all levels
unfoldable pub size_within : ℕ → Forest → ℕ → ℕ
size_within zero f n = 1
size_within (suc levels) f n = 1 + total (size_within levels f) (below_of f n)

abbrev pub size_of : Forest → ℕ → ℕ
size_of f = size_within f.bound f

same_total : (g h : ℕ → ℕ) (ns : List ℕ) → ((m : ℕ) → 0 < count m ns → g m ≡ h m) → total g ns ≡ total h ns
same_total g h [] e = refl
same_total g h (n ∷ ns) e =
    ap (λ k. k + total g ns) (e n (rw (eq-eqb n n refl) (omega arith)))
    ∙ ap (λ k. h n + k) (same_total g h ns (λ m w. e m (omega (arith, w))))

size_gone : (f : Forest) (levels n : ℕ) → f.node n ≡ None → size_within (suc levels) f n ≡ size_within levels f n
unfolding size_within
size_gone f zero n e = rw e refl
size_gone f (suc levels) n e = rw e refl

size_further : (f : Forest) (levels n : ℕ) → ((m : ℕ) → 0 < count m (below_of f n) → size_within (suc levels) f m ≡ size_within levels f m) → size_within (suc (suc levels)) f n ≡ size_within (suc levels) f n
unfolding size_within
size_further f levels n same = ap (λ k. 1 + k) (same_total (size_within (suc levels) f) (size_within levels f) (below_of f n) same)

-- a node counts one more than everything directly below it
size_of_node : (f : Forest) (n : ℕ) → IsForest f → size_of f n ≡ 1 + total (size_of f) (below_of f n)
unfolding size_within
size_of_node f n k = sym (settled f k (below_of f) (λ n m w. Parent (below_has_parent f n m k w)) (λ levels. size_within levels f) (size_gone f) (size_further f) n)

-- how much is left of the sources that are not yet copied
abbrev pub left : Forest → List Wanted → ℕ
left f [] = 0
left f (w ∷ ws) = size_of f (w.0) + left f ws

left_below : (f : Forest) (p : Option ℕ) (ns : List ℕ) → left f (wanted_below p ns) ≡ total (size_of f) ns
left_below f p [] = refl
left_below f p (n ∷ ns) = ap (λ k. size_of f n + k) (left_below f p ns)

left_append : (f : Forest) (xs ys : List Wanted) → left f (xs ++ ys) ≡ left f xs + left f ys
left_append f [] ys = omega arith
left_append f (x ∷ xs) ys = let e = left_append f xs ys in omega arith

left_next : (f : Forest) (xs ys : List Wanted) (k source : ℕ) (parent : Option ℕ) → slice_get xs k ≡ Some (source, parent) → size_of f source + left f (drop (suc k) (xs ++ ys)) ≡ left f (drop k xs) + left f ys
left_next f [] ys k source parent e = let v : ◌≡◌ {A = Option Wanted} None (Some (source, parent)) = e in cc
left_next f (x ∷ xs) ys zero source parent e =
    let v : x ≡ (source, parent) = some_same x (source, parent) e in
    let u = left_append f xs ys in
    rw v (omega (arith, u))
left_next f (x ∷ xs) ys (suc k) source parent e = left_next f xs ys k source parent e

-- less is left once a source is copied
pub less_left : (f : Forest) (sources sources' : List Wanted) (k k' source : ℕ) (parent place : Option ℕ) (d : Node) → IsForest f → f.node source ≡ Some d → slice_get sources k ≡ Some (source, parent)
    → sources' ≡ sources ++ wanted_below place (below d) → k' ≡ suc k → left f (drop k' sources') < left f (drop k sources)
less_left f sources sources' k k' source parent place d whole there next e w =
    let own = rw there at (size_of_node f source whole) in
    let step = left_next f sources (wanted_below place (below d)) k source parent next in
    let more = left_below f place (below d) in
    rw (e, w) (omega (arith, own, step, more))
