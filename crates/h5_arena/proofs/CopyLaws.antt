-- A node is copied level by level.
use Rattle.std.proofs.Common.{◌≡◌, ◌∙◌, ◌⊎◌, ℕ, ◌+◌, ◌<◌, ◌≤◌, List, [], ◌∷◌, ◌++◌, ap, arith, get_or, inl, inr, length, refl, subst, sym}
use Rattle.std.specs.Prelude.{Option, None, Some, slice_get}
use Rattle.std.specs.Option.{option_map}
use Rattle.std.proofs.lemmas.Bool.{cases_lt, eq-eqb}
use Rattle.std.proofs.lemmas.List.{length-append, length-map}
use Rattle.std.proofs.lemmas.Option.{slice_get-map, slice_get_read, slice_get_within, some_pair_parts}
use Prim.Native.Nat.{zero, suc}
use Rattle.h5_interface.specs.Forest.{Forest, IsForest, IsNode, Node, below, count}
use Rattle.h5_interface.proofs.ForestLaws.{child_is_node}
use Rattle.h5_arena.specs.ArenaModel.{forest_in, link_place, node_view, node_views}
use Rattle.h5_arena.specs.Copies.{AreCopied, AreCopies, IsCopied, Wanted, copied, wanted_below, wanted_views}
use Rattle.h5_arena.specs.declared.copies.Source.{Source}
use Rattle.h5_arena.specs.declared.link.Link.{Link}
use Rattle.h5_arena.specs.declared.nodes.NodeData.{NodeData}
use Rattle.h5_arena.specs.declared.nodes.NodeId.{NodeId}
use Rattle.h5_arena.proofs.CallConditions.{some_same}
use Rattle.h5_arena.proofs.LevelLaws.{below_has_parent}
use Rattle.h5_arena.proofs.NodeWrites.{node_exists, within_is_node}

-- an entry of a list is one of a longer list, and an entry there is in the list or after it
pub get_left : {A : Type 0} (xs ys : List A) (i : ℕ) (x : A) → slice_get xs i ≡ Some x → slice_get (xs ++ ys) i ≡ Some x
get_left [] ys i x e = let v : None ≡ Some x = e in cc
get_left (y ∷ xs) ys zero x e = e
get_left (y ∷ xs) ys (suc i) x e = get_left xs ys i x e

pub get_right : {A : Type 0} (xs ys : List A) (j : ℕ) → slice_get (xs ++ ys) (length xs + j) ≡ slice_get ys j
get_right [] ys j = ap (slice_get ys) (omega arith)
get_right (x ∷ xs) ys j = let e : suc (length xs) + j ≡ suc (length xs + j) = omega arith in ap (slice_get (x ∷ xs ++ ys)) e ∙ get_right xs ys j

pub get_split : {A : Type 0} (xs ys : List A) (i : ℕ) (x : A) → slice_get (xs ++ ys) i ≡ Some x → (slice_get xs i ≡ Some x) ⊎ ((j : ℕ) × (i ≡ length xs + j) × (slice_get ys j ≡ Some x))
get_split [] ys i x e = inr (i, omega arith, e)
get_split (y ∷ xs) ys zero x e = inl e
get_split (y ∷ xs) ys (suc i) x e =
    elim (get_split xs ys i x e) [
      | inl h ↦ inl h
      | inr h ↦ inr (h.0, omega (arith, h.1), h.2)
    ]

pub get_there : {A : Type 0} (xs : List A) (i : ℕ) → i < length xs → (x : A) × (slice_get xs i ≡ Some x)
get_there [] i h = absurd (omega arith)
get_there (x ∷ xs) zero h = (x, refl)
get_there (x ∷ xs) (suc i) h = get_there xs i (omega arith)

only_first : {A : Type 0} (x y : A) (j : ℕ) → slice_get (x ∷ []) j ≡ Some y → (j ≡ 0) × (x ≡ y)
only_first x y zero e = (refl, some_same x y e)
only_first x y (suc j) e = let v : None ≡ Some y = e in cc

pub stands_in : (ns : List ℕ) (j n : ℕ) → slice_get ns j ≡ Some n → 0 < count n ns
stands_in [] j n e = let v : None ≡ Some n = e in cc
stands_in (m ∷ ns) zero n e = let v : m ≡ n = some_same m n e in rw (v, eq-eqb n n refl) (omega arith)
stands_in (m ∷ ns) (suc j) n e = let h = stands_in ns j n e in omega arith

pub below_at : (p : Option ℕ) (ns : List ℕ) (j n : ℕ) → slice_get ns j ≡ Some n → slice_get (wanted_below p ns) j ≡ Some (n, p)
below_at p ns j n e = slice_get-map (λ m. (m, p)) ns j ∙ ap (option_map (λ m. (m, p))) e

pub below_of_at : (p q : Option ℕ) (ns : List ℕ) (j n : ℕ) → slice_get (wanted_below p ns) j ≡ Some (n, q) → (slice_get ns j ≡ Some n) × (p ≡ q)
below_of_at p q ns j n e = at (slice_get ns j) refl
  where
    at : (o : Option ℕ) → slice_get ns j ≡ o → (slice_get ns j ≡ Some n) × (p ≡ q)
    at None w = let v : ◌≡◌ {A = Option Wanted} None (Some (n, q)) = sym (slice_get-map (λ m. (m, p)) ns j ∙ ap (option_map (λ m. (m, p))) w) ∙ e in cc
    at (Some m) w =
        let v : Some (m, p) ≡ Some (n, q) = sym (slice_get-map (λ m. (m, p)) ns j ∙ ap (option_map (λ m. (m, p))) w) ∙ e in
        let parts = some_pair_parts m n p q v in
        (w ∙ ap (λ x. Some x) parts.0, parts.1)

-- a node directly below a node is a node
pub below_is_node : (f : Forest) (n j m : ℕ) (d : Node) → IsForest f → f.node n ≡ Some d → slice_get (below d) j ≡ Some m → IsNode f m
below_is_node f n j m d k e w = child_is_node f m n (below_has_parent f n m k (rw e (stands_in (below d) j m w)))

-- none is copied yet
pub none_copied : (f : Forest) (n : ℕ) → IsNode f n → AreCopied f n ((n, None) ∷ []) []
none_copied f n there = record {
  start = refl;
  are_nodes = λ i m p e. let v = only_first (n, None) (m, p) i e in subst (IsNode f) (ap (λ (w : Wanted). w.0) v.1) there;
  one_free = λ i m e. (only_first (n, None) (m, None) i e).0;
  parents = λ i m p e. absurd (let v : None ≡ Some p = ap (λ (w : Wanted). w.1) (only_first (n, None) (m, Some p) i e).1 in cc);
  done = λ k copy e. absurd (let v : None ≡ Some copy = e in cc);
}

-- one more is
module _ (f : Forest) (n : ℕ) (sources : List Wanted) (copies : List Node) (source : ℕ) (parent : Option ℕ) (d : Node) (whole : IsForest f) (h : AreCopied f n sources copies) (next : slice_get sources (length copies) ≡ Some (source, parent)) (there : f.node source ≡ Some d) where
  abbrev place : ℕ
  place = f.bound + length copies

  abbrev more : List Wanted
  more = wanted_below (Some place) (below d)

  abbrev copy : Node
  copy = copied (f.bound + length sources) parent d

  fewer : length copies < length sources
  fewer = slice_get_within sources (length copies) (source, parent) next

  -- the new sources have this parent
  new_parent : (j m p : ℕ) → slice_get more j ≡ Some (m, Some p) → p ≡ place
  new_parent j m p e = sym (some_same place p (below_of_at (Some place) (Some p) (below d) j m e).1)

  still : (k : ℕ) (c : Node) → k < length copies → IsCopied f sources k c → IsCopied f (sources ++ more) k c
  still k c before w = record {
    source = w.source;
    parent = w.parent;
    original = w.original;
    first = w.first;
    is_wanted = get_left sources more k (w.source, w.parent) w.is_wanted;
    there = w.there;
    is_copy = w.is_copy;
    all_below = λ j m e. get_left sources more (w.first + j) (m, Some (f.bound + k)) (w.all_below j m e);
    none_else = λ i m e. elim (get_split sources more i (m, Some (f.bound + k)) e) [
      | inl v ↦ w.none_else i m v
      | inr v ↦ absurd (let u = new_parent v.0 m (f.bound + k) v.2 in omega (arith, before))
    ];
  }

  new : (k : ℕ) (c : Node) → k ≡ length copies → copy ≡ c → IsCopied f (sources ++ more) k c
  new k c at is = record {
    source = source;
    parent = parent;
    original = d;
    first = length sources;
    is_wanted = get_left sources more k (source, parent) (ap (slice_get sources) at ∙ next);
    there = there;
    is_copy = sym is;
    all_below = λ j m e. get_right sources more j ∙ below_at (Some place) (below d) j m e ∙ ap (λ k. Some (m, Some (f.bound + k))) (sym at);
    none_else = λ i m e. elim (get_split sources more i (m, Some (f.bound + k)) e) [
      | inl v ↦ absurd (let u = (h.parents i m (f.bound + k) v).1 in omega (arith, at))
      | inr v ↦ let u = slice_get_within (below d) v.0 m (below_of_at (Some place) (Some (f.bound + k)) (below d) v.0 m v.2).0 in (omega (arith, v.1), omega (arith, v.1, u))
    ];
  }

  pub one_copied : AreCopied f n (sources ++ more) (copies ++ copy ∷ [])
  one_copied = record {
    start = get_left sources more 0 (n, None) h.start;
    are_nodes = λ i m p e. elim (get_split sources more i (m, p) e) [
      | inl v ↦ h.are_nodes i m p v
      | inr v ↦ below_is_node f source v.0 m d whole there (below_of_at (Some place) p (below d) v.0 m v.2).0
    ];
    one_free = λ i m e. elim (get_split sources more i (m, None) e) [
      | inl v ↦ h.one_free i m v
      | inr v ↦ absurd (let u : Some place ≡ None = (below_of_at (Some place) None (below d) v.0 m v.2).1 in cc)
    ];
    parents = λ i m p e. let long = length-append copies (copy ∷ []) in elim (get_split sources more i (m, Some p) e) [
      | inl v ↦ let u = h.parents i m p v in (u.0, omega (arith, long, u.1), u.2)
      | inr v ↦ let u = new_parent v.0 m p v.2 in let few = fewer in (omega (arith, u), omega (arith, u, long), omega (arith, u, few, v.1))
    ];
    done = λ k c e. elim (get_split copies (copy ∷ []) k c e) [
      | inl v ↦ still k c (slice_get_within copies k c v) (h.done k c v)
      | inr v ↦ let u = only_first copy c v.0 v.2 in new k c (omega (arith, v.1, u.0)) u.1
    ];
  }

-- as above, from other facts about the lists
pub begins : (ns : List NodeData) (id : NodeId) (link : Link) (sources olds : List Source) (copies : List NodeData) → id.index < length ns → sources ≡ olds ++ (record { id = id; parent = link }) ∷ [] → olds ≡ [] → link_place link ≡ None → copies ≡ []
    → AreCopied (forest_in ns) id.index (wanted_views sources) (node_views copies)
begins ns id link sources olds copies there e w none z = rw (e, w, z, none) (none_copied (forest_in ns) id.index (within_is_node ns id.index there))

pub goes_on : (f : Forest) (n : ℕ) (sources sources' : List Wanted) (copies copies' : List Node) (source place first : ℕ) (parent : Option ℕ) (d : Node) → IsForest f → slice_get sources (length copies) ≡ Some (source, parent) → f.node source ≡ Some d
    → place ≡ f.bound + length copies → first ≡ f.bound + length sources → sources' ≡ sources ++ wanted_below (Some place) (below d) → copies' ≡ copies ++ copied first parent d ∷ [] → AreCopied f n sources copies → AreCopied f n sources' copies'
goes_on f n sources sources' copies copies' source place first parent d whole next there at from e w h =
    rw (e, w, at, from) (one_copied f n sources copies source parent d whole h next there)

-- the source that comes next
pub next_source : (sources : List Source) (copies : List NodeData) (i : ℕ) (s : Source) → i ≡ length copies → i < length sources → s ≡ get_or sources i s → slice_get (wanted_views sources) (length (node_views copies)) ≡ Some (s.id.index, link_place s.parent)
next_source sources copies i s at l is =
    let e : length (node_views copies) ≡ i = length-map copies node_view ∙ sym at in
    ap (slice_get (wanted_views sources)) e
    ∙ slice_get-map (λ (s : Source). (s.id.index, link_place s.parent)) sources i
    ∙ ap (option_map (λ (s : Source). (s.id.index, link_place s.parent))) (slice_get_read sources (length sources) i s refl l is)

pub wanted_length : (sources : List Source) → length (wanted_views sources) ≡ length sources
wanted_length sources = length-map sources (λ (s : Source). (s.id.index, link_place s.parent))

-- it lies among the nodes
pub next_within : (ns : List NodeData) (n source : ℕ) (parent : Option ℕ) (sources : List Wanted) (copies : List Node) → AreCopied (forest_in ns) n sources copies → slice_get sources (length copies) ≡ Some (source, parent) → source < length ns
next_within ns n source parent sources copies h next = node_exists ns source (h.are_nodes (length copies) source parent next)

-- if no source is left, all are copied
pub ends : (f : Forest) (n : ℕ) (sources : List Wanted) (copies : List Node) → length sources ≤ length copies → AreCopied f n sources copies → AreCopies f n copies
ends f n sources copies all h = (
  sources,
  h,
  elim (cases_lt (length sources) (length copies)) [
    | inl l ↦ absurd (let x = get_there copies (length sources) l in let w = h.done (length sources) x.0 x.1 in let u = slice_get_within sources (length sources) (w.source, w.parent) w.is_wanted in omega (arith, u))
    | inr l ↦ omega (arith, all, l)
  ],
)
