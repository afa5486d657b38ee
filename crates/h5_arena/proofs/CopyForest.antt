-- A forest, followed by copies, is a forest.
use Rattle.std.proofs.Common.{◌≡◌, ◌≢◌, ◌∙◌, ◌⊎◌, ℕ, ◌+◌, ◌-◌, ◌<◌, ◌≤◌, Bool, true, false, List, [], ◌∷◌, ◌++◌, ap, append-nil, arith, inl, inr, length, refl, subst, sym}
use Rattle.std.specs.Prelude.{◌==◌, if◌then◌else◌, Option, None, Some, slice_get}
use Rattle.std.specs.Option.{option_and_then, option_map, option_map_or, option_to_list}
use Rattle.std.proofs.lemmas.Bool.{cases_lt, eq-eqb, eqb-true}
use Rattle.std.proofs.lemmas.List.{length-append}
use Rattle.std.proofs.lemmas.Option.{slice_get_past, slice_get_within, some_pair_parts}
use Prim.Native.Nat.{zero, suc}
use Rattle.h5_interface.specs.Ancestors.{Further, IsAncestor, Parent}
use Rattle.h5_interface.specs.Forest.{AreParted, Child, ChildNode, ChildText, Forest, FragmentNode, IsForest, IsNode, Node, below, below_of, children_of, contents_of, count, is_at, kind_of, nodes, parent_of}
use Rattle.h5_interface.proofs.ForestLaws.{child_is_node, document_is_node, node_of_kind, self_at}
use Rattle.h5_arena.specs.ArenaModel.{HasNotes, IsArena, form_of, forest_of}
use Rattle.h5_arena.specs.Copies.{AreCopied, IsCopied, Wanted, copied, renumbered}
use Rattle.h5_arena.specs.Copy.{AreBelowFirst}
use Rattle.h5_arena.specs.declared.attribute_names.AttributeNames.{AttributeNames}
use Rattle.h5_arena.proofs.CallConditions.{some_same}
use Rattle.h5_arena.proofs.CopyLaws.{get_left, get_right, get_there}
use Rattle.h5_arena.proofs.LevelLaws.{below_has_parent, held}

-- numbers from one on
abbrev upward : ℕ → ℕ → List ℕ
upward first zero = []
upward first (suc k) = first ∷ upward (first + 1) k

count_out : (first k c : ℕ) → c < first → count c (upward first k) ≡ 0
count_out first zero c h = refl
count_out first (suc k) c h = at (c == first) refl (count_out (first + 1) k c (omega arith))
  where
    at : (b : Bool) → (c == first) ≡ b → count c (upward (first + 1) k) ≡ 0 → count c (upward first (suc k)) ≡ 0
    at true w later = absurd (let v = eqb-true c first w in omega (arith, h))
    at false w later = rw w (omega arith)

count_in : (first k c : ℕ) → first ≤ c → c < first + k → count c (upward first k) ≡ 1
count_in first zero c l r = absurd (omega arith)
count_in first (suc k) c l r = at (c == first) refl (cases_lt first c) (λ l. count_in (first + 1) k c l (omega arith))
  where
    at : (b : Bool) → (c == first) ≡ b → (first < c) ⊎ (c ≤ first) → (first + 1 ≤ c → count c (upward (first + 1) k) ≡ 1) → count c (upward first (suc k)) ≡ 1
    at true w h later = rw w (let none = count_out (first + 1) k c (let v = eqb-true c first w in omega arith) in omega arith)
    at false w (inl h) later = rw w (let one = later (omega arith) in omega arith)
    at false w (inr h) later = let same : c ≡ first = omega arith in let v : (c == first) ≡ true = eq-eqb c first same in let u : true ≡ false = sym v ∙ w in cc

count_of : (first k c : ℕ) → 0 < count c (upward first k) → (first ≤ c) × (c < first + k)
count_of first zero c h = absurd (omega arith)
count_of first (suc k) c h = at (c == first) refl (λ some. count_of (first + 1) k c some)
  where
    at : (b : Bool) → (c == first) ≡ b → (0 < count c (upward (first + 1) k) → (first + 1 ≤ c) × (c < (first + 1) + k)) → (first ≤ c) × (c < first + suc k)
    at true w later = let v = eqb-true c first w in (omega arith, omega arith)
    at false w later = let some = (rw w at h) in let range = later (omega (arith, some)) in (omega (arith, range.0), omega (arith, range.1))

upward_push : (first k : ℕ) → upward first k ++ (first + k) ∷ [] ≡ upward first (suc k)
upward_push first zero = ap (λ m. m ∷ []) (omega arith)
upward_push first (suc k) =
    let e : first + suc k ≡ (first + 1) + k = omega arith in
    ap (λ m. first ∷ (upward (first + 1) k ++ m ∷ [])) e ∙ ap (λ l. first ∷ l) (upward_push (first + 1) k)

nodes_renumbered : (first : ℕ) (cs : List Child) → nodes (renumbered first cs) ≡ upward first (length (nodes cs))
nodes_renumbered first [] = refl
nodes_renumbered first (ChildNode n ∷ cs) = ap (λ l. first ∷ l) (nodes_renumbered (first + 1) cs)
nodes_renumbered first (ChildText t ∷ cs) = nodes_renumbered first cs

-- the nodes directly below a copy have consecutive numbers from the first on
below_copied : (first : ℕ) (parent : Option ℕ) (d : Node) → below (copied first parent d) ≡ upward first (length (below d))
below_copied first parent d = ap (λ l. l ++ option_to_list (copied first parent d).contents) (nodes_renumbered first d.children) ∙ at (nodes d.children) d.contents
  where
    at : (ns : List ℕ) (o : Option ℕ) → upward first (length ns) ++ option_to_list (option_map (λ _. first + length ns) o) ≡ upward first (length (ns ++ option_to_list o))
    at ns None = append-nil (upward first (length ns)) ∙ ap (λ l. upward first (length l)) (sym (append-nil ns))
    at ns (Some t) =
        let e : suc (length ns) ≡ length (ns ++ t ∷ []) = let l = length-append ns (t ∷ []) in omega arith in
        upward_push first (length ns) ∙ ap (upward first) e

parted_renumbered : (first : ℕ) (cs : List Child) → AreParted cs → AreParted (renumbered first cs)
parted_renumbered first [] h = tt
parted_renumbered first (ChildNode n ∷ cs) h = parted_renumbered (first + 1) cs h
parted_renumbered first (ChildText t ∷ []) h = h
parted_renumbered first (ChildText t ∷ ChildNode n ∷ cs) h = (h.0, parted_renumbered (first + 1) cs h.1)
parted_renumbered first (ChildText t ∷ ChildText u ∷ cs) h = absurd h

pub get_before : {A : Type 0} (xs ys : List A) (i : ℕ) → i < length xs → slice_get (xs ++ ys) i ≡ slice_get xs i
get_before xs ys i h = let x = get_there xs i h in get_left xs ys i x.0 x.1 ∙ sym x.1

-- a node appears below another as often as it should
one_from : (p : ℕ) (o : Option ℕ) (k : ℕ) → (o ≡ Some p → k ≡ 1) → (0 < k → o ≡ Some p) → k ≡ (if is_at p o then 1 else 0)
one_from p None k hung found =
    elim (cases_lt 0 k) [
      | inl l ↦ absurd (let v : None ≡ Some p = found l in cc)
      | inr l ↦ omega arith
    ]
one_from p (Some q) k hung found = at (p == q) refl
  where
    at : (b : Bool) → (p == q) ≡ b → k ≡ (if p == q then 1 else 0)
    at true w = rw w (hung (ap (λ x. Some x) (sym (eqb-true p q w))))
    at false w = rw w (elim (cases_lt 0 k) [
      | inl l ↦ absurd (let v : (p == q) ≡ true = eq-eqb p q (sym (some_same q p (found l))) in let u : true ≡ false = sym v ∙ w in cc)
      | inr l ↦ omega arith
    ])

module _ (ns cs : List Node) (n : ℕ) (sources : List Wanted) (whole : IsForest (forest_of ns)) (h : AreCopied (forest_of ns) n sources cs) (all : length sources ≡ length cs) where
  abbrev pub f : Forest
  f = forest_of ns

  abbrev pub g : Forest
  g = forest_of (ns ++ cs)

  abbrev base : ℕ
  base = length ns

  -- the nodes that were there, and those that are new
  pub old : (m : ℕ) → m < base → g.node m ≡ f.node m
  old m l = get_before ns cs m l

  new : (m k : ℕ) → m ≡ base + k → g.node m ≡ slice_get cs k
  new m k e = ap (slice_get (ns ++ cs)) e ∙ get_right ns cs k

  old_above : (c p : ℕ) → parent_of f c ≡ Some p → p < base
  old_above c p e = held f p whole (whole.inside p c e)

  old_child : (c p : ℕ) → parent_of f c ≡ Some p → c < base
  old_child c p e = held f c whole (child_is_node f c p e)

  -- the copy of a source
  pub copy_of : (i m : ℕ) (p : Option ℕ) → slice_get sources i ≡ Some (m, p) → (c : Node) × (slice_get cs i ≡ Some c)
  copy_of i m p e = get_there cs i (let l = slice_get_within sources i (m, p) e in omega (arith, all))

  parent_new : (c i m : ℕ) (p : Option ℕ) → c ≡ base + i → slice_get sources i ≡ Some (m, p) → parent_of g c ≡ p
  parent_new c i m p at e =
      let x = copy_of i m p e in
      let w = h.done i x.0 x.1 in
      let same = some_pair_parts w.source m w.parent p (sym w.is_wanted ∙ e) in
      ap (option_and_then (λ (d : Node). d.parent)) (new c i at ∙ x.1) ∙ ap (λ (d : Node). d.parent) w.is_copy ∙ same.1

  -- each copy but the first is directly below a copy that comes before it
  pub below_first : AreBelowFirst g base (base + length cs)
  below_first m after within = by (m - base) (omega arith) (get_there sources (m - base) (omega (arith, all)))
    where
      by : (i : ℕ) → m ≡ base + i → (w : Wanted) × (slice_get sources i ≡ Some w) → (p : ℕ) × (parent_of g m ≡ Some p) × (base ≤ p) × (p < m)
      by i at ((source, None), e) = absurd (let first = h.one_free i source e in omega (arith, first))
      by i at ((source, Some p), e) =
          let range = h.parents i source p e in
          (p, parent_new m i source (Some p) at e, omega (arith, range.0), omega (arith, at, range.2))

  wanted_new : (c i p : ℕ) → c ≡ base + i → parent_of g c ≡ Some p → (m : ℕ) × (slice_get sources i ≡ Some (m, Some p))
  wanted_new c i p at e = by (slice_get cs i) refl
    where
      by : (o : Option Node) → slice_get cs i ≡ o → (m : ℕ) × (slice_get sources i ≡ Some (m, Some p))
      by None w = absurd (let v : None ≡ Some p = sym (ap (option_and_then (λ (d : Node). d.parent)) (new c i at ∙ w)) ∙ e in cc)
      by (Some x) w =
          let k = h.done i x w in
          let v : x.parent ≡ Some p = sym (ap (option_and_then (λ (d : Node). d.parent)) (new c i at ∙ w)) ∙ e in
          let u : k.parent ≡ Some p = sym (ap (λ (d : Node). d.parent) k.is_copy) ∙ v in
          (k.source, k.is_wanted ∙ ap (λ q. Some (k.source, q)) u)

  -- the parent of each node: as before, or as it was wanted
  up : (c p : ℕ) → parent_of g c ≡ Some p → ((c < base) × (parent_of f c ≡ Some p)) ⊎ ((i : ℕ) × (m : ℕ) × (c ≡ base + i) × (slice_get sources i ≡ Some (m, Some p)))
  up c p e = elim (cases_lt c base) [
    | inl l ↦ inl (l, sym (ap (option_and_then (λ (d : Node). d.parent)) (old c l)) ∙ e)
    | inr l ↦ let at : c ≡ base + (c - base) = omega arith in let w = wanted_new c (c - base) p at e in inr (c - base, w.0, at, w.1)
  ]

  hung : (p c : ℕ) → parent_of g c ≡ Some p → count c (below_of g p) ≡ 1
  hung p c e = elim (up c p e) [
    | inl v ↦
        ap (λ o. count c (option_map_or below o [])) (old p (old_above c p v.1)) ∙ whole.one_parent p c ∙ ap (λ o. if is_at p o then 1 else 0) v.1 ∙ self_at p
    | inr v ↦
        let range = h.parents v.0 v.1 p v.3 in
        let k = p - base in
        let at : p ≡ base + k = omega (arith, range.0) in
        let x = get_there cs k (omega (arith, range.1, at)) in
        let w = h.done k x.0 x.1 in
        let stands = w.none_else v.0 v.1 (v.3 ∙ ap (λ q. Some (v.1, Some q)) at) in
        ap (λ o. count c (option_map_or below o [])) (new p k at ∙ x.1) ∙ ap (λ d. count c (below d)) w.is_copy ∙ ap (count c) (below_copied (base + w.first) w.parent w.original)
        ∙ count_in (base + w.first) (length (below w.original)) c (omega (arith, stands.0, v.2)) (omega (arith, stands.1, v.2))
  ]

  found_below : (p c k : ℕ) (x : Node) → p ≡ base + k → slice_get cs k ≡ Some x → 0 < count c (below x) → parent_of g c ≡ Some p
  found_below p c k x at e some =
      let w = h.done k x e in
      let within = count_of (base + w.first) (length (below w.original)) c (subst (λ l. 0 < count c l) (ap below w.is_copy ∙ below_copied (base + w.first) w.parent w.original) some) in
      let j = c - (base + w.first) in
      let m = get_there (below w.original) j (omega (arith, within.0, within.1)) in
      parent_new c (w.first + j) m.0 (Some (base + k)) (omega (arith, within.0)) (w.all_below j m.0 m.1) ∙ ap (λ q. Some q) (sym at)

  found : (p c : ℕ) → 0 < count c (below_of g p) → parent_of g c ≡ Some p
  found p c some = elim (cases_lt p base) [
    | inl l ↦
        let e = below_has_parent f p c whole (subst (λ o. 0 < count c (option_map_or below o [])) (old p l) some) in
        ap (option_and_then (λ (d : Node). d.parent)) (old c (old_child c p e)) ∙ e
    | inr l ↦ by (p - base) (omega arith) (slice_get cs (p - base)) refl
  ]
    where
      by : (k : ℕ) → p ≡ base + k → (o : Option Node) → slice_get cs k ≡ o → parent_of g c ≡ Some p
      by k at None w = absurd (let v = subst (λ o. 0 < count c (option_map_or below o [])) (new p k at ∙ w) some in omega (arith, v))
      by k at (Some x) w = found_below p c k x at w (subst (λ o. 0 < count c (option_map_or below o [])) (new p k at ∙ w) some)

  pub old_is_node : (p : ℕ) → IsNode f p → IsNode g p
  old_is_node p there = subst (λ o. o ≢ None) (sym (old p (held f p whole there))) there

  inside : (p c : ℕ) → parent_of g c ≡ Some p → IsNode g p
  inside p c e = elim (up c p e) [
    | inl v ↦ old_is_node p (whole.inside p c v.1)
    | inr v ↦
        let range = h.parents v.0 v.1 p v.3 in
        let at : p ≡ base + (p - base) = omega (arith, range.0) in
        let x = get_there cs (p - base) (omega (arith, range.1, at)) in
        λ z. let u : None ≡ Some x.0 = sym z ∙ new p (p - base) at ∙ x.1 in cc
  ]

  -- a node above another was above it before, or came before it
  lower : (a c : ℕ) → IsAncestor (parent_of g) a c → ((c < base) × IsAncestor (parent_of f) a c) ⊎ ((base ≤ c) × (a < c))
  lower a c (Parent e) = elim (up c a e) [
    | inl v ↦ inl (v.0, Parent v.1)
    | inr v ↦ let range = h.parents v.0 v.1 a v.3 in inr (omega (arith, v.2), omega (arith, v.2, range.2))
  ]
  lower a c (Further p w e) = elim (up c p e) [
    | inl v ↦ elim (lower a p w) [
      | inl u ↦ inl (v.0, Further p u.1 v.1)
      | inr u ↦ absurd (let l = old_above c p v.1 in omega (arith, u.0))
    ]
    | inr v ↦
        let range = h.parents v.0 v.1 p v.3 in
        elim (lower a p w) [
          | inl u ↦ absurd (omega (arith, range.0, u.0))
          | inr u ↦ inr (omega (arith, v.2), omega (arith, v.2, range.2, u.1))
        ]
  ]

  acyclic : (c : ℕ) → ¬ (IsAncestor (parent_of g) c c)
  acyclic c w = elim (lower c c w) [
    | inl v ↦ whole.acyclic c v.1
    | inr v ↦ omega (arith, v.1)
  ]

  parted : (m : ℕ) → AreParted (children_of g m)
  parted m = elim (cases_lt m base) [
    | inl l ↦ subst (λ o. AreParted (option_map_or (λ (d : Node). d.children) o [])) (sym (old m l)) (whole.parted m)
    | inr l ↦ by (m - base) (omega arith) (slice_get cs (m - base)) refl
  ]
    where
      by : (k : ℕ) → m ≡ base + k → (o : Option Node) → slice_get cs k ≡ o → AreParted (children_of g m)
      by k at None w = subst (λ o. AreParted (option_map_or (λ (d : Node). d.children) o [])) (sym (new m k at ∙ w)) tt
      by k at (Some x) w =
          let c = h.done k x w in
          let whole_there = subst (λ o. AreParted (option_map_or (λ (d : Node). d.children) o [])) c.there (whole.parted c.source) in
          subst (λ o. AreParted (option_map_or (λ (d : Node). d.children) o [])) (sym (new m k at ∙ w ∙ ap (λ d. Some d) c.is_copy))
          (parted_renumbered (base + c.first) c.original.children whole_there)

  -- a copy is of the same kind
  kind_new : (c i m : ℕ) (p : Option ℕ) → c ≡ base + i → slice_get sources i ≡ Some (m, p) → kind_of g c ≡ kind_of f m
  kind_new c i m p at e =
      let x = copy_of i m p e in
      let w = h.done i x.0 x.1 in
      let same = some_pair_parts w.source m w.parent p (sym w.is_wanted ∙ e) in
      ap (option_map (λ (d : Node). d.kind)) (new c i at ∙ x.1 ∙ ap (λ d. Some d) w.is_copy) ∙ sym (ap (option_map (λ (d : Node). d.kind)) (ap f.node (sym same.0) ∙ w.there))

  hosted : (m c : ℕ) → contents_of g m ≡ Some c → kind_of g c ≡ Some FragmentNode
  hosted m c e = elim (cases_lt m base) [
    | inl l ↦
        let is = whole.hosted m c (sym (ap (option_and_then (λ (d : Node). d.contents)) (old m l)) ∙ e) in
        ap (option_map (λ (d : Node). d.kind)) (old c (held f c whole (node_of_kind f c FragmentNode is))) ∙ is
    | inr l ↦ by (m - base) (omega arith) (slice_get cs (m - base)) refl
  ]
    where
      last : (w : Node) (t : ℕ) → w.contents ≡ Some t → slice_get (below w) (length (nodes w.children)) ≡ Some t
      last w t is =
          let z : length (nodes w.children) ≡ length (nodes w.children) + 0 = omega arith in
          ap (slice_get (below w)) z ∙ get_right (nodes w.children) (option_to_list w.contents) 0 ∙ ap (λ o. slice_get (option_to_list o) 0) is

      of : (k : ℕ) (x : Node) (w : IsCopied f sources k x) (o : Option ℕ) → w.original.contents ≡ o → option_map (λ _. (base + w.first) + length (nodes w.original.children)) o ≡ Some c → kind_of g c ≡ Some FragmentNode
      of k x w None is v = let u : None ≡ Some c = v in cc
      of k x w (Some t) is v =
          let at = some_same _ c v in
          kind_new c (w.first + length (nodes w.original.children)) t (Some (base + k)) (omega (arith, at)) (w.all_below (length (nodes w.original.children)) t (last w.original t is))
          ∙ whole.hosted w.source t (ap (option_and_then (λ (d : Node). d.contents)) w.there ∙ is)

      by : (k : ℕ) → m ≡ base + k → (o : Option Node) → slice_get cs k ≡ o → kind_of g c ≡ Some FragmentNode
      by k at None w = absurd (let v : None ≡ Some c = sym (ap (option_and_then (λ (d : Node). d.contents)) (new m k at ∙ w)) ∙ e in cc)
      by k at (Some x) w =
          let y = h.done k x w in
          of k x y y.original.contents refl (sym (ap (option_and_then (λ (d : Node). d.contents)) (new m k at ∙ w ∙ ap (λ d. Some d) y.is_copy)) ∙ e)

  -- the document is still the first node
  first_old : 0 < base
  first_old = held f 0 whole (document_is_node f whole)

  pub is_forest : IsForest g
  is_forest = record {
    bounded = λ m l. slice_get_past (ns ++ cs) m l;
    root = ap (option_map (λ (d : Node). d.kind)) (old 0 first_old) ∙ whole.root;
    one_parent = λ p c. one_from p (parent_of g c) (count c (below_of g p)) (hung p c) (found p c);
    inside = inside;
    acyclic = acyclic;
    parted = parted;
    hosted = hosted;
    top = ap (option_and_then (λ (d : Node). d.parent)) (old 0 first_old) ∙ whole.top;
  }

  -- the copy of the first source has no parent
  pub free : parent_of g base ≡ None
  free = parent_new base 0 n None (omega arith) h.start

  -- the data stored besides the tree stays right
  owner_new : (m k : ℕ) (form : ℕ) → m ≡ base + k → form_of g m ≡ Some form → ⊥
  owner_new m k form at e = by (slice_get cs k) refl
    where
      by : (o : Option Node) → slice_get cs k ≡ o → ⊥
      by None w = let v : None ≡ Some form = sym (ap (option_and_then (λ (d : Node). d.marks.form)) (new m k at ∙ w)) ∙ e in cc
      by (Some x) w =
          let c = h.done k x w in
          let v : None ≡ Some form = sym (ap (option_and_then (λ (d : Node). d.marks.form)) (new m k at ∙ w ∙ ap (λ d. Some d) c.is_copy)) ∙ e in cc

  pub notes_copied : {names : AttributeNames} → HasNotes names f → HasNotes names g
  notes_copied {names} k = record {
    owners = record {
      owner = λ m form e. elim (cases_lt m base) [
        | inl l ↦ old_is_node form (k.owners.owner m form (sym (ap (option_and_then (λ (d : Node). d.marks.form)) (old m l)) ∙ e))
        | inr l ↦ absurd (owner_new m (m - base) form (omega arith) e)
      ];
    };
    kept_names = record {
      known = λ m d e. elim (cases_lt m base) [
        | inl l ↦ k.kept_names.known m d (sym (old m l) ∙ e)
        | inr l ↦ λ found w. absurd (k.kept_names.inside m found w (whole.bounded m l))
      ];
      inside = λ m found w. old_is_node m (k.kept_names.inside m found w);
    };
  }

  -- and so an arena stays one
  pub is_arena : {names : AttributeNames} → HasNotes names f → IsArena names g
  is_arena k = record { is_forest = is_forest; notes = notes_copied k }

  pub others : (m : ℕ) → IsNode f m → g.node m ≡ f.node m
  others m there = old m (held f m whole there)
