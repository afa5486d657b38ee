-- The walk over the open elements.
use Rattle.std.proofs.Common.{ap, sym, subst, ◌∙◌, ◌≡◌, ◌+◌, ◌<◌, ◌≤◌, ℕ, zero, suc, get_or, Bool, true, false, cond, drop, take, List, [], ◌∷◌, ◌++◌, length, map, reverse, refl, arith}
use Rattle.std.proofs.lemmas.List.{length-map, length-reverse, length-take, map-append, reverse-append, reverse-reverse, take-append-le, take-map, take_all}
use Rattle.h5_names.specs.declared.qualified.QualName.{QualName}
use Rattle.h5_interface.specs.Forest.{Forest}
use Rattle.h5_interface.specs.Seen.{Seen}
use Rattle.h5_builder_spec.specs.stack.Order.{but_first}
use Rattle.h5_builder_spec.specs.stack.Scope.{cut_above, cut_through, in_scope}
use Rattle.h5_builder_spec.specs.insertion.Place.{from_foster_parent, is_foster_parent}
use Rattle.h5_builder_spec.specs.World.{name_in, names_of}
use Rattle.h5_builder_state.specs.View.{elements_of, names_under, open_node, stack_under, world}
use Rattle.h5_builder_state.specs.declared.state.State.{State}
use Rattle.h5_builder_state.proofs.AttributeLaws.{open_length}
use Rattle.h5_builder_state.proofs.SeenLaws.{seen_cut}
use Rattle.h5_builder_state.proofs.StackLaws.{stack_step}

-- the second list is what the first one ends with
pub record Suffix (s t : List ℕ) : Type 0 where
  pub front : List ℕ
  pub cut : s ≡ front ++ t

suffix_more : (n : ℕ) (s t : List ℕ) → Suffix s t → Suffix (n ∷ s) t
suffix_more n s t x = record { front = n ∷ x.front; cut = ap (λ z. n ∷ z) x.cut }

suffix_here : (s : List ℕ) → Suffix s s
suffix_here s = record { front = []; cut = refl }

suffix_later : (s t : List ℕ) → Suffix (but_first s) t → Suffix s t
suffix_later [] t x = x
suffix_later (n ∷ s) t x = suffix_more n s t x

cut_is_suffix : (is : QualName → Bool) (ns : List QualName) (s : List ℕ) → Suffix s (cut_through is ns s)
cut_is_suffix is [] s = suffix_here s
cut_is_suffix is (n ∷ ns) s =
    elim (is n) as (λ b. Suffix s (cond b (but_first s) (cut_through is ns (but_first s)))) [
      | true ↦ suffix_later s (but_first s) (suffix_here (but_first s))
      | false ↦ suffix_later s (cut_through is ns (but_first s)) (cut_is_suffix is ns (but_first s))
    ]

-- the oldest open elements are what the stack ends with
suffix_under : {H : Type 0} (node : H → ℕ) (xs : List H) (t : List ℕ) → Suffix (reverse (map node xs)) t → reverse (map node (take (length t) xs)) ≡ t
suffix_under node xs t x =
    ap reverse (sym (take-map node (length t) xs) ∙ ap (take (length t)) back ∙ take-append-le (length t) (reverse t) (reverse x.front) (omega (arith, length-reverse t)) ∙ take_all (length t) (reverse t) (omega (arith, length-reverse t)))
    ∙ reverse-reverse t
  where
    back : map node xs ≡ reverse t ++ reverse x.front
    back = sym (reverse-reverse (map node xs)) ∙ ap reverse x.cut ∙ reverse-append x.front t

above_is_suffix : (is : QualName → Bool) (ns : List QualName) (s : List ℕ) → Suffix s (cut_above is ns s)
above_is_suffix is [] s = suffix_here s
above_is_suffix is (n ∷ ns) s =
    elim (is n) as (λ b. Suffix s (cond b s (cut_above is ns (but_first s)))) [
      | true ↦ suffix_here s
      | false ↦ suffix_later s (cut_above is ns (but_first s)) (above_is_suffix is ns (but_first s))
    ]

left_under : {H : Type 0} (node : H → ℕ) (state : State H) (s t : List ℕ) (count : ℕ) → s ≡ reverse (map (open_node node) (elements_of state)) → Suffix s t → count ≡ length t → stack_under node state count ≡ t
unfolding stack_under
left_under node state s t count e x c =
    ap (λ k. reverse (map (open_node node) (take k (elements_of state)))) c
    ∙ suffix_under (open_node node) (elements_of state) t (subst (λ z. Suffix z t) e x)

-- the element at a place, its name, and what is older
pub there : {X : Type 0} (xs : List X) (i : ℕ) → i < length xs → (x : X) × (x ≡ get_or xs i x)
there [] i h = absurd (omega (arith, h))
there (x ∷ xs) zero h = (x, refl)
there (x ∷ xs) (suc i) h = there xs i (omega (arith, h))

pub names_more : {S H : Type 0} (sees : S → Seen) (node : H → ℕ) (sink : S) (state : State H) (place : ℕ) → place < length (reverse (map (open_node node) (elements_of state)))
    → (n : QualName) × (names_under sees node sink state (place + 1) ≡ n ∷ names_under sees node sink state place)
unfolding names_under
names_more sees node sink state place h =
    let elements = elements_of state in
    let inside : place < length elements = omega (arith, h, open_length (open_node node) elements) in
    let x = there elements place inside in
    (name_in (sees sink).forest (open_node node x.0), ap (map (name_in (sees sink).forest)) (stack_step (open_node node) elements place x.0 inside x.1))

pub stack_more : {H : Type 0} (node : H → ℕ) (state : State H) (place : ℕ) → place < length (reverse (map (open_node node) (elements_of state))) → (n : ℕ) × (stack_under node state (place + 1) ≡ n ∷ stack_under node state place)
unfolding stack_under
stack_more node state place h =
    let elements = elements_of state in
    let inside : place < length elements = omega (arith, h, open_length (open_node node) elements) in
    let x = there elements place inside in
    (open_node node x.0, stack_step (open_node node) elements place x.0 inside x.1)

pub names_count : {S H : Type 0} (sees : S → Seen) (node : H → ℕ) (sink : S) (state : State H) (count : ℕ) → count ≤ length (reverse (map (open_node node) (elements_of state))) → length (names_under sees node sink state count) ≡ count
unfolding names_under
names_count sees node sink state count h =
    let oldest = take count (elements_of state) in
    omega (
      arith,
      h,
      length-map (reverse (map (open_node node) oldest)) (name_in (sees sink).forest),
      open_length (open_node node) oldest,
      length-take count (elements_of state),
      open_length (open_node node) (elements_of state),
    )

-- the names of all, cut above the oldest ones
pub names_cut : {S H : Type 0} (sees : S → Seen) (node : H → ℕ) (sink : S) (state : State H) (count : ℕ) → (newer : List QualName) × (names_of (world sees node sink state) ≡ newer ++ names_under sees node sink state count)
unfolding names_of names_under world
names_cut sees node sink state count =
    let name = name_in (sees sink).forest in
    let elements = elements_of state in (
      map name (reverse (map (open_node node) (drop count elements))),
      ap (map name) (seen_cut (open_node node) elements count) ∙ map-append name (reverse (map (open_node node) (drop count elements))) (reverse (map (open_node node) (take count elements))),
    )

pub stack_count : {H : Type 0} (node : H → ℕ) (state : State H) (count : ℕ) → count ≤ length (reverse (map (open_node node) (elements_of state))) → length (stack_under node state count) ≡ count
unfolding stack_under
stack_count node state count h =
    omega (arith, h, open_length (open_node node) (take count (elements_of state)), length-take count (elements_of state), open_length (open_node node) (elements_of state))

-- the number of elements that remain of a stack that is cut
pub cut_under : {H : Type 0} (node : H → ℕ) (state : State H) (is : QualName → Bool) (ns : List QualName) (s : List ℕ) (count : ℕ) → s ≡ reverse (map (open_node node) (elements_of state))
    → count ≡ length (cut_through is ns s) → stack_under node state count ≡ cut_through is ns s
cut_under node state is ns s count e c = left_under node state s (cut_through is ns s) count e (cut_is_suffix is ns s) c

pub above_under : {H : Type 0} (node : H → ℕ) (state : State H) (is : QualName → Bool) (ns : List QualName) (s : List ℕ) (count : ℕ) → s ≡ reverse (map (open_node node) (elements_of state))
    → count ≡ length (cut_above is ns s) → stack_under node state count ≡ cut_above is ns s
above_under node state is ns s count e c = left_under node state s (cut_above is ns s) count e (above_is_suffix is ns s) c

-- the stack from a foster parent on, where one is open
from_is_cut : (f : Forest) (s : List ℕ) → in_scope is_foster_parent (λ n. false) (map (name_in f) s) ≡ true
    → Suffix s (from_foster_parent f s) × (length (from_foster_parent f s) ≡ suc (length (cut_through is_foster_parent (map (name_in f) s) s)))
from_is_cut f [] h = absurd (cc)
from_is_cut f (n ∷ s) h =
    (elim (is_foster_parent (name_in f n)) as (λ b. cond b true (in_scope is_foster_parent (λ m. false) (map (name_in f) s)) ≡ true
    → Suffix (n ∷ s) (cond b (n ∷ s) (from_foster_parent f s))
    × (length (cond b (n ∷ s) (from_foster_parent f s)) ≡ suc (length (cond b s (cut_through is_foster_parent (map (name_in f) s) s))))) [
      | true ↦ λ e. (suffix_here (n ∷ s), refl)
      | false ↦ λ e. let later = from_is_cut f s e in (suffix_more n s (from_foster_parent f s) later.0, later.1)
    ]) h

pub foster_under : {H : Type 0} (node : H → ℕ) (state : State H) (f : Forest) (s : List ℕ) (at : ℕ) → s ≡ reverse (map (open_node node) (elements_of state))
    → in_scope is_foster_parent (λ n. false) (map (name_in f) s) ≡ true → at ≡ length (cut_through is_foster_parent (map (name_in f) s) s) → stack_under node state (at + 1) ≡ from_foster_parent f s
unfolding stack_under
foster_under node state f s at e h c =
    let from = from_is_cut f s h in
    ap (λ k. reverse (map (open_node node) (take k (elements_of state)))) (omega (arith, c, from.1))
    ∙ suffix_under (open_node node) (elements_of state) (from_foster_parent f s) (subst (λ z. Suffix z (from_foster_parent f s)) e from.0)

pub cut_inside : (is : QualName → Bool) (ns : List QualName) (s : List ℕ) → length s ≡ length ns → in_scope is (λ n. false) ns ≡ true → length (cut_through is ns s) < length s
cut_inside is [] s e h = absurd (cc)
cut_inside is (n ∷ ns) [] e h = absurd (omega arith)
cut_inside is (n ∷ ns) (m ∷ s) e h =
    (elim (is n) as (λ b. cond b true (in_scope is (λ k. false) ns) ≡ true → length (cond b s (cut_through is ns s)) < suc (length s)) [
      | true ↦ λ k. omega arith
      | false ↦ λ k. let later = cut_inside is ns s (omega arith) k in omega (arith, later)
    ]) h

-- if no foster parent is open
pub no_foster : (f : Forest) (s : List ℕ) → in_scope is_foster_parent (λ n. false) (map (name_in f) s) ≡ false → from_foster_parent f s ≡ []
no_foster f [] h = refl
no_foster f (n ∷ s) h =
    (elim (is_foster_parent (name_in f n)) as (λ b. cond b true (in_scope is_foster_parent (λ m. false) (map (name_in f) s)) ≡ false → cond b (n ∷ s) (from_foster_parent f s) ≡ []) [
      | true ↦ λ e. absurd (cc)
      | false ↦ λ e. no_foster f s e
    ]) h
