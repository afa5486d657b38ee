-- The selected elements, by the rows that a table leaves.
use Rattle.std.proofs.Common.{◌≡◌, ◌∙◌, ℕ, ◌+◌, ◌<◌, Bool, true, false, All, List, [], ◌∷◌, ◌++◌, Option, None, Some, ap, append_assoc, arith, cond, drop, get_or, length, map, refl, subst, sym}
use Rattle.std.specs.Prelude.{Err, IfOk, IfSome, Ok, Result, not, slice_get}
use Rattle.std.specs.List.{filter}
use Rattle.std.specs.Option.{option_map}
use Rattle.std.proofs.lemmas.List.{drop-map, drop_more, get_or-map, length-map, map-append}
use Rattle.std.proofs.lemmas.List.Elements.{All-filter, filter_passes}
use Rattle.h5_interface.specs.Forest.{Forest}
use Rattle.h5_interface.specs.declared.marks.QuirksMode.{QuirksMode}
use Rattle.h5_tree.specs.Elements.{elements, is_element}
use Rattle.h5_tree.specs.Shape.{IsShaped}
use Rattle.h5_tree.proofs.ShapedLaws.{element_is_held}
use Rattle.h5_selectors.specs.Holds.{matches}
use Rattle.h5_selectors.specs.Query.{context, matches_by}
use Rattle.h5_selectors.specs.Selected.{is_quirky, matches_in, scope_in}
use Rattle.h5_selectors.specs.declared.formula.Formula.{Formula}

-- one row more is taken
module _ {N : Type 0} (place : N → ℕ) (test : ℕ → Bool) (ids : List N) (at : ℕ) (d : N) (within : at < length ids) (found : List N) (total : List ℕ) where
  abbrev here : N
  here = get_or ids at d

  abbrev n : ℕ
  n = place here

  abbrev rest : List ℕ
  rest = map place (drop (at + 1) ids)

  asked : test (get_or (map place ids) at 0) ≡ test n
  asked = ap test (get_or-map place ids at d 0 within)

  next : map place found ++ cond (test n) (n ∷ filter test rest) (filter test rest) ≡ map place found ++ filter test (map place (drop at ids))
  next = ap (λ l. map place found ++ filter test (map place l)) (sym (drop_more ids at d within))

  pub one_taken : false ≡ not (test (get_or (map place ids) at 0)) → map place found ++ filter test (map place (drop at ids)) ≡ total → map place (found ++ here ∷ []) ++ filter test rest ≡ total
  one_taken left h =
      ap (λ l. l ++ filter test rest) (map-append place found (here ∷ []))
      ∙ append_assoc (map place found) (n ∷ []) (filter test rest)
      ∙ ap (λ b. map place found ++ cond b (n ∷ filter test rest) (filter test rest)) (sym (is_taken (test n) (left ∙ ap not asked)))
      ∙ next
      ∙ h
    where
      is_taken : (b : Bool) → false ≡ not b → b ≡ true
      is_taken true e = refl
      is_taken false e = cc

pub none_taken : {N : Type 0} (place : N → ℕ) (test : ℕ → Bool) (ids : List N) (at : ℕ) → at < length ids → (found : List N) (total : List ℕ) → true ≡ not (test (get_or (map place ids) at 0))
    → map place found ++ filter test (map place (drop at ids)) ≡ total → map place found ++ filter test (map place (drop (at + 1) ids)) ≡ total
none_taken place test ids at within found total left h =
    let ns : List ℕ = map place ids in
    let n : ℕ = get_or ns at 0 in
    let rest : List ℕ = filter test (drop (at + 1) ns) in
    let lt : at < length ns = (let same = length-map ids place in omega (arith, within, same)) in
    ap (λ l. map place found ++ filter test l) (sym (drop-map place (at + 1) ids))
    ∙ ap (λ b. map place found ++ cond b (n ∷ rest) rest) (sym (is_left (test n) left))
    ∙ ap (λ l. map place found ++ filter test l) (sym (drop_more ns at 0 lt))
    ∙ ap (λ l. map place found ++ filter test l) (drop-map place at ids)
    ∙ h
  where
    is_left : (b : Bool) → true ≡ not b → b ≡ false
    is_left true e = cc
    is_left false e = refl

-- a query with a node as its scope asks what the definitions ask
module _ (f : Forest) (mode : QuirksMode) (n : ℕ) (quirky : Bool) (scope : Option ℕ) (scope_is : scope ≡ scope_in f n) (quirky_is : quirky ≡ is_quirky mode) where
  pub asks_same : (list : List Formula) → matches_by (context f quirky scope) list ≡ matches_in f mode n list
  asks_same list = ap (λ b. matches f b scope list) quirky_is ∙ ap (λ o. matches f (is_quirky mode) o list) scope_is

-- those after the first
pub behind_first : {N : Type 0} (place : N → ℕ) (ids : List N) (n : ℕ) (under : List ℕ) → map place ids ≡ n ∷ under → map place (drop 1 ids) ≡ under
behind_first place ids n under are = sym (drop-map place 1 ids) ∙ ap (drop 1) are

pub if_ok : {T E : Type 0} (P Q : T → Type 0) (r : Result T E) → ((x : T) → P x → Q x) → IfOk r P → IfOk r Q
if_ok P Q (Ok x) f h = f x h
if_ok P Q (Err e) f h = h

-- elements are nodes
module _ (f : Forest) (k : IsShaped f) (test : ℕ → Bool) where
  abbrev IsHeld : ℕ → Type 0
  IsHeld m = m < f.bound

  each_held : (ns : List ℕ) → All IsHeld (elements f ns)
  each_held ns i d lt = element_is_held f (get_or (elements f ns) i d) k (filter_passes (is_element f) ns i d lt)

  some_held : (ns : List ℕ) → All IsHeld (filter test (elements f ns))
  some_held ns = All-filter test IsHeld (elements f ns) (each_held ns)

  -- those that are found, and the first of them
  pub all_held : {N : Type 0} (place : N → ℕ) (found : List N) (ns : List ℕ) → map place found ≡ filter test (elements f ns) → All (λ x. place x < f.bound) found
  all_held place found ns are i d lt =
      let all = filter test (elements f ns) in
      let same = length-map found place in
      let here : get_or all i (place d) ≡ place (get_or found i d) = ap (λ l. get_or l i (place d)) (sym are) ∙ get_or-map place found i d (place d) lt in
      subst IsHeld here (some_held ns i (place d) (let count = ap length are in omega (arith, lt, same, count)))

  first_of : {N : Type 0} (place : N → ℕ) (o : Option N) (all : List ℕ) → All IsHeld all → option_map place o ≡ slice_get all 0 → IfSome o (λ x. place x < f.bound)
  first_of place None all held e = tt
  first_of place (Some x) [] held e = cc
  first_of place (Some x) (m ∷ ms) held e =
      let same : m ≡ place x = cc in
      subst IsHeld same (held 0 m (omega arith))

  pub first_held : {N : Type 0} (place : N → ℕ) (o : Option N) (ns : List ℕ) → option_map place o ≡ slice_get (filter test (elements f ns)) 0 → IfSome o (λ x. place x < f.bound)
  first_held place o ns e = first_of place o (filter test (elements f ns)) (some_held ns) e
