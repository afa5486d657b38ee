-- Pieces, one after another, step by step.
use Rattle.std.proofs.Common.{◌≡◌, ◌∙◌, ℕ, suc, zero, ◌+◌, ◌-◌, ◌<◌, ◌≤◌, Bool, true, false, List, [], ◌++◌, ap, arith, refl}
use Rattle.std.specs.Prelude.{◌||◌, Option, None, Some, is_some, option_to_list}
use Rattle.std.specs.Option.{option_map_or}
use Rattle.h5_selectors.specs.Tokens.{Reading, begins, component_at, components_within, joined, pieces_within, reading}

-- if there is none
pub pieces_stop : {A : Type 0} (piece : List ℕ → Option (Reading (List A))) (n : ℕ) (text : List ℕ) → piece text ≡ None → pieces_within piece n text ≡ reading [] text
unfolding pieces_within
pieces_stop piece zero text h = refl
pieces_stop piece (suc n) text h = ap (λ o. joined o (pieces_within piece n) text) h

-- if the limit is reached
pub pieces_done : {A : Type 0} (piece : List ℕ → Option (Reading (List A))) (end step : ℕ) (text : List ℕ) → end ≤ step → pieces_within piece (end - step) text ≡ reading [] text
unfolding pieces_within
pieces_done piece end step text le = let e : end - step ≡ 0 = omega arith in ap (λ n. pieces_within piece n text) e

-- if there is another
pub pieces_more : {A : Type 0} (piece : List ℕ → Option (Reading (List A))) (end step : ℕ) (text : List ℕ) (next : Reading (List A)) → step < end → piece text ≡ Some next
    → pieces_within piece (end - step) text ≡ reading (next.value ++ (pieces_within piece (end - (step + 1)) next.rest).value) (pieces_within piece (end - (step + 1)) next.rest).rest
unfolding pieces_within
pieces_more piece end step text next lt h =
    let e : end - step ≡ suc (end - (step + 1)) = omega arith in
    ap (λ n. pieces_within piece n text) e ∙ ap (λ o. joined o (pieces_within piece (end - (step + 1))) text) h

-- true if whitespace was found, with one more or a comment
pub spaced_more : (found : Bool) (blank : Option ℕ) (left : List ℕ) → ((found || is_some blank) || begins (λ _. true) left) ≡ (found || begins (λ _. true) (option_to_list blank ++ left))
spaced_more true blank left = refl
spaced_more false None left = refl
spaced_more false (Some c) left = refl

-- with nothing more
pub found_only : (found : Bool) → found ≡ (found || begins (λ _. true) [])
found_only true = refl
found_only false = refl

-- component values: if there is none, if the limit is reached, and if there is another
pub components_stop : (n : ℕ) (missing text : List ℕ) → component_at missing text ≡ None → components_within n missing text ≡ text
unfolding components_within
components_stop zero missing text h = refl
components_stop (suc n) missing text h = ap (λ o. option_map_or (λ (one : Reading (List ℕ)). components_within n one.value one.rest) o text) h

pub components_done : (end step : ℕ) (missing text : List ℕ) → end ≤ step → components_within (end - step) missing text ≡ text
unfolding components_within
components_done end step missing text le = let e : end - step ≡ 0 = omega arith in ap (λ n. components_within n missing text) e

pub components_more : (end step : ℕ) (missing text : List ℕ) (next : Reading (List ℕ)) → step < end → component_at missing text ≡ Some next
    → components_within (end - step) missing text ≡ components_within (end - (step + 1)) next.value next.rest
unfolding components_within
components_more end step missing text next lt h =
    let e : end - step ≡ suc (end - (step + 1)) = omega arith in
    ap (λ n. components_within n missing text) e ∙ ap (λ o. option_map_or (λ (one : Reading (List ℕ)). components_within (end - (step + 1)) one.value one.rest) o text) h
