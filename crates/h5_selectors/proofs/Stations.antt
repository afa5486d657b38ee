-- The conditions after the combinators along a condition, and their tables.
use Rattle.std.proofs.Common.{◌≡◌, ◌∙◌, ◌≤◌, Bool, true, false, ◌&&◌, ◌||◌, List, [], ◌∷◌, ◌++◌, Bor, ap, append_assoc, arith, map, refl, sym}
use Rattle.std.specs.Prelude.{not}
use Rattle.std.proofs.lemmas.List.{map-append}
use Rattle.h5_selectors.specs.Tables.{stations_of}
use Rattle.h5_selectors.specs.Waiting.{size_of}
use Rattle.h5_selectors.specs.declared.formula.Formula.{Formula, Any, Name, Id, Class, Attr, Root, Scope, Empty, Link, Html, Lang, NthOfType, Nth', Not', And', Or', Leads'}

none : {A : Type 0} (xs : List Formula) (y : Formula) (done : List Formula) → [] ≡ xs ++ y ∷ done → A
none [] y done e = absurd (cc)
none (x ∷ xs) y done e = absurd (cc)

-- of one of them, they are those after it
pub stations_along : (formula : Formula) (xs : List Formula) (y : Formula) (done : List Formula) → stations_of formula ≡ xs ++ y ∷ done → (stations_of y ≡ done) × (size_of y ≤ size_of formula)
stations_along (And' p one q other) xs y done e = let rest = stations_along other xs y done e in (rest.0, omega (arith, rest.1))
stations_along (Leads' way p inner) [] y done e =
    let same : inner ≡ y = cc in
    let further : stations_of inner ≡ done = cc in
    let size = ap size_of same in
    (ap stations_of (sym same) ∙ further, omega (arith, size))
stations_along (Leads' way p inner) (x ∷ xs) y done e =
    let further : stations_of inner ≡ xs ++ y ∷ done = cc in
    let rest = stations_along inner xs y done further in
    (rest.0, omega (arith, rest.1))
stations_along Any xs y done e = none xs y done e
stations_along (Name written) xs y done e = none xs y done e
stations_along (Id text) xs y done e = none xs y done e
stations_along (Class text) xs y done e = none xs y done e
stations_along (Attr test) xs y done e = none xs y done e
stations_along Root xs y done e = none xs y done e
stations_along Scope xs y done e = none xs y done e
stations_along Empty xs y done e = none xs y done e
stations_along Link xs y done e = none xs y done e
stations_along Html xs y done e = none xs y done e
stations_along (Lang ranges) xs y done e = none xs y done e
stations_along (NthOfType indices side) xs y done e = none xs y done e
stations_along (Nth' indices side p of) xs y done e = none xs y done e
stations_along (Not' p inner) xs y done e = none xs y done e
stations_along (Or' p one q other) xs y done e = none xs y done e

-- the last one, taken off
pub popped : (stations left : List (Bor Formula)) (station : Bor Formula) (done : List Formula) {all : List Formula} → stations ≡ left ++ station ∷ [] → map (λ (f : Bor Formula). f.now) stations ++ done ≡ all
    → all ≡ map (λ (f : Bor Formula). f.now) left ++ station.now ∷ done
popped stations left station done split is =
    let now = λ (f : Bor Formula). f.now in
    sym is ∙ ap (λ list. map now list ++ done) split ∙ ap (λ list. list ++ done) (map-append now left (station ∷ [])) ∙ append_assoc (map now left) (station.now ∷ []) done

-- what is left of a set after one test, and after another
pub left_parts : (set one other left : Bool) → left ≡ (set && not one) → (left && not other) ≡ (set && not (one || other))
left_parts true true other left e = ap (λ b. b && not other) e
left_parts true false other left e = ap (λ b. b && not other) e
left_parts false one other left e = ap (λ b. b && not other) e

-- what isn't left
pub not_left : (set test left : Bool) → left ≡ (set && not test) → (set && not left) ≡ (set && test)
not_left true true left e = ap (λ b. true && not b) e
not_left true false left e = ap (λ b. true && not b) e
not_left false test left e = refl

-- a part of a set, by a table of that part
pub left_of : (set one first left : Bool) → first ≡ (set && one) → left ≡ (set && not first) → left ≡ (set && not one)
left_of true one first left is e = e ∙ ap not is
left_of false one first left is e = e
