-- Conditions that wait to be tested, step by step.
use Rattle.std.proofs.Common.{◌≡◌, ◌∙◌, ℕ, ◌+◌, ◌<◌, ◌≤◌, Bool, true, false, ◌&&◌, ◌||◌, List, [], ◌∷◌, ◌++◌, ap, arith, get_or, length, map, refl, subst, sym, take}
use Rattle.std.specs.Prelude.{Err, IfOk, Ok, Result, not}
use Rattle.std.specs.declared.alloc.AllocError.{AllocError}
use Rattle.std.specs.List.{list_any}
use Rattle.std.proofs.lemmas.List.{map-append, take_more}
use Rattle.std.proofs.lemmas.List.Folds.{list_any-append}
use Rattle.h5_interface.specs.Forest.{Forest}
use Rattle.h5_selectors.specs.Query.{Context, holds_by, seen_by}
use Rattle.h5_selectors.specs.Waiting.{AreAdded, AreSteps, AreTested, IsStep, Waits, seen, seen_one, size_of, step_holds, sum_of, tests_by, tests_left, tests_of}
use Rattle.h5_selectors.specs.declared.formula.Formula.{Formula, Any, Name, Id, Class, Attr, Root, Scope, Empty, Link, Html, Lang, NthOfType, Nth', Not', And', Or', Leads'}
use Rattle.h5_selectors.specs.declared.holds.Step.{Step}

or_false : (a : Bool) → (a || false) ≡ a
or_false true = refl
or_false false = refl

or_swap : (a b : Bool) → (a || b) ≡ (b || a)
or_swap true true = refl
or_swap true false = refl
or_swap false true = refl
or_swap false false = refl

or_three : (a b o : Bool) → (b || (a || o)) ≡ ((a || b) || o)
or_three true true o = refl
or_three true false o = refl
or_three false true o = refl
or_three false false o = refl

pub not_not : (b : Bool) → not b ≡ false → b ≡ true
not_not true e = refl
not_not false e = cc

pub both_true : (one other : Bool) → one ≡ true → other ≡ (one && other)
both_true true other e = refl
both_true false other e = cc

sum_append : {A : Type 0} (number : A → ℕ) (xs ys : List A) → sum_of number (xs ++ ys) ≡ sum_of number xs + sum_of number ys
sum_append number [] ys = omega arith
sum_append number (x ∷ xs) ys = let e = sum_append number xs ys in omega (arith, e)

steps_push : (query : Context) (most : ℕ) (steps : List Waits) (step : Waits) → AreSteps query most steps → IsStep query most step → AreSteps query most (steps ++ step ∷ [])
steps_push query most [] step all one = (one, tt)
steps_push query most (first ∷ steps) step all one = (all.0, steps_push query most steps step all.1 one)

pub steps_last : (query : Context) (most : ℕ) (steps : List Waits) (step : Waits) → AreSteps query most (steps ++ step ∷ []) → AreSteps query most steps × IsStep query most step
steps_last query most [] step all = (tt, all.0)
steps_last query most (first ∷ steps) step all = let rest = steps_last query most steps step all.1 in ((all.0, rest.0), rest.1)

-- each condition takes a test
tests_least : (f : Forest) (formula : Formula) (n : ℕ) → 0 < tests_of f formula n
tests_least f Any n = omega arith
tests_least f (Name written) n = omega arith
tests_least f (Id text) n = omega arith
tests_least f (Class text) n = omega arith
tests_least f (Attr test) n = omega arith
tests_least f Root n = omega arith
tests_least f Scope n = omega arith
tests_least f Empty n = omega arith
tests_least f Link n = omega arith
tests_least f Html n = omega arith
tests_least f (Lang ranges) n = omega arith
tests_least f (NthOfType indices side) n = omega arith
tests_least f (Nth' indices side p of) n = omega arith
tests_least f (Not' p inner) n = omega arith
tests_least f (And' p one q other) n = omega arith
tests_least f (Or' p one q other) n = omega arith
tests_least f (Leads' way p inner) n = omega arith

-- one more waits
pub pushed : (query : Context) (before : List Waits) (step : Waits)
    → AreAdded query (step_holds query step) (tests_by query step.formula step.node) step.formula before (before ++ step ∷ [])
pushed query before step = record {
  same = list_any-append (step_holds query) before (step ∷ []) ∙ or_swap (list_any (step_holds query) before) (step_holds query step || false) ∙ ap (λ b. b || list_any (step_holds query) before) (or_false (step_holds query step));
  count = let e = sum_append (λ (s : Waits). tests_by query s.formula s.node) before (step ∷ []) in omega (arith, e);
  steps = λ most le all. steps_push query most before step all le;
}

-- some wait, and then more do; a larger condition
pub added_both : {query : Context} {one other : Bool} {tests more : ℕ} {formula : Formula} {before between after : List Waits}
    → AreAdded query one tests formula before between → AreAdded query other more formula between after → AreAdded query (one || other) (tests + more) formula before after
added_both {query} {one} {other} {tests} {more} {formula} {before} {between} {after} first next = record {
  same = next.same ∙ ap (λ b. other || b) first.same ∙ or_three one other (list_any (step_holds query) before);
  count = omega (arith, first.count, next.count);
  steps = λ most le all. next.steps most le (first.steps most le all);
}

pub added_larger : {query : Context} {answer : Bool} {tests : ℕ} {before after : List Waits} (inner formula : Formula) → size_of inner ≤ size_of formula
    → AreAdded query answer tests inner before after → AreAdded query answer tests formula before after
added_larger inner formula le added = record {
  same = added.same;
  count = added.count;
  steps = λ most under all. added.steps most (omega (arith, le, under)) all;
}

-- the answer is known at once
pub settled : (query : Context) (formula : Formula) (n : ℕ) (answer : Bool) (before : List Waits) → answer ≡ holds_by query formula n → AreTested query formula n answer before before
settled query formula n answer before is = record {
  same = ap (λ b. b || list_any (step_holds query) before) is;
  fewer = let least = tests_least (seen_by query) formula n in omega (arith, least);
  steps = λ most le all. all;
}

pub settled_by : (query : Context) (formula : Formula) (n : ℕ) (before : List Waits) (r : Result Bool AllocError) → IfOk r (λ answer. answer ≡ holds_by query formula n)
    → IfOk r (λ answer. AreTested query formula n answer before before)
settled_by query formula n before (Ok answer) is = settled query formula n answer before is
settled_by query formula n before (Err error) is = tt

-- others wait for it
pub waited : (query : Context) (formula : Formula) (n : ℕ) {answer : Bool} {tests : ℕ} {before after : List Waits}
    → AreAdded query answer tests formula before after → answer ≡ holds_by query formula n → tests < tests_by query formula n → AreTested query formula n false before after
waited query formula n {answer} {tests} {before} {after} added is fewer = record {
  same = added.same ∙ ap (λ b. b || list_any (step_holds query) before) is;
  fewer = omega (arith, added.count, fewer);
  steps = added.steps;
}

-- a list of elements, one more of which waits
pub one_more : {N : Type 0} (place : N → ℕ) (query : Context) (formula : Formula) (list : List N) (i : ℕ) (d : N) (step : Waits) (before between : List Waits) → i < length list → step.formula ≡ formula → step.node ≡ place (get_or list i d)
    → AreAdded query (list_any (holds_by query formula) (map place (take i list))) (sum_of (tests_by query formula) (map place (take i list))) formula before between
    → AreAdded query (list_any (holds_by query formula) (map place (take (i + 1) list))) (sum_of (tests_by query formula) (map place (take (i + 1) list))) formula before (between ++ step ∷ [])
one_more place query formula list i d step before between lt is here so_far =
    let n = step.node in
    let next = pushed query between step in
    let split : map place (take (i + 1) list) ≡ map place (take i list) ++ n ∷ [] = ap (map place) (take_more list i d lt) ∙ map-append place (take i list) (get_or list i d ∷ []) ∙ ap (λ (m : ℕ). map place (take i list) ++ m ∷ []) (sym here) in
    let any : list_any (holds_by query formula) (map place (take (i + 1) list)) ≡ (list_any (holds_by query formula) (map place (take i list)) || step_holds query step) =
    ap (list_any (holds_by query formula)) split ∙ list_any-append (holds_by query formula) (map place (take i list)) (n ∷ []) ∙ ap (λ b. list_any (holds_by query formula) (map place (take i list)) || b) (or_false (holds_by query formula n))
    ∙ ap (λ (it : Formula). list_any (holds_by query formula) (map place (take i list)) || holds_by query it n) (sym is) in
    let sum : sum_of (tests_by query formula) (map place (take (i + 1) list)) ≡ sum_of (tests_by query formula) (map place (take i list)) + (tests_by query formula n + 0) =
    ap (sum_of (tests_by query formula)) split ∙ sum_append (tests_by query formula) (map place (take i list)) (n ∷ []) in
    let same_tests : tests_by query step.formula n ≡ tests_by query formula n = ap (λ (it : Formula). tests_by query it n) is in
    let size : size_of step.formula ≡ size_of formula = ap size_of is in
    record {
      same = next.same ∙ ap (λ b. step_holds query step || b) so_far.same ∙ or_three (list_any (holds_by query formula) (map place (take i list))) (step_holds query step) (list_any (step_holds query) before)
          ∙ ap (λ b. b || list_any (step_holds query) before) (sym any);
      count = omega (arith, next.count, so_far.count, sum, same_tests);
      steps = λ most le all. next.steps most (omega (arith, size, le)) (so_far.steps most le all);
    }

-- the last of those that wait was taken, and tested
pub all_waiting : (query : Context) (steps rest : List Waits) (step : Waits) {answer : Bool} (after : List Waits) (total : Bool) → steps ≡ rest ++ step ∷ [] → AreTested query step.formula step.node answer rest after
    → list_any (step_holds query) steps ≡ total → (answer || list_any (step_holds query) after) ≡ total
all_waiting query steps rest step {answer} after total split h is =
    h.same ∙ ap (λ b. b || list_any (step_holds query) rest) (sym (or_false (step_holds query step))) ∙ or_swap (step_holds query step || false) (list_any (step_holds query) rest)
    ∙ sym (list_any-append (step_holds query) rest (step ∷ [])) ∙ ap (list_any (step_holds query)) (sym split) ∙ is

pub fewer_left : (query : Context) (steps rest : List Waits) (step : Waits) (after : List Waits) → steps ≡ rest ++ step ∷ [] → tests_left query after < tests_by query step.formula step.node + tests_left query rest
    → tests_left query after < tests_left query steps
fewer_left query steps rest step after split fewer =
    let e = ap (tests_left query) split in
    let s = sum_append (λ (it : Waits). tests_by query it.formula it.node) rest (step ∷ []) in
    omega (arith, e, s, fewer)

-- one waits for the answer of a condition, two do, or one for each element of a list
pub one_waits : (query : Context) (formula : Formula) (n : ℕ) (step : Waits) (before after : List Waits) → after ≡ before ++ step ∷ [] → step_holds query step ≡ holds_by query formula n
    → tests_by query step.formula step.node < tests_by query formula n → size_of step.formula ≤ size_of formula → AreTested query formula n false before after
one_waits query formula n step before after e is fewer le =
    subst (AreTested query formula n false before) (sym e) (waited query formula n (added_larger step.formula formula le (pushed query before step)) is fewer)

pub two_wait : (query : Context) (formula : Formula) (n : ℕ) (one other : Waits) (before between after : List Waits) → between ≡ before ++ other ∷ [] → after ≡ between ++ one ∷ []
    → (step_holds query one || step_holds query other) ≡ holds_by query formula n
    → tests_by query one.formula one.node + tests_by query other.formula other.node < tests_by query formula n
    → size_of one.formula ≤ size_of formula → size_of other.formula ≤ size_of formula → AreTested query formula n false before after
two_wait query formula n one other before between after e e' is fewer le le' =
    let first : AreAdded query (step_holds query other) (tests_by query other.formula other.node) formula before between =
    subst (AreAdded query (step_holds query other) (tests_by query other.formula other.node) formula before) (sym e) (added_larger other.formula formula le' (pushed query before other)) in
    let next : AreAdded query (step_holds query one) (tests_by query one.formula one.node) formula between after =
    subst (AreAdded query (step_holds query one) (tests_by query one.formula one.node) formula between) (sym e') (added_larger one.formula formula le (pushed query between one)) in
    waited query formula n (added_both first next) (or_swap (step_holds query other) (step_holds query one) ∙ is) (omega (arith, fewer))

pub each_waits : (query : Context) (formula inner : Formula) (n : ℕ) (list list' : List ℕ) (before after : List Waits) → list ≡ list' → AreAdded query (list_any (holds_by query inner) list) (sum_of (tests_by query inner) list) inner before after
    → list_any (holds_by query inner) list' ≡ holds_by query formula n → sum_of (tests_by query inner) list' < tests_by query formula n → size_of inner ≤ size_of formula → AreTested query formula n false before after
each_waits query formula inner n list list' before after same added is fewer le =
    let e = ap (sum_of (tests_by query inner)) same in
    waited query formula n (added_larger inner formula le added) (ap (list_any (holds_by query inner)) same ∙ is) (omega (arith, e, fewer))

-- one more step waits, as it is seen
pub seen_push : {N : Type 0} (place : N → ℕ) (before after : List (Step N)) (step : Step N) → after ≡ before ++ step ∷ [] → seen place after ≡ seen place before ++ seen_one place step ∷ []
seen_push place before after step e = ap (seen place) e ∙ map-append (seen_one place) before (step ∷ [])
