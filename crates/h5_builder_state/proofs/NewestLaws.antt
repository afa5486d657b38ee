-- The place of the newest element of a kind, and the elements in scope.
use Rattle.std.proofs.Common.{◌≡◌, ◌≢◌, ◌+◌, ◌-◌, ◌<◌, ◌≤◌, ℕ, suc, nat_lt, nat_le, Bool, true, false, cond, ◌&&◌, ◌||◌, ◌==◌, List, [], ◌∷◌, ◌++◌, Option, Some, None, MatchOption, is_some, length, map, refl, ap, sym, ◌∙◌, arith}
use Rattle.std.proofs.lemmas.Bool.{eqb-false, eqb-true, le-leb, le-ltb, lt-leb, lt-ltb}
use Rattle.std.proofs.lemmas.List.{length-append, length-map}
use Rattle.std.specs.List.{list_any}
use Rattle.h5_names.specs.declared.qualified.QualName.{QualName}
use Rattle.h5_builder_state.specs.Numbered.{newest_of}
use Rattle.h5_builder_spec.specs.stack.Scope.{cut_above, cut_through, in_scope, oldest_of, oldest_passing}
use Rattle.std.proofs.lemmas.List.Folds.{list_any-append}
use Rattle.std.proofs.lemmas.Slice.Eq.{bytes_eq-Decides}
use Rattle.h5_names.specs.AttributeText.{is_same_text}
use Rattle.h5_names.proofs.KnownNameLemmas.{same_tests}
use Rattle.h5_builder_spec.specs.stack.Closing.{is_html_among}
use Rattle.h5_tables.specs.TagSets.{html_namespace, is_html_named, is_one_of}
use Rattle.h5_builder_state.specs.Newest.{is_foreign_named, newer_of, newest_where, oldest_where, place_before}
use Rattle.h5_builder_state.specs.Numbers.{foreign_number, html_number, name_number}
use Rattle.h5_builder_state.specs.declared.name_numbers.NameNumbers.{NameNumbers}
use Rattle.h5_builder_state.proofs.NumberLaws.{foreign_none, has_foreign, has_none, has_number}

pub newest_le : (is : QualName → Bool) (names : List QualName) → newest_where is names ≤ length names
newest_le is [] = omega arith
newest_le is (n ∷ ns) = at (is n) (newest_le is ns)
  where
    at : (b : Bool) → newest_where is ns ≤ length ns → cond b (length ns + 1) (newest_where is ns) ≤ suc (length ns)
    at true h = omega arith
    at false h = omega (arith, h)

pub newest_later : (is : QualName → Bool) (n : QualName) (older : List QualName) → is n ≡ false → newest_where is (n ∷ older) ≡ newest_where is older
newest_later is n older h = ap (λ b. cond b (length older + 1) (newest_where is older)) h

is_before : (here end : ℕ) → 0 < here → end ≤ here → (nat_lt 0 here && nat_le end here) ≡ true
is_before here end h k = rw (lt-ltb 0 here h, le-leb end here k) refl

is_behind : (here end : ℕ) → here < end → (nat_lt 0 here && nat_le end here) ≡ false
is_behind here end h = ap (λ b. nat_lt 0 here && b) (lt-leb end here h) ∙ and_false (nat_lt 0 here)
  where
    and_false : (b : Bool) → (b && false) ≡ false
    and_false true = refl
    and_false false = refl

-- what is looked for is in scope exactly if nothing that ends the scope is newer
pub in_scope_newest : (is ends : QualName → Bool) (names : List QualName) → in_scope is ends names ≡ (nat_lt 0 (newest_where is names) && nat_le (newest_where ends names) (newest_where is names))
in_scope_newest is ends [] = refl
in_scope_newest is ends (n ∷ ns) = at (is n) (ends n) (in_scope_newest is ends ns) (newest_le is ns) (newest_le ends ns)
  where
    at : (a b : Bool) → in_scope is ends ns ≡ (nat_lt 0 (newest_where is ns) && nat_le (newest_where ends ns) (newest_where is ns)) → newest_where is ns ≤ length ns → newest_where ends ns ≤ length ns
        → cond a true (cond b false (in_scope is ends ns))
        ≡ (nat_lt 0 (cond a (length ns + 1) (newest_where is ns)) && nat_le (cond b (length ns + 1) (newest_where ends ns)) (cond a (length ns + 1) (newest_where is ns)))
    at true true h l m = sym (is_before (length ns + 1) (length ns + 1) (omega arith) (omega arith))
    at true false h l m = sym (is_before (length ns + 1) (newest_where ends ns) (omega arith) (omega (arith, m)))
    at false true h l m = sym (is_behind (newest_where is ns) (length ns + 1) (omega (arith, l)))
    at false false h l m = h

-- where the stack is cut at it, or at none
pub cut_newest : (is : QualName → Bool) (names : List QualName) (s : List ℕ) → length s ≡ length names → length (cut_through is names s) ≡ newest_where is names - 1
cut_newest is [] s e = omega (arith, e)
cut_newest is (n ∷ ns) [] e = absurd (omega (arith, e))
cut_newest is (n ∷ ns) (m ∷ s) e = at (is n) (omega (arith, e)) (cut_newest is ns s)
  where
    at : (b : Bool) → length s ≡ length ns → (length s ≡ length ns → length (cut_through is ns s) ≡ newest_where is ns - 1)
        → length (cond b s (cut_through is ns s)) ≡ cond b (length ns + 1) (newest_where is ns) - 1
    at true l f = omega (arith, l)
    at false l f = f l

-- where it is cut above it
pub above_newest : (is : QualName → Bool) (names : List QualName) (s : List ℕ) → length s ≡ length names → length (cut_above is names s) ≡ newest_where is names
above_newest is [] s e = e
above_newest is (n ∷ ns) [] e = absurd (omega (arith, e))
above_newest is (n ∷ ns) (m ∷ s) e = at (is n) (omega (arith, e)) (above_newest is ns s)
  where
    at : (b : Bool) → length s ≡ length ns → (length s ≡ length ns → length (cut_above is ns s) ≡ newest_where is ns)
        → length (cond b (m ∷ s) (cut_above is ns s)) ≡ cond b (length ns + 1) (newest_where is ns)
    at true l f = omega (arith, l)
    at false l f = f l

-- whether one is newer than some
pub newer_than_rest : (is : QualName → Bool) (newer rest : List QualName) → nat_lt (length rest) (newest_where is (newer ++ rest)) ≡ list_any is newer
newer_than_rest is [] rest = le-ltb (length rest) (newest_where is rest) (newest_le is rest)
newer_than_rest is (n ∷ newer) rest = at (is n) (newer_than_rest is newer rest)
  where
    at : (b : Bool) → nat_lt (length rest) (newest_where is (newer ++ rest)) ≡ list_any is newer → nat_lt (length rest) (cond b (length (newer ++ rest) + 1) (newest_where is (newer ++ rest))) ≡ (b || list_any is newer)
    at true e = lt-ltb (length rest) (length (newer ++ rest) + 1) (omega (arith, length-append newer rest))
    at false e = e

-- the oldest of a kind
pub oldest_le : (is : QualName → Bool) (names : List QualName) → oldest_where is names ≤ length names
oldest_le is [] = omega arith
oldest_le is (n ∷ ns) = at ((oldest_where is ns == 0) && is n) (oldest_le is ns)
  where
    at : (b : Bool) → oldest_where is ns ≤ length ns → cond b (length ns + 1) (oldest_where is ns) ≤ suc (length ns)
    at true h = omega arith
    at false h = omega (arith, h)

pub oldest_none : (is : QualName → Bool) (names : List QualName) (s : List ℕ) → oldest_where is names ≡ 0 → oldest_passing is names s ≡ None
oldest_none is [] s h = refl
oldest_none is (n ∷ ns) [] h = refl
oldest_none is (n ∷ ns) (m ∷ s) h = at (oldest_where is ns == 0) (is n) (eqb-true (oldest_where is ns) 0) (eqb-false (oldest_where is ns) 0) h (oldest_none is ns s)
  where
    at : (a b : Bool) → (a ≡ true → oldest_where is ns ≡ 0) → (a ≡ false → oldest_where is ns ≢ 0) → cond (a && b) (length ns + 1) (oldest_where is ns) ≡ 0 → (oldest_where is ns ≡ 0 → oldest_passing is ns s ≡ None)
        → oldest_of (oldest_passing is ns s) (cond b (Some m) None) ≡ None
    at true true f d e g = absurd (omega (arith, e))
    at true false f d e g = ap (λ o. oldest_of o None) (g (f refl))
    at false b f d e g = absurd (d refl e)

pub oldest_some : (is : QualName → Bool) (names : List QualName) (s newer older : List ℕ) (m : ℕ) → length s ≡ length names → s ≡ newer ++ m ∷ older → oldest_where is names ≡ length older + 1 → oldest_passing is names s ≡ Some m
oldest_some is [] s newer older m l e h = absurd (omega (arith, h))
oldest_some is (n ∷ ns) [] newer older m l e h = absurd (omega (arith, l))
oldest_some is (n ∷ ns) (k ∷ s) [] older m l e h =
    let here : k ≡ m = cc in
    let rest : s ≡ older = cc in
    let count : length older ≡ length ns = omega (arith, l, ap (λ (z : List ℕ). length z) rest) in
    at (oldest_where is ns == 0) (is n) (eqb-true (oldest_where is ns) 0) (h ∙ ap (λ z. z + 1) count) here
  where
    at : (a b : Bool) → (a ≡ true → oldest_where is ns ≡ 0) → cond (a && b) (length ns + 1) (oldest_where is ns) ≡ length ns + 1 → k ≡ m → oldest_of (oldest_passing is ns s) (cond b (Some k) None) ≡ Some m
    at true true f e same = ap (λ o. oldest_of o (Some k)) (oldest_none is ns s (f refl)) ∙ ap (λ x. Some x) same
    at true false f e same = absurd (omega (arith, e, oldest_le is ns))
    at false b f e same = absurd (omega (arith, e, oldest_le is ns))
oldest_some is (n ∷ ns) (k ∷ s) (j ∷ newer) older m l e h =
    let rest : s ≡ newer ++ m ∷ older = cc in
    at ((oldest_where is ns == 0) && is n) h (omega (arith, l, ap (λ (z : List ℕ). length z) rest, length-append newer (m ∷ older))) (oldest_some is ns s newer older m (omega (arith, l)) rest)
  where
    at : (a : Bool) → cond a (length ns + 1) (oldest_where is ns) ≡ length older + 1 → length older + 1 ≤ length ns → (oldest_where is ns ≡ length older + 1 → oldest_passing is ns s ≡ Some m)
        → oldest_of (oldest_passing is ns s) (cond (is n) (Some k) None) ≡ Some m
    at true e le f = absurd (omega (arith, e, le))
    at false e le f = ap (λ o. oldest_of o (cond (is n) (Some k) None)) (f e)

-- the same as an answer
pub found_before : (is ends : QualName → Bool) (names : List QualName) → is_some (place_before (newest_where is names) (newest_where ends names)) ≡ in_scope is ends names
found_before is ends names = at (nat_lt 0 (newest_where is names) && nat_le (newest_where ends names) (newest_where is names)) ∙ sym (in_scope_newest is ends names)
  where
    at : (b : Bool) → is_some (cond b (Some (newest_where is names - 1)) None) ≡ b
    at true = refl
    at false = refl

pub place_cut : (is ends : QualName → Bool) (names : List QualName) (s : List ℕ) → length s ≡ length names
    → MatchOption (place_before (newest_where is names) (newest_where ends names)) (Unit {0}) (λ place. place ≡ length (cut_through is names s))
place_cut is ends names s e = at (nat_lt 0 (newest_where is names) && nat_le (newest_where ends names) (newest_where is names))
  where
    at : (b : Bool) → MatchOption (cond b (Some (newest_where is names - 1)) None) (Unit {0}) (λ place. place ≡ length (cut_through is names s))
    at true = sym (cut_newest is names s e)
    at false = tt

-- of one kind or another, and of none
pub newest_either : (a b c : QualName → Bool) → ((n : QualName) → c n ≡ (a n || b n)) → (names : List QualName) → newest_where c names ≡ newer_of (newest_where a names) (newest_where b names)
newest_either a b c h [] = refl
newest_either a b c h (n ∷ ns) = ap (λ x. cond x (length ns + 1) (newest_where c ns)) (h n) ∙ at (a n) (b n) (newest_le a ns) (newest_le b ns) (newest_either a b c h ns)
  where
    at : (x y : Bool) → newest_where a ns ≤ length ns → newest_where b ns ≤ length ns → newest_where c ns ≡ newer_of (newest_where a ns) (newest_where b ns)
        → cond (x || y) (length ns + 1) (newest_where c ns) ≡ newer_of (cond x (length ns + 1) (newest_where a ns)) (cond y (length ns + 1) (newest_where b ns))
    at true true l m e = sym (ap (λ z. cond z (length ns + 1) (length ns + 1)) (le-ltb (length ns + 1) (length ns + 1) (omega arith)))
    at true false l m e = sym (ap (λ z. cond z (newest_where b ns) (length ns + 1)) (le-ltb (length ns + 1) (newest_where b ns) (omega (arith, m))))
    at false true l m e = sym (ap (λ z. cond z (length ns + 1) (newest_where a ns)) (lt-ltb (newest_where a ns) (length ns + 1) (omega (arith, l))))
    at false false l m e = e

pub newest_never : (is : QualName → Bool) → ((n : QualName) → is n ≡ false) → (names : List QualName) → newest_where is names ≡ 0
newest_never is h [] = refl
newest_never is h (n ∷ ns) = newest_later is n ns (h n) ∙ newest_never is h ns

pub newest_same : (a b : QualName → Bool) → ((n : QualName) → a n ≡ b n) → (names : List QualName) → newest_where a names ≡ newest_where b names
newest_same a b h [] = refl
newest_same a b h (n ∷ ns) = ap (λ x. cond x (length ns + 1) (newest_where a ns)) (h n) ∙ ap (λ z. cond (b n) (length ns + 1) z) (newest_same a b h ns)

-- of some names
among_none : (n : QualName) → is_html_among [] n ≡ false
among_none n = at (is_same_text n.ns html_namespace)
  where
    at : (b : Bool) → (b && false) ≡ false
    at true = refl
    at false = refl

pub same_text-sym : (x y : List ℕ) → is_same_text x y ≡ is_same_text y x
same_text-sym x y = same_tests (is_same_text x y) (is_same_text y x) (λ e. (bytes_eq-Decides y x).1 (sym ((bytes_eq-Decides x y).0 e))) (λ e. (bytes_eq-Decides x y).1 (sym ((bytes_eq-Decides y x).0 e)))

among_more : (locals : List (List ℕ)) (local : List ℕ) (n : QualName) → is_html_among (locals ++ local ∷ []) n ≡ (is_html_among locals n || is_html_named local n)
unfolding is_html_named
among_more locals local n = at (is_same_text n.ns html_namespace)
  where
    or_false : (b : Bool) → (b || false) ≡ b
    or_false true = refl
    or_false false = refl

    at : (a : Bool) → (a && is_one_of (locals ++ local ∷ []) n.local) ≡ ((a && is_one_of locals n.local) || (a && is_same_text n.local local))
    at true = list_any-append (λ x. is_same_text x n.local) locals (local ∷ []) ∙ ap (λ b. is_one_of locals n.local || b) (or_false (is_same_text local n.local) ∙ same_text-sym local n.local)
    at false = refl

pub among_two : (one other : List ℕ) (n : QualName) → is_html_among (one ∷ other ∷ []) n ≡ (is_html_named one n || is_html_named other n)
among_two one other n = among_more (one ∷ []) other n ∙ ap (λ b. b || is_html_named other n) (among_more [] one n ∙ ap (λ b. b || is_html_named one n) (among_none n))

or_three : (a b c : Bool) → ((a || b) || c) ≡ (a || (b || c))
or_three true b c = refl
or_three false b c = refl

pub among_three : (one other third : List ℕ) (n : QualName) → is_html_among (one ∷ other ∷ third ∷ []) n ≡ (is_html_named one n || (is_html_named other n || is_html_named third n))
among_three one other third n =
    among_more (one ∷ other ∷ []) third n ∙ ap (λ b. b || is_html_named third n) (among_two one other n) ∙ or_three (is_html_named one n) (is_html_named other n) (is_html_named third n)

pub newest_among_none : (names : List QualName) → newest_where (is_html_among []) names ≡ 0
newest_among_none names = newest_never (is_html_among []) among_none names

pub newest_among_more : (locals more : List (List ℕ)) (local : List ℕ) (names : List QualName) → more ≡ locals ++ local ∷ []
    → newest_where (is_html_among more) names ≡ newer_of (newest_where (is_html_among locals) names) (newest_where (is_html_named local) names)
newest_among_more locals more local names e =
    ap (λ z. newest_where (is_html_among z) names) e ∙ newest_either (is_html_among locals) (is_html_named local) (is_html_among (locals ++ local ∷ [])) (among_more locals local) names

-- by numbers
newest_numbered : (is : QualName → Bool) (k : ℕ) (number : QualName → Option ℕ) (ms : List ℕ) (names : List QualName) → map Some ms ≡ map number names
    → ((name : QualName) (m : ℕ) → number name ≡ Some m → (m == k) ≡ is name) → newest_of k ms ≡ newest_where is names
newest_numbered is k number [] [] e h = refl
newest_numbered is k number [] (n ∷ ns) e h = absurd (omega (arith, ap (λ z. length z) e))
newest_numbered is k number (m ∷ ms) [] e h = absurd (omega (arith, ap (λ z. length z) e))
newest_numbered is k number (m ∷ ms) (n ∷ ns) e h =
    let head : number n ≡ Some m = cc in
    let tail : map Some ms ≡ map number ns = cc in
    let count : length ms ≡ length ns = omega (arith, ap (λ z. length z) tail, length-map ms (λ (x : ℕ). Some x), length-map ns number) in
    ap (λ b. cond b (length ms + 1) (newest_of k ms)) (h n m head) ∙ ap (λ z. cond (is n) (z + 1) (newest_of k ms)) count ∙ ap (λ z. cond (is n) (length ns + 1) z) (newest_numbered is k number ms ns tail h)

none_numbered : (is : QualName → Bool) (number : QualName → Option ℕ) (ms : List ℕ) (names : List QualName) → map Some ms ≡ map number names → ((name : QualName) (m : ℕ) → number name ≡ Some m → is name ≡ false) → newest_where is names ≡ 0
none_numbered is number ms [] e h = refl
none_numbered is number [] (n ∷ ns) e h = absurd (omega (arith, ap (λ z. length z) e))
none_numbered is number (m ∷ ms) (n ∷ ns) e h =
    let head : number n ≡ Some m = cc in
    let tail : map Some ms ≡ map number ns = cc in
    ap (λ b. cond b (length ns + 1) (newest_where is ns)) (h n m head) ∙ none_numbered is number ms ns tail h

module _ (N : NameNumbers) (local : List ℕ) (ms : List ℕ) (names : List QualName) (kept : map Some ms ≡ map (name_number N) names) where
  pub newest_of_name : (k : ℕ) → html_number N local ≡ Some k → newest_of k ms ≡ newest_where (is_html_named local) names
  newest_of_name k e = newest_numbered (is_html_named local) k (name_number N) ms names kept (λ name m. has_number N local k name m e)

  pub newest_of_foreign : (k : ℕ) → foreign_number N local ≡ Some k → newest_of k ms ≡ newest_where (is_foreign_named local) names
  newest_of_foreign k e = newest_numbered (is_foreign_named local) k (name_number N) ms names kept (λ name m. has_foreign N local k name m e)

  pub none_of_foreign : foreign_number N local ≡ None → newest_where (is_foreign_named local) names ≡ 0
  none_of_foreign e = none_numbered (is_foreign_named local) (name_number N) ms names kept (λ name m. foreign_none N local name m e)

  pub none_of_name : html_number N local ≡ None → newest_where (is_html_named local) names ≡ 0
  none_of_name e = none_numbered (is_html_named local) (name_number N) ms names kept (λ name m. has_none N local name m e)
