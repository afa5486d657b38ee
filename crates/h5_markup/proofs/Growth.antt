-- A decided result stays, whatever follows.
use Rattle.std.proofs.Common.{ℕ, Bool, true, false, List, [], ◌∷◌, ◌++◌, cond, eqb, refl, sym, ap, subst}
use Rattle.std.specs.Char.{to_ascii_lowercase}
use Rattle.h5_markup.specs.Matching.{Match, Open, No, Found, and_then, or_else, literal, word, peek, ahead, prefixed, Grows}
use Rattle.h5_markup.specs.Ending.{ends, next, up_to_end}
use Rattle.h5_markup.specs.declared.ending.Inside.{Inside}

pub and_then_grows : {A B : Type 0} (m m' : Match A) (f : A → List ℕ → Match B) (more : List ℕ) → Grows m more m' → ((a : A) (r : List ℕ) → Grows (f a r) more (f a (r ++ more))) → Grows (and_then m f) more (and_then m' f)
and_then_grows Open m' f more h k = tt
and_then_grows No m' f more h k = ap (λ n. and_then n f) h
and_then_grows (Found a r) m' f more h k = subst (λ n. Grows (f a r) more (and_then n f)) (sym h) (k a r)

pub or_else_grows : {A : Type 0} (m m' n n' : Match A) (more : List ℕ) → Grows m more m' → Grows n more n' → Grows (or_else m n) more (or_else m' n')
or_else_grows Open m' n n' more h k = tt
or_else_grows No m' n n' more h k = subst (λ x. Grows n more (or_else x n')) (sym h) k
or_else_grows (Found a r) m' n n' more h k = ap (λ x. or_else x n') h

pub if_grows : {A : Type 0} (b : Bool) (m m' n n' : Match A) (more : List ℕ) → Grows m more m' → Grows n more n' → Grows (cond b m n) more (cond b m' n')
if_grows true m m' n n' more h k = h
if_grows false m m' n n' more h k = k

literal_grows : (p xs more : List ℕ) → Grows (literal p xs) more (literal p (xs ++ more))
literal_grows [] xs more = refl
literal_grows (p ∷ ps) [] more = tt
literal_grows (p ∷ ps) (x ∷ xs) more = if_grows (eqb x p) _ _ _ _ more (literal_grows ps xs more) refl

word_grows : (p xs more : List ℕ) → Grows (word p xs) more (word p (xs ++ more))
word_grows [] xs more = refl
word_grows (p ∷ ps) [] more = tt
word_grows (p ∷ ps) (x ∷ xs) more = if_grows (eqb (to_ascii_lowercase x) (to_ascii_lowercase p)) _ _ _ _ more (word_grows ps xs more) refl

peek_grows : (test : ℕ → Bool) (xs more : List ℕ) → Grows (peek test xs) more (peek test (xs ++ more))
peek_grows test [] more = tt
peek_grows test (x ∷ xs) more = if_grows (test x) _ _ _ _ more refl refl

ahead_grows : {A : Type 0} (m m' : Match A) (xs more : List ℕ) → Grows m more m' → Grows (ahead m xs) more (ahead m' (xs ++ more))
ahead_grows Open m' xs more h = tt
ahead_grows No m' xs more h = ap (λ n. ahead n (xs ++ more)) h
ahead_grows (Found a r) m' xs more h = ap (λ n. ahead n (xs ++ more)) h

prefixed_grows : (x : ℕ) (m m' : Match (List ℕ)) (more : List ℕ) → Grows m more m' → Grows (prefixed x m) more (prefixed x m')
prefixed_grows x Open m' more h = tt
prefixed_grows x No m' more h = ap (prefixed x) h
prefixed_grows x (Found a r) m' more h = ap (prefixed x) h

up_to_end_grows : (place : Inside) (xs more : List ℕ) → Grows (up_to_end place xs) more (up_to_end place (xs ++ more))
up_to_end_grows place [] more = tt
up_to_end_grows place (x ∷ xs) more = if_grows (ends place x) _ _ _ _ more refl (prefixed_grows x _ _ more (up_to_end_grows (next place x) xs more))

-- a decided result of this search stays
pub record Stable {A : Type 0} (p : List ℕ → Match A) : Type 0 where
  pub grows : (xs more : List ℕ) → Grows (p xs) more (p (xs ++ more))

pub literal_stable : (needle : List ℕ) → Stable (literal needle)
literal_stable needle = record { grows = literal_grows needle }

pub word_stable : (needle : List ℕ) → Stable (word needle)
word_stable needle = record { grows = word_grows needle }

pub peek_stable : (test : ℕ → Bool) → Stable (peek test)
peek_stable test = record { grows = peek_grows test }

pub ahead_stable : {A : Type 0} {p : List ℕ → Match A} → Stable p → Stable (λ xs. ahead (p xs) xs)
ahead_stable {p} h = record { grows = λ xs more. ahead_grows (p xs) (p (xs ++ more)) xs more (h.grows xs more) }

pub up_to_end_stable : (place : Inside) → Stable (up_to_end place)
up_to_end_stable place = record { grows = up_to_end_grows place }

pub found_stable : {A : Type 0} (a : A) → Stable (λ xs. Found a xs)
found_stable a = record { grows = λ _ _. refl }

pub no_stable : {A : Type 0} → Stable {A = A} (λ xs. No)
no_stable = record { grows = λ _ _. refl }

pub and_then_stable : {A B : Type 0} {p : List ℕ → Match A} {f : A → List ℕ → Match B} → Stable p → ((a : A) → Stable (f a)) → Stable (λ xs. and_then (p xs) f)
and_then_stable {p} {f} h k = record { grows = λ xs more. and_then_grows (p xs) (p (xs ++ more)) f more (h.grows xs more) (λ a r. (k a).grows r more) }

pub or_else_stable : {A : Type 0} {p q : List ℕ → Match A} → Stable p → Stable q → Stable (λ xs. or_else (p xs) (q xs))
or_else_stable {p} {q} h k = record { grows = λ xs more. or_else_grows (p xs) (p (xs ++ more)) (q xs) (q (xs ++ more)) more (h.grows xs more) (k.grows xs more) }
