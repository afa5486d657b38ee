-- The number of bytes that a search consumes.
use Rattle.std.proofs.Common.{ℕ, ◌+◌, ◌≤◌, Bool, true, false, List, [], ◌∷◌, cond, eqb, length, suc, arith}
use Rattle.std.specs.Char.{to_ascii_lowercase}
use Rattle.h5_markup.specs.Matching.{Match, Open, No, Found, and_then, or_else, literal, word, peek, ahead, prefixed}
use Rattle.h5_markup.specs.Ending.{ends, next, up_to_end}
use Rattle.h5_markup.specs.declared.ending.Inside.{Inside}

-- at least k of n bytes are consumed
abbrev pub Takes : {A : Type 0} → ℕ → ℕ → Match A → Type 0
Takes k n Open = Unit {0}
Takes k n No = Unit {0}
Takes k n (Found a rest) = k + length rest ≤ n

pub record Eats {A : Type 0} (k : ℕ) (p : List ℕ → Match A) : Type 0 where
  pub takes : (xs : List ℕ) → Takes k (length xs) (p xs)

takes_more : {A : Type 0} (j k n : ℕ) (rest : List ℕ) (m : Match A) → k + length rest ≤ n → Takes j (length rest) m → Takes (k + j) n m
takes_more j k n rest Open h t = tt
takes_more j k n rest No h t = tt
takes_more j k n rest (Found a r) h t = omega arith

and_then_takes : {A B : Type 0} (k j n : ℕ) (m : Match A) (f : A → List ℕ → Match B) → Takes k n m → ((a : A) (r : List ℕ) → Takes j (length r) (f a r)) → Takes (k + j) n (and_then m f)
and_then_takes k j n Open f h g = tt
and_then_takes k j n No f h g = tt
and_then_takes k j n (Found a r) f h g = takes_more j k n r (f a r) h (g a r)

or_else_takes : {A : Type 0} (k n : ℕ) (m o : Match A) → Takes k n m → Takes k n o → Takes k n (or_else m o)
or_else_takes k n Open o h g = tt
or_else_takes k n No o h g = g
or_else_takes k n (Found a r) o h g = h

cond_takes : {A : Type 0} (k n : ℕ) (b : Bool) (m o : Match A) → Takes k n m → Takes k n o → Takes k n (cond b m o)
cond_takes k n true m o h g = h
cond_takes k n false m o h g = g

grown : {A : Type 0} (k n : ℕ) (m : Match A) → Takes k n m → Takes (suc k) (suc n) m
grown k n Open h = tt
grown k n No h = tt
grown k n (Found a r) h = omega arith

literal_takes : (p xs : List ℕ) → Takes (length p) (length xs) (literal p xs)
literal_takes [] xs = omega arith
literal_takes (p ∷ ps) [] = tt
literal_takes (p ∷ ps) (x ∷ xs) = cond_takes (length (p ∷ ps)) (length (x ∷ xs)) (eqb x p) (literal ps xs) No (grown (length ps) (length xs) (literal ps xs) (literal_takes ps xs)) tt

word_takes : (p xs : List ℕ) → Takes (length p) (length xs) (word p xs)
word_takes [] xs = omega arith
word_takes (p ∷ ps) [] = tt
word_takes (p ∷ ps) (x ∷ xs) = cond_takes (length (p ∷ ps)) (length (x ∷ xs)) (eqb (to_ascii_lowercase x) (to_ascii_lowercase p)) (word ps xs) No (grown (length ps) (length xs) (word ps xs) (word_takes ps xs)) tt

peek_takes : (test : ℕ → Bool) (xs : List ℕ) → Takes 0 (length xs) (peek test xs)
peek_takes test [] = tt
peek_takes test (x ∷ xs) = cond_takes 0 (length (x ∷ xs)) (test x) _ _ (omega arith) tt

ahead_takes : {A : Type 0} (m : Match A) (xs : List ℕ) → Takes 0 (length xs) (ahead m xs)
ahead_takes Open xs = tt
ahead_takes No xs = tt
ahead_takes (Found a r) xs = omega arith

prefixed_takes : (x n : ℕ) (m : Match (List ℕ)) → Takes 0 n m → Takes 0 (suc n) (prefixed x m)
prefixed_takes x n Open h = tt
prefixed_takes x n No h = tt
prefixed_takes x n (Found a r) h = omega arith

up_to_end_takes : (place : Inside) (xs : List ℕ) → Takes 0 (length xs) (up_to_end place xs)
up_to_end_takes place [] = tt
up_to_end_takes place (x ∷ xs) = cond_takes 0 (length (x ∷ xs)) (ends place x) _ _ (omega arith) (prefixed_takes x (length xs) (up_to_end (next place x) xs) (up_to_end_takes (next place x) xs))

pub literal_eats : (p : List ℕ) → Eats (length p) (literal p)
literal_eats p = record { takes = literal_takes p }

pub word_eats : (p : List ℕ) → Eats (length p) (word p)
word_eats p = record { takes = word_takes p }

pub peek_eats : (test : ℕ → Bool) → Eats 0 (peek test)
peek_eats test = record { takes = peek_takes test }

pub ahead_eats : {A : Type 0} (p : List ℕ → Match A) → Eats 0 (λ xs. ahead (p xs) xs)
ahead_eats p = record { takes = λ xs. ahead_takes (p xs) xs }

pub up_to_end_eats : (place : Inside) → Eats 0 (up_to_end place)
up_to_end_eats place = record { takes = up_to_end_takes place }

pub found_eats : {A : Type 0} (a : A) → Eats 0 (λ xs. Found a xs)
found_eats a = record { takes = λ xs. omega arith }

pub no_eats : {A : Type 0} (k : ℕ) → Eats {A = A} k (λ xs. No)
no_eats k = record { takes = λ xs. tt }

pub and_then_eats : {A B : Type 0} {k j : ℕ} {p : List ℕ → Match A} {f : A → List ℕ → Match B} → Eats k p → ((a : A) → Eats j (f a)) → Eats (k + j) (λ xs. and_then (p xs) f)
and_then_eats {k} {j} {p} {f} h g = record { takes = λ xs. and_then_takes k j (length xs) (p xs) f (h.takes xs) (λ a r. (g a).takes r) }

pub or_else_eats : {A : Type 0} {k : ℕ} {p q : List ℕ → Match A} → Eats k p → Eats k q → Eats k (λ xs. or_else (p xs) (q xs))
or_else_eats {k} {p} {q} h g = record { takes = λ xs. or_else_takes k (length xs) (p xs) (q xs) (h.takes xs) (g.takes xs) }

fewer : {A : Type 0} (j k n : ℕ) (m : Match A) → j ≤ k → Takes k n m → Takes j n m
fewer j k n Open le h = tt
fewer j k n No le h = tt
fewer j k n (Found a r) le h = omega arith

pub eats_less : {A : Type 0} {k : ℕ} {p : List ℕ → Match A} (j : ℕ) → j ≤ k → Eats k p → Eats j p
eats_less {k} {p} j le h = record { takes = λ xs. fewer j k (length xs) (p xs) le (h.takes xs) }
