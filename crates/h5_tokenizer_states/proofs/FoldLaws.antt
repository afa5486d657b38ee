-- Words whose letters are compared after a fold.
use Rattle.std.proofs.Common.{sym, ◌∙◌, Decides, ◌≡◌, ℕ, ◌≤◌, ◌<◌, Bool, true, false, List, [], ◌∷◌, ◌++◌, length, take, map, refl, ap, arith, ◌&&◌, ◌==◌, nat_lt}
use Rattle.std.proofs.lemmas.Bool.{and_left, and_right, and_parts, le-leb}
use Rattle.std.proofs.lemmas.Bool.Decides.{nat_tests, same_from_decides}
use Rattle.std.proofs.lemmas.Slice.Eq.{bytes_eq-Decides}
use Rattle.std.specs.List.{list_all}
use Rattle.std.specs.Str.{bytes_eq}
use Rattle.std.specs.Char.{to_ascii_lowercase}
use Rattle.h5_tokenizer_spec.specs.Words.{begins, is_all, same}
use Rattle.h5_tokenizer_states.proofs.AsciiLaws.{wide_not}

-- a word that is as long or longer begins with this if its prefix is equal
pub begins_front : (fold : ℕ → ℕ) (seen word : List ℕ) → length seen ≤ length word → begins fold seen word ≡ bytes_eq (map fold seen) (map fold (take (length seen) word))
begins_front fold [] word h = refl
begins_front fold (x ∷ xs) [] h = absurd (omega arith)
begins_front fold (x ∷ xs) (c ∷ word) h = ap (λ b. (fold x == fold c) && b) (begins_front fold xs word (omega arith))

-- a shorter word doesn't
pub begins_longer : (fold : ℕ → ℕ) (seen word : List ℕ) → length word < length seen → begins fold seen word ≡ false
begins_longer fold [] word h = absurd (omega arith)
begins_longer fold (x ∷ xs) [] h = refl
begins_longer fold (x ∷ xs) (c ∷ word) h = and_right (fold x == fold c) _ (begins_longer fold xs word (omega arith))

twice : (p q : ℕ) (a b : Bool) → (((p == q) && a) && ((q == p) && b)) ≡ ((p == q) && (a && b))
twice p q a b = grind (arith, nat_tests)

pub is_all_folded : (fold : ℕ → ℕ) (xs ys : List ℕ) → is_all fold xs ys ≡ bytes_eq (map fold xs) (map fold ys)
is_all_folded fold [] [] = refl
is_all_folded fold [] (c ∷ word) = refl
is_all_folded fold (x ∷ xs) [] = refl
is_all_folded fold (x ∷ xs) (c ∷ word) = rw twice (ap (λ b. (fold x == fold c) && b) (is_all_folded fold xs word))

pub is_all_same : (xs ys : List ℕ) → is_all same xs ys ≡ bytes_eq xs ys
is_all_same [] [] = refl
is_all_same [] (c ∷ word) = refl
is_all_same (x ∷ xs) [] = refl
is_all_same (x ∷ xs) (c ∷ word) = rw twice (ap (λ b. (x == c) && b) (is_all_same xs word))

-- no word of ASCII begins with what ends in a byte outside ASCII
pub begins_wide : (fold : ℕ → ℕ) (seen : List ℕ) (x : ℕ) (word : List ℕ) → 128 ≤ fold x → list_all (λ c. nat_lt (fold c) 128) word ≡ true → begins fold (seen ++ x ∷ []) word ≡ false
begins_wide fold [] x [] h k = refl
begins_wide fold [] x (c ∷ word) h k = and_left (fold x == fold c) true (wide_not (fold x) (fold c) (le-leb 128 (fold x) h) (and_parts _ _ k).0)
begins_wide fold (y ∷ seen) x [] h k = refl
begins_wide fold (y ∷ seen) x (c ∷ word) h k = and_right (fold y == fold c) _ (begins_wide fold seen x word h (and_parts _ _ k).1)

-- what a test in any case of letters shows
pub folded_all : (seen bytes word : List ℕ) (r : Bool) → bytes ≡ seen → Decides r (map to_ascii_lowercase bytes ≡ map to_ascii_lowercase word) → r ≡ is_all to_ascii_lowercase seen word
folded_all seen bytes word r e test =
    rw (← e) (same_from_decides _ _ test (bytes_eq-Decides _ _) ∙ sym (is_all_folded to_ascii_lowercase bytes word))

pub folded_front : (seen bytes word : List ℕ) (r : Bool) → bytes ≡ seen → length bytes ≤ length word
    → Decides r (map to_ascii_lowercase bytes ≡ map to_ascii_lowercase (take (length bytes) word)) → r ≡ begins to_ascii_lowercase seen word
folded_front seen bytes word r e h test =
    rw (← e) (same_from_decides _ _ test (bytes_eq-Decides _ _) ∙ sym (begins_front to_ascii_lowercase bytes word h))

pub folded_longer : (seen bytes word : List ℕ) → bytes ≡ seen → length word < length bytes → false ≡ begins to_ascii_lowercase seen word
folded_longer seen bytes word e h = rw (← e) (sym (begins_longer to_ascii_lowercase bytes word h))
