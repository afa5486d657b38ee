-- A name of up to seven bytes is found by its text as one number.
use Rattle.std.proofs.Common.{◌≡◌, ◌<◌, ◌≤◌, ◌+◌, ◌*◌, ◌^◌, ℕ, Bool, true, false, ◌&&◌, zero, suc, add-one, List, [], ◌∷◌, cond, nat_lt, get_or, length, reverse, take, refl, sym, ap, ◌∙◌, arith, slice_index}
use Rattle.std.proofs.lemmas.Bool.{and_parts, le-ltb, ltb-true}
use Rattle.std.proofs.lemmas.List.{reverse-append, reverse-reverse, take_more}
use denote.Enum.Declared.{tag_of}
use Rattle.h5_names.specs.contracts.known_name.KnownName.{the_type}
use Rattle.h5_names.specs.declared.known_name.KnownName.{KnownName}
use Rattle.h5_names.specs.declared.known_name.KnownName.TheVariants.{A, Other}
use Rattle.h5_names.specs.declared.known_slots.TheConstants.{KEYS, SHORT_NUMBERS}
use Rattle.h5_names.specs.KnownNames.{known_name_of, known_names, name_text, nth_name}
use Rattle.h5_names.specs.ShortNames.{AreBytes, key_of, packed, short_key, short_slot}
use Rattle.h5_names.proofs.KnownNameLemmas.{found, is_known, known_not_other, other_if, text_of_known}

-- the table has the key of each name at the name's number
pub key_at_number : (known : KnownName) → get_or KEYS (tag_of the_type known) 0 ≡ short_key (name_text known)
key_at_number A = refl
key_at_number _ = refl

-- the number of each name of up to seven bytes is at the slot of its key
abbrev name_by_key : ℕ → KnownName
name_by_key key = nth_name (slice_index SHORT_NUMBERS (short_slot key))

at_slot : (known : KnownName) → name_by_key (key_of (name_text known)) ≡ cond (nat_lt 7 (length (name_text known))) (name_by_key (key_of (name_text known))) known
unfolding nth_name known_names short_slot
at_slot A = refl
at_slot _ = refl

-- the texts of names are bytes
abbrev are_bytes : List ℕ → Bool
are_bytes [] = true
are_bytes (x ∷ xs) = nat_lt x 256 && are_bytes xs

from_test : (xs : List ℕ) → are_bytes xs ≡ true → AreBytes xs
from_test [] h = tt
from_test (x ∷ xs) h = let p = and_parts (nat_lt x 256) (are_bytes xs) h in (ltb-true x 256 p.0, from_test xs p.1)

name_is_bytes : (known : KnownName) → are_bytes (reverse (name_text known)) ≡ true
name_is_bytes A = refl
name_is_bytes _ = refl

-- no two texts have the same number
pub some_key : (xs : List ℕ) → 1 ≤ packed xs
some_key [] = omega arith
some_key (x ∷ xs) = let more = some_key xs in omega (arith, more)

same_packed : (xs ys : List ℕ) → AreBytes xs → AreBytes ys → packed xs ≡ packed ys → xs ≡ ys
same_packed [] [] a b e = refl
same_packed [] (y ∷ ys) a b e = let more = some_key ys in absurd (omega (arith, more, e))
same_packed (x ∷ xs) [] a b e = let more = some_key xs in absurd (omega (arith, more, e))
same_packed (x ∷ xs) (y ∷ ys) a b e =
    let last : x ≡ y = omega (arith, a.0, b.0, e) in
    let front : packed xs ≡ packed ys = omega (arith, a.0, b.0, e) in
    let rest = same_packed xs ys a.1 b.1 front in
    cc

same_texts : (xs ys : List ℕ) → AreBytes (reverse xs) → AreBytes (reverse ys) → key_of xs ≡ key_of ys → xs ≡ ys
same_texts xs ys a b e = sym (reverse-reverse xs) ∙ ap (λ (l : List ℕ). reverse l) (same_packed (reverse xs) (reverse ys) a b e) ∙ reverse-reverse ys

-- a name with the key of a text has that text
pub by_key : (known : KnownName) (text : List ℕ) → AreBytes (reverse text) → short_key (name_text known) ≡ key_of text → known ≡ known_name_of text
by_key known text bytes h = at (nat_lt 7 (length (name_text known))) h
  where
    at : (b : Bool) → cond b 0 (key_of (name_text known)) ≡ key_of text → known ≡ known_name_of text
    at true e = let some = some_key (reverse text) in absurd (omega (arith, some, e))
    at false e = found text known (same_texts (name_text known) text (from_test (reverse (name_text known)) (name_is_bytes known)) bytes e)

-- if the name at the slot of a text has another key, HTML doesn't know the text
short_at : (known : KnownName) (text : List ℕ) → text ≡ name_text known → length text ≤ 7 → name_by_key (key_of text) ≡ known
short_at known text e few =
    let short : nat_lt 7 (length (name_text known)) ≡ false = le-ltb 7 (length (name_text known)) (omega (arith, few, ap (λ (l : List ℕ). length l) e)) in
    ap (λ t. name_by_key (key_of t)) e ∙ at_slot known ∙ ap (λ b. cond b (name_by_key (key_of (name_text known))) known) short

short_key_of : (text : List ℕ) → length text ≤ 7 → short_key text ≡ key_of text
short_key_of text few = ap (λ b. cond b 0 (key_of text)) (le-ltb 7 (length text) few)

pub no_key : (text : List ℕ) (at : KnownName) → length text ≤ 7 → at ≡ name_by_key (key_of text) → (short_key (name_text at) ≡ key_of text → ⊥) → Other ≡ known_name_of text
no_key text at few e differs = whether (is_known (known_name_of text)) refl
  where
    whether : (b : Bool) → is_known (known_name_of text) ≡ b → Other ≡ known_name_of text
    whether false h = other_if (known_name_of text) h
    whether true h =
        let known = known_name_of text in
        let named : name_text known ≡ text = text_of_known text (known_not_other known h) in
        let same : at ≡ known = e ∙ short_at known text (sym named) few in
        absurd (differs (ap (λ k. short_key (name_text k)) same ∙ ap short_key named ∙ short_key_of text few))

-- ---- keys byte by byte

-- an upper bound of a key of n bytes
abbrev pub limit : ℕ → ℕ
limit zero = 2
limit (suc n) = limit n * 256

pub limit_next : (n : ℕ) → limit (n + 1) ≡ limit n * 256
limit_next n = ap limit (add-one n)

pub limit_fits : (n : ℕ) → n < 7 → limit n ≤ 2 ^ 56
limit_fits zero h = omega arith
limit_fits (suc zero) h = omega arith
limit_fits (suc (suc zero)) h = omega arith
limit_fits (suc (suc (suc zero))) h = omega arith
limit_fits (suc (suc (suc (suc zero)))) h = omega arith
limit_fits (suc (suc (suc (suc (suc zero))))) h = omega arith
limit_fits (suc (suc (suc (suc (suc (suc zero)))))) h = omega arith
limit_fits (suc (suc (suc (suc (suc (suc (suc n))))))) h = absurd (omega (arith, h))

-- the bytes up to an index, in reverse order, and one more
pub one_more : (xs : List ℕ) (i x : ℕ) → i < length xs → x ≡ get_or xs i 0 → reverse (take (i + 1) xs) ≡ x ∷ reverse (take i xs)
one_more xs i x h e =
    ap (λ (l : List ℕ). reverse l) (take_more xs i 0 h) ∙ reverse-append (take i xs) (get_or xs i 0 ∷ []) ∙ ap (λ y. y ∷ reverse (take i xs)) (sym e)
