-- The names of character references are ASCII.
use Rattle.std.proofs.Common.{◌≡◌, ℕ, zero, suc, ◌<◌, ◌≤◌, Bool, true, false, ◌==◌, refl, sym, ap, ◌∙◌, List, [], ◌∷◌, ◌++◌, take, drop, ltb, inl, inr, arith}
use Rattle.std.proofs.lemmas.Bool.{and_from, and_parts, eqb-true, false_from_ne_true, false≢true, ltb-true, or_cases}
use Rattle.std.specs.Prelude.{Option, Some, None, length, if◌then◌else◌}
use Rattle.std.specs.List.{list_all}
use Rattle.std.specs.Str.{IsAscii}
use Rattle.h5_names.specs.AttributeText.{is_same_text}
use Rattle.h5_tokenizer_states.specs.declared.search.Named.{Named}
use Rattle.h5_tokenizer_states.specs.Found.{found_in}
use Rattle.h5_tokenizer_spec.specs.References.{Reference, Longest, is_beginning, longest, longest_within, meaning_of, or_shorter}
use Rattle.h5_tokenizer_spec.specs.ReferenceTable.{references}
use Rattle.h5_tokenizer_spec.specs.Words.{begins, same}

abbrev is_ascii : List ℕ → Bool
is_ascii = list_all (λ x. ltb x 128)

abbrev are_named_in_ascii : List Reference → Bool
are_named_in_ascii = list_all (λ (reference : Reference). is_ascii reference.0)

all_named_in_ascii : are_named_in_ascii references ≡ true
unfolding references
all_named_in_ascii = refl

-- an equal byte
ascii_byte : (x c : ℕ) → (x == c) ≡ true → ltb c 128 ≡ true → ltb x 128 ≡ true
ascii_byte x c e h = ap (λ z. ltb z 128) (eqb-true x c e) ∙ h

-- the prefixes of a name
beginning_of_name : (seen name : List ℕ) → begins same seen name ≡ true → is_ascii name ≡ true → is_ascii seen ≡ true
beginning_of_name [] name h ascii = refl
beginning_of_name (x ∷ seen) [] h ascii = absurd (false≢true h)
beginning_of_name (x ∷ seen) (c ∷ name) h ascii =
    let here = and_parts (x == c) (begins same seen name) h in
    let bytes = and_parts (ltb c 128) (is_ascii name) ascii in
    and_from (ltb x 128) (is_ascii seen) (ascii_byte x c here.0 bytes.0) (beginning_of_name seen name here.1 bytes.1)

beginning_in : (table : List Reference) (seen : List ℕ) → are_named_in_ascii table ≡ true → is_beginning table seen ≡ true → is_ascii seen ≡ true
beginning_in [] seen all h = absurd (false≢true h)
beginning_in (r ∷ table) seen all h =
    let parts = and_parts (is_ascii r.0) (are_named_in_ascii table) all in
    elim (or_cases (begins same seen r.0) (is_beginning table seen) h) as (λ _. is_ascii seen ≡ true) [
      | inl here ↦ beginning_of_name seen r.0 here parts.0
      | inr later ↦ beginning_in table seen parts.1 later
    ]

last_is_ascii : (xs : List ℕ) (x : ℕ) → is_ascii (xs ++ x ∷ []) ≡ true → x < 128
last_is_ascii [] x h = ltb-true x 128 (and_parts (ltb x 128) true h).0
last_is_ascii (y ∷ xs) x h = last_is_ascii xs x (and_parts (ltb y 128) (is_ascii (xs ++ x ∷ [])) h).1

-- no name has a byte other than ASCII
pub no_beginning : (xs : List ℕ) (x : ℕ) → 128 ≤ x → is_beginning references (xs ++ x ∷ []) ≡ false
no_beginning xs x wide =
    false_from_ne_true (is_beginning references (xs ++ x ∷ []))
    (λ h. let narrow : x < 128 = last_is_ascii xs x (beginning_in references (xs ++ x ∷ []) all_named_in_ascii h) in omega arith)

same_name : (name other : List ℕ) → is_same_text name other ≡ true → is_ascii name ≡ true → is_ascii other ≡ true
same_name [] [] h ascii = refl
same_name [] (y ∷ other) h ascii = absurd (false≢true h)
same_name (x ∷ name) [] h ascii = absurd (false≢true h)
same_name (x ∷ name) (y ∷ other) h ascii =
    let here = and_parts (x == y) (is_same_text name other) h in
    let bytes = and_parts (ltb x 128) (is_ascii name) ascii in
    and_from (ltb y 128) (is_ascii other) (sym (ap (λ z. ltb z 128) (eqb-true x y here.0)) ∙ bytes.0) (same_name name other here.1 bytes.1)

meaning_by : (b : Bool) (r : Reference) (table : List Reference) (name text : List ℕ) → is_same_text r.0 name ≡ b → is_ascii r.0 ≡ true
    → (meaning_of table name ≡ Some text → is_ascii name ≡ true) → (if b then Some r.1 else meaning_of table name) ≡ Some text → is_ascii name ≡ true
meaning_by true r table name text e ascii later h = same_name r.0 name e ascii
meaning_by false r table name text e ascii later h = later h

has_meaning : (table : List Reference) (name text : List ℕ) → are_named_in_ascii table ≡ true → meaning_of table name ≡ Some text → is_ascii name ≡ true
has_meaning [] name text all h = absurd (cc)
has_meaning (r ∷ table) name text all h =
    let parts = and_parts (is_ascii r.0) (are_named_in_ascii table) all in
    meaning_by (is_same_text r.0 name) r table name text refl parts.0 (has_meaning table name text parts.1) h

longest_by : (table : List Reference) (seen : List ℕ) (n : ℕ) (text : Option (List ℕ)) (shorter : Option Longest) (found : Longest) → are_named_in_ascii table ≡ true
    → meaning_of table (take n seen) ≡ text → (shorter ≡ Some found → is_ascii found.name ≡ true) → or_shorter seen n text shorter ≡ Some found → is_ascii found.name ≡ true
longest_by table seen n None shorter found all e later h = later h
longest_by table seen n (Some text) shorter found all e later h =
    let same_found : record { name = take n seen; text = text; rest = drop n seen } ≡ found = cc in
    ap (λ (f : Longest). is_ascii f.name) (sym same_found) ∙ has_meaning table (take n seen) text all e

longest_in : (table : List Reference) (n : ℕ) (seen : List ℕ) (found : Longest) → are_named_in_ascii table ≡ true → longest_within table n seen ≡ Some found → is_ascii found.name ≡ true
longest_in table zero seen found all h = absurd (cc)
longest_in table (suc n) seen found all h =
    longest_by table seen (suc n) (meaning_of table (take (suc n) seen)) (longest_within table n seen) found all refl (longest_in table n seen found all) h

ascii_at : (xs : List ℕ) → is_ascii xs ≡ true → IsAscii xs
ascii_at [] h i = omega arith
ascii_at (x ∷ xs) h zero = ltb-true x 128 (and_parts (ltb x 128) (is_ascii xs) h).0
ascii_at (x ∷ xs) h (suc i) = ascii_at xs (and_parts (ltb x 128) (is_ascii xs) h).1 i

-- the longest name is ASCII
pub longest_is_ascii : (seen : List ℕ) (found : Named) → found_in seen (Some found) ≡ longest references seen → IsAscii (take found.len seen)
longest_is_ascii seen found h =
    ascii_at (take found.len seen) (longest_in references (length seen) seen (record { name = take found.len seen; text = found.text.now; rest = drop found.len seen }) all_named_in_ascii (sym h))
