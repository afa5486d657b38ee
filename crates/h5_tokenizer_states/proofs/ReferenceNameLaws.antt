-- How names are spelled: letters and digits, and a semicolon only at the end.
use Rattle.std.proofs.Common.{◌≡◌, ℕ, Bool, true, false, ◌==◌, ◌||◌, ◌&&◌, refl, sym, ap, ◌∙◌, subst, List, [], ◌∷◌, ◌++◌, inl, inr}
use Rattle.std.specs.Char.{is_ascii_alphabetic, is_ascii_digit}
use Rattle.std.specs.List.{list_all}
use Rattle.std.proofs.lemmas.Bool.{and_from, and_parts, eqb-true, false≢true, false_from_ne_true, or_cases, or_left, or_right}
use Rattle.h5_tokenizer_spec.specs.References.{Reference, ends_in, is_beginning}
use Rattle.h5_tokenizer_spec.specs.ReferenceTable.{references}
use Rattle.h5_tokenizer_spec.specs.Signs.{is_alphanumeric, semicolon}
use Rattle.h5_tokenizer_spec.specs.TableOrder.{are_references, is_full, is_further_name, is_name}
use Rattle.h5_tokenizer_spec.specs.Words.{begins, same}
use Rattle.h5_tokenizer_spec.proofs.TableLaws.{all_references}

-- a name is spelled as what follows its first letter
letter_further : (x : ℕ) (xs : List ℕ) → is_ascii_alphabetic x ≡ true → is_further_name xs ≡ true → is_further_name (x ∷ xs) ≡ true
letter_further x [] letter h = or_left (is_alphanumeric x) (x == semicolon) (or_right (is_ascii_digit x) (is_ascii_alphabetic x) letter)
letter_further x (y ∷ xs) letter h = and_from (is_alphanumeric x) (is_further_name (y ∷ xs)) (or_right (is_ascii_digit x) (is_ascii_alphabetic x) letter) h

name_is_spelled : (name : List ℕ) → is_name name ≡ true → is_further_name name ≡ true
name_is_spelled [] h = refl
name_is_spelled (x ∷ xs) h =
    let parts = and_parts (is_ascii_alphabetic x) (is_further_name xs) h in
    letter_further x xs parts.0 parts.1

-- and so are its prefixes
front_is_spelled : (seen name : List ℕ) → begins same seen name ≡ true → is_further_name name ≡ true → is_further_name seen ≡ true
front_is_spelled [] name h spelled = refl
front_is_spelled (s ∷ seen) [] h spelled = absurd (false≢true h)
front_is_spelled (s ∷ []) (c ∷ []) h spelled =
    subst (λ x. is_further_name (x ∷ []) ≡ true) (sym (eqb-true s c (and_parts (s == c) true h).0)) spelled
front_is_spelled (s ∷ []) (c ∷ d ∷ name) h spelled =
    let one : s ≡ c = eqb-true s c (and_parts (s == c) true h).0 in
    or_left (is_alphanumeric s) (s == semicolon) (ap is_alphanumeric one ∙ (and_parts (is_alphanumeric c) (is_further_name (d ∷ name)) spelled).0)
front_is_spelled (s ∷ t ∷ seen) (c ∷ []) h spelled = absurd (false≢true (and_parts (s == c) false h).1)
front_is_spelled (s ∷ t ∷ seen) (c ∷ d ∷ name) h spelled =
    let here = and_parts (s == c) (begins same (t ∷ seen) (d ∷ name)) h in
    let parts = and_parts (is_alphanumeric c) (is_further_name (d ∷ name)) spelled in
    and_from (is_alphanumeric s) (is_further_name (t ∷ seen)) (ap is_alphanumeric (eqb-true s c here.0) ∙ parts.0) (front_is_spelled (t ∷ seen) (d ∷ name) here.1 parts.1)

spelled_in : (table : List Reference) (seen : List ℕ) → are_references table ≡ true → is_beginning table seen ≡ true → is_further_name seen ≡ true
spelled_in [] seen all h = absurd (false≢true h)
spelled_in (r ∷ table) seen all h =
    let parts = and_parts (is_name r.0 && is_full r.1) (are_references table) all in
    elim (or_cases (begins same seen r.0) (is_beginning table seen) h) as (λ _. is_further_name seen ≡ true) [
      | inl here ↦ front_is_spelled seen r.0 here (name_is_spelled r.0 (and_parts (is_name r.0) (is_full r.1) parts.0).0)
      | inr later ↦ spelled_in table seen parts.1 later
    ]

pub beginning_is_spelled : (seen : List ℕ) → is_beginning references seen ≡ true → is_further_name seen ≡ true
beginning_is_spelled seen h = spelled_in references seen all_references h

-- no name goes on after a semicolon
closed_is_not_spelled : (seen : List ℕ) (x : ℕ) → ends_in semicolon seen ≡ true → is_further_name (seen ++ x ∷ []) ≡ true → false ≡ true
closed_is_not_spelled [] x closed h = closed
closed_is_not_spelled (s ∷ []) x closed h =
    subst (λ c. is_alphanumeric c ≡ true) (eqb-true s semicolon closed) (and_parts (is_alphanumeric s) (is_further_name (x ∷ [])) h).0
closed_is_not_spelled (s ∷ t ∷ seen) x closed h =
    closed_is_not_spelled (t ∷ seen) x closed (and_parts (is_alphanumeric s) (is_further_name ((t ∷ seen) ++ x ∷ [])) h).1

pub closed_is_whole : (seen : List ℕ) (x : ℕ) → ends_in semicolon seen ≡ true → is_beginning references (seen ++ x ∷ []) ≡ false
closed_is_whole seen x closed =
    false_from_ne_true _ (λ h. false≢true (closed_is_not_spelled seen x closed (beginning_is_spelled (seen ++ x ∷ []) h)))

-- the bytes of names
abbrev pub is_name_byte : ℕ → Bool
is_name_byte x = is_alphanumeric x || x == semicolon

spelled_in_name_bytes : (seen : List ℕ) → is_further_name seen ≡ true → list_all is_name_byte seen ≡ true
spelled_in_name_bytes [] h = refl
spelled_in_name_bytes (x ∷ []) h = and_from (is_name_byte x) true h refl
spelled_in_name_bytes (x ∷ y ∷ xs) h =
    let parts = and_parts (is_alphanumeric x) (is_further_name (y ∷ xs)) h in
    and_from (is_name_byte x) (list_all is_name_byte (y ∷ xs)) (or_left (is_alphanumeric x) (x == semicolon) parts.0) (spelled_in_name_bytes (y ∷ xs) parts.1)

pub beginning_has_name_bytes : (seen : List ℕ) → is_beginning references seen ≡ true → list_all is_name_byte seen ≡ true
beginning_has_name_bytes seen h = spelled_in_name_bytes seen (beginning_is_spelled seen h)
