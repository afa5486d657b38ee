-- When the standard looks ahead, what was seen may be read again.
use Rattle.std.proofs.Common.{◌≡◌, ℕ, zero, suc, refl, sym, ap, ◌∙◌, true, false, true≢false, not, List, [], ◌∷◌, ◌++◌, Bool, if◌then◌else◌, ◌==◌, ◌||◌, ◌&&◌, codes, subst, inl, inr}
use Rattle.std.proofs.Math.Seq.{take-length, drop-length}
use Rattle.std.proofs.lemmas.Bool.{eqb-true, eq-eqb, false≢true}
use Rattle.std.specs.Prelude.{◌⊎◌, Option, Some, None, length, take, drop}
use Rattle.std.specs.Char.{is_ascii_alphabetic, is_ascii_digit, to_ascii_lowercase}
use Rattle.std.specs.List.{list_all}
use Rattle.h5_names.specs.AttributeText.{is_same_text}
use Rattle.h5_tokenizer_spec.specs.Signs.{is_alphanumeric}
use Rattle.h5_tokenizer_spec.specs.Words.{begins, same}
use Rattle.h5_tokenizer_spec.specs.States.{BogusComment, BogusDoctype}
use Rattle.h5_tokenizer_spec.specs.Turn.{Turn, to}
use Rattle.h5_tokenizer_spec.specs.References.{Reference, Longest, is_beginning, longest, longest_within, meaning_of, or_shorter}
use Rattle.h5_tokenizer_spec.specs.TableOrder.{are_references, is_full, is_further_name, is_name}
use Rattle.h5_tokenizer_spec.specs.Comments.{begins_opening}
use Rattle.h5_tokenizer_spec.specs.Doctypes.{begins_keyword}
use Rattle.h5_tokenizer_spec.specs.Ahead.{AreTakenInComment, AreIgnoredInDoctype, LeavesLetters}

-- a byte that isn't in a word
abbrev is_apart : (ℕ → ℕ) → ℕ → List ℕ → Bool
is_apart fold y word = list_all (λ c. not (fold y == fold c)) word

differs_by : (fold : ℕ → ℕ) (x y c : ℕ) (b : Bool) → (x == y) ≡ b → (fold x == fold c) ≡ true → not (fold y == fold c) ≡ true → (x == y) ≡ false
differs_by fold x y c false e h apart = e
differs_by fold x y c true e h apart =
    let same_byte : x ≡ y = eqb-true x y e in
    let no : not (fold x == fold c) ≡ true = subst (λ z. not (fold z == fold c) ≡ true) (sym same_byte) apart in
    absurd (false≢true (ap not (sym h) ∙ no))

both : (a b : Bool) → (a && b) ≡ true → (a ≡ true) × (b ≡ true)
both true b h = (refl, h)
both false b h = absurd (false≢true h)

-- this byte isn't there
abbrev IsWithout : ℕ → List ℕ → Type 0
IsWithout y [] = Unit {0}
IsWithout y (x ∷ xs) = ((x == y) ≡ false) × IsWithout y xs

-- the prefixes of a word don't have such a byte
seen_apart : (fold : ℕ → ℕ) (y : ℕ) (seen word : List ℕ) → is_apart fold y word ≡ true → begins fold seen word ≡ true → IsWithout y seen
seen_apart fold y [] word apart h = tt
seen_apart fold y (x ∷ seen) [] apart h = absurd (false≢true h)
seen_apart fold y (x ∷ seen) (c ∷ word) apart h =
    let here = both (fold x == fold c) (begins fold seen word) h in
    let word_apart = both (not (fold y == fold c)) (is_apart fold y word) apart in
    (differs_by fold x y c (x == y) refl here.0 word_apart.0, seen_apart fold y seen word word_apart.1 here.1)

-- bytes that are neither '>' nor NUL
abbrev ArePlain : List ℕ → Type 0
ArePlain seen = IsWithout 62 seen × IsWithout 0 seen

plain_word : (fold : ℕ → ℕ) (seen word : List ℕ) → is_apart fold 62 word ≡ true → is_apart fold 0 word ≡ true → begins fold seen word ≡ true → ArePlain seen
plain_word fold seen word a b h = (seen_apart fold 62 seen word a h, seen_apart fold 0 seen word b h)

by_either : (P : Type 0) (a b : Bool) → (a || b) ≡ true → (a ≡ true → P) → (b ≡ true → P) → P
by_either P true b h f g = f refl
by_either P false b h f g = g h

plain_opening : (seen : List ℕ) → begins_opening seen ≡ true → ArePlain seen
plain_opening seen h =
    by_either (ArePlain seen) (begins same seen (codes "--")) _ h (plain_word same seen (codes "--") refl refl)
    (λ i. by_either (ArePlain seen) (begins to_ascii_lowercase seen (codes "doctype")) (begins same seen (codes "[CDATA[")) i
    (plain_word to_ascii_lowercase seen (codes "doctype") refl refl)
    (plain_word same seen (codes "[CDATA[") refl refl))

plain_keyword : (seen : List ℕ) → begins_keyword seen ≡ true → ArePlain seen
plain_keyword seen h =
    by_either (ArePlain seen) (begins to_ascii_lowercase seen (codes "public")) (begins to_ascii_lowercase seen (codes "system")) h
    (plain_word to_ascii_lowercase seen (codes "public") refl refl) (plain_word to_ascii_lowercase seen (codes "system") refl refl)

third : (a b : Bool) (t u v : Turn) → a ≡ false → b ≡ false → (if a then t else (if b then u else v)) ≡ v
third false false t u v e f = refl
third true b t u v e f = absurd (true≢false e)
third false true t u v e f = absurd (true≢false f)

taken : (table : List Reference) (last seen : List ℕ) → ArePlain seen → AreTakenInComment table last seen
taken table last [] h = tt
taken table last (x ∷ seen) h = ((λ comment. third (x == 62) (x == 0) _ _ (to (BogusComment (comment ++ (x ∷ [])))) h.0.0 h.1.0), taken table last seen (h.0.1, h.1.1))

ignored : (table : List Reference) (last seen : List ℕ) → ArePlain seen → AreIgnoredInDoctype table last seen
ignored table last [] h = tt
ignored table last (x ∷ seen) h = ((λ doctype. third (x == 62) (x == 0) _ _ (to (BogusDoctype doctype)) h.0.0 h.1.0), ignored table last seen (h.0.1, h.1.1))

pub opening_taken : (table : List Reference) (last seen : List ℕ) → begins_opening seen ≡ true → AreTakenInComment table last seen
opening_taken table last seen h = taken table last seen (plain_opening seen h)

pub keyword_ignored : (table : List Reference) (last seen : List ℕ) → begins_keyword seen ≡ true → AreIgnoredInDoctype table last seen
keyword_ignored table last seen h = ignored table last seen (plain_keyword seen h)

Letters : List ℕ → Type 0
Letters seen = list_all is_alphanumeric seen ≡ true

and_true : (a b : Bool) → a ≡ true → b ≡ true → (a && b) ≡ true
and_true true b h g = g
and_true false b h g = h

or_first : (a b : Bool) → a ≡ true → (a || b) ≡ true
or_first true b h = refl
or_first false b h = absurd (false≢true h)

or_second : (a b : Bool) → b ≡ true → (a || b) ≡ true
or_second true b h = refl
or_second false b h = h

-- a part of a name, or all of it
part_of_name : (seen name : List ℕ) → is_further_name name ≡ true → begins same seen name ≡ true → Letters seen ⊎ (seen ≡ name)
unfolding Letters
part_of_name [] name f h = inl refl
part_of_name (x ∷ seen) [] f h = absurd (false≢true h)
part_of_name (x ∷ []) (c ∷ []) f h = inr (ap (λ z. z ∷ []) (eqb-true x c (both (x == c) true h).0))
part_of_name (x ∷ y ∷ seen) (c ∷ []) f h = absurd (false≢true (both (x == c) false h).1)
part_of_name (x ∷ seen) (c ∷ d ∷ name) f h =
    let here = both (x == c) (begins same seen (d ∷ name)) h in
    let equal : x ≡ c = eqb-true x c here.0 in
    let letters = both (is_alphanumeric c) (is_further_name (d ∷ name)) f in
    elim (part_of_name seen (d ∷ name) letters.1 here.1) as (λ _. Letters (x ∷ seen) ⊎ ((x ∷ seen) ≡ (c ∷ d ∷ name))) [
      | inl all ↦ inl (and_true (is_alphanumeric x) _ (ap is_alphanumeric equal ∙ letters.0) all)
      | inr e ↦ inr (λ i. equal i ∷ e i)
    ]

further_of : (name : List ℕ) → is_name name ≡ true → is_further_name name ≡ true
further_of [] h = absurd (false≢true h)
further_of (c ∷ []) h = or_first (is_alphanumeric c) _ (or_second (is_ascii_digit c) _ (both (is_ascii_alphabetic c) true h).0)
further_of (c ∷ d ∷ name) h =
    let parts = both (is_ascii_alphabetic c) (is_further_name (d ∷ name)) h in
    and_true (is_alphanumeric c) _ (or_second (is_ascii_digit c) _ parts.0) parts.1

same_text : (xs : List ℕ) → is_same_text xs xs ≡ true
same_text [] = refl
same_text (x ∷ xs) = and_true (x == x) _ (eq-eqb x x refl) (same_text xs)

-- a name
Stands : List Reference → List ℕ → Type 0
Stands table seen = (text : List ℕ) × (meaning_of table seen ≡ Some text)

stands_here : (b : Bool) (text : List ℕ) (more : Option (List ℕ)) → b ≡ true → (if b then Some text else more) ≡ Some text
stands_here true text more h = refl
stands_here false text more h = absurd (false≢true h)

stands_later : (b : Bool) (here text : List ℕ) (more : Option (List ℕ)) → more ≡ Some text → (found : List ℕ) × ((if b then Some here else more) ≡ Some found)
stands_later true here text more h = (here, refl)
stands_later false here text more h = (text, h)

stands_first : (r : Reference) (table : List Reference) (seen : List ℕ) → Letters seen ⊎ (seen ≡ r.0) → Letters seen ⊎ Stands (r ∷ table) seen
unfolding Stands
stands_first r table seen (inl letters) = inl letters
stands_first r table seen (inr e) = inr (r.1, stands_here (is_same_text r.0 seen) r.1 (meaning_of table seen) (ap (λ xs. is_same_text r.0 xs) e ∙ same_text r.0))

stands_behind : (r : Reference) (table : List Reference) (seen : List ℕ) → Letters seen ⊎ Stands table seen → Letters seen ⊎ Stands (r ∷ table) seen
unfolding Stands
stands_behind r table seen (inl letters) = inl letters
stands_behind r table seen (inr stands) = inr (stands_later (is_same_text r.0 seen) r.1 stands.0 (meaning_of table seen) stands.1)

-- the prefixes of a name of the table are letters and digits, or a name
part_of_table : (table : List Reference) (seen : List ℕ) → are_references table ≡ true → is_beginning table seen ≡ true → Letters seen ⊎ Stands table seen
part_of_table [] seen all h = absurd (false≢true h)
part_of_table (r ∷ table) seen all h =
    let parts = both (is_name r.0 && is_full r.1) (are_references table) all in
    let name = both (is_name r.0) (is_full r.1) parts.0 in
    by_either (Letters seen ⊎ Stands (r ∷ table) seen) (begins same seen r.0) (is_beginning table seen) h
    (λ b. stands_first r table seen (part_of_name seen r.0 (further_of r.0 name.0) b))
    (λ b. stands_behind r table seen (part_of_table table seen parts.1 b))

letters_behind : (n : ℕ) (seen : List ℕ) → Letters seen → Letters (drop n seen)
unfolding Letters
letters_behind zero seen h = h
letters_behind (suc n) [] h = refl
letters_behind (suc n) (x ∷ seen) h = letters_behind n seen (both (is_alphanumeric x) (list_all is_alphanumeric seen) h).1

-- the search for a name: what follows the name is letters and digits; without a name, all is
leaves_by : (seen : List ℕ) (n : ℕ) (text : Option (List ℕ)) (shorter : Option Longest) → Letters (drop n seen) → LeavesLetters seen shorter → LeavesLetters seen (or_shorter seen n text shorter)
unfolding Letters
leaves_by seen n None shorter letters h = h
leaves_by seen n (Some text) shorter letters h = letters

leaves_within : (table : List Reference) (n : ℕ) (seen : List ℕ) → Letters seen → LeavesLetters seen (longest_within table n seen)
unfolding Letters
leaves_within table zero seen h = h
leaves_within table (suc n) seen h =
    leaves_by seen (suc n) (meaning_of table (take (suc n) seen)) (longest_within table n seen) (letters_behind (suc n) seen h) (leaves_within table n seen h)

leaves_none : (seen : List ℕ) (n : ℕ) (text : List ℕ) (found : Option (List ℕ)) (shorter : Option Longest) → found ≡ Some text → drop n seen ≡ [] → LeavesLetters seen (or_shorter seen n found shorter)
leaves_none seen n text found shorter e none =
    subst (λ m. LeavesLetters seen (or_shorter seen n m shorter)) (sym e) (subst (λ rest. list_all is_alphanumeric rest ≡ true) (sym none) refl)

-- all of it is a name
leaves_name : (table : List Reference) (seen : List ℕ) → Stands table seen → LeavesLetters seen (longest table seen)
unfolding Stands
leaves_name table [] h = refl
leaves_name table (x ∷ seen) h =
    leaves_none (x ∷ seen) (length (x ∷ seen)) h.0 (meaning_of table (take (length (x ∷ seen)) (x ∷ seen))) (longest_within table (length seen) (x ∷ seen))
    (ap (meaning_of table) (take-length (x ∷ seen)) ∙ h.1) (drop-length (x ∷ seen))

pub names_leave_letters : (table : List Reference) (seen : List ℕ) → are_references table ≡ true → is_beginning table seen ≡ true → LeavesLetters seen (longest table seen)
names_leave_letters table seen all h =
    elim (part_of_table table seen all h) as (λ _. LeavesLetters seen (longest table seen)) [
      | inl letters ↦ leaves_within table (length seen) seen letters
      | inr stands ↦ leaves_name table seen stands
    ]
