-- The longest name in what was seen.
use Rattle.std.proofs.Common.{◌≡◌, ℕ, zero, suc, ◌+◌, ◌<◌, ◌≤◌, true, false, ◌==◌, refl, sym, ap, ◌∙◌, subst, List, [], ◌∷◌, ◌++◌, length, take, drop, get_or, inl, inr, add-one, arith}
use Rattle.std.specs.Prelude.{Some, None}
use Rattle.std.proofs.lemmas.Bool.{and_from, and_parts, cases_eq, cases_lt, cond-false, cond-true, eq-eqb, eqb-true, false≢true, false_from_ne_true, or_cases, or_left, or_right}
use Rattle.std.proofs.lemmas.Slice.Eq.{bytes_eq-Decides}
use Rattle.std.proofs.lemmas.List.{take-take, take-append-drop}
use Rattle.std.specs.Str.{bytes_eq}
use Rattle.h5_tokenizer_spec.specs.References.{Reference, is_beginning, meaning_of, or_shorter, longest, longest_within}
use Rattle.h5_tokenizer_spec.specs.ReferenceTable.{references}
use Rattle.h5_tokenizer_spec.specs.TableOrder.{is_before}
use Rattle.h5_tokenizer_spec.specs.Words.{begins, same}
use Rattle.h5_tokenizer_spec.proofs.TableLaws.{how_many as length-references}
use Rattle.h5_tokenizer_states.specs.Numbered.{how_many, name_of, text_of}
use Rattle.h5_tokenizer_states.specs.Candidates.{AreCandidates}
use Rattle.h5_tokenizer_states.proofs.OrderLemmas.{before_itself, names_in_order, not_before, within_list}

pub begins_itself : (seen : List ℕ) → begins same seen seen ≡ true
begins_itself [] = refl
begins_itself (x ∷ seen) = and_from (x == x) (begins same seen seen) (eq-eqb x x refl) (begins_itself seen)

-- a name that begins with this and is as long
all_of_it : (seen name : List ℕ) → begins same seen name ≡ true → length name ≡ length seen → name ≡ seen
all_of_it [] [] h e = refl
all_of_it [] (c ∷ name) h e = absurd (omega arith)
all_of_it (s ∷ seen) [] h e = absurd (false≢true h)
all_of_it (s ∷ seen) (c ∷ name) h e =
    let p = and_parts (s == c) (begins same seen name) h in
    let here : s ≡ c = eqb-true s c p.0 in
    let rest : name ≡ seen = all_of_it seen name p.1 (omega arith) in
    cc

-- a name also begins with less
shorter : (seen more name : List ℕ) → begins same (seen ++ more) name ≡ true → begins same seen name ≡ true
shorter [] more name h = refl
shorter (s ∷ seen) more [] h = absurd (false≢true h)
shorter (s ∷ seen) more (c ∷ name) h =
    let p = and_parts (s == c) (begins same (seen ++ more) name) h in
    and_from (s == c) (begins same seen name) p.0 (shorter seen more name p.1)

pub beginning_shorter : (table : List Reference) (seen more : List ℕ) → is_beginning table (seen ++ more) ≡ true → is_beginning table seen ≡ true
beginning_shorter [] seen more h = absurd (false≢true h)
beginning_shorter (r ∷ table) seen more h =
    elim (or_cases (begins same (seen ++ more) r.0) (is_beginning table (seen ++ more)) h) as (λ _. is_beginning (r ∷ table) seen ≡ true) [
      | inl here ↦ or_left (begins same seen r.0) (is_beginning table seen) (shorter seen more r.0 here)
      | inr later ↦ or_right (begins same seen r.0) (is_beginning table seen) (beginning_shorter table seen more later)
    ]

pub not_longer : (table : List Reference) (seen : List ℕ) (m n : ℕ) → m ≤ n → is_beginning table (take m seen) ≡ false → is_beginning table (take n seen) ≡ false
not_longer table seen m n le fails =
    false_from_ne_true _ (λ holds.
    let split : take m seen ++ drop m (take n seen) ≡ take n seen = ap (λ xs. xs ++ drop m (take n seen)) (sym (take-take m n seen le)) ∙ take-append-drop m (take n seen) in
    false≢true (sym fails ∙ beginning_shorter table (take m seen) (drop m (take n seen)) (ap (is_beginning table) split ∙ holds)))

-- an entry of a table in order has the text of its name
not_same : (a b : List ℕ) → is_before a b ≡ true → bytes_eq a b ≡ false
not_same a b h =
    false_from_ne_true _ (λ e. false≢true (sym (before_itself a) ∙ (ap (is_before a) ((bytes_eq-Decides a b).0 e) ∙ h)))

pub meaning_at : (table : List Reference) (k : ℕ) → k < length table → ((i : ℕ) → i < k → is_before (get_or table i ([], [])).0 (get_or table k ([], [])).0 ≡ true) → meaning_of table (get_or table k ([], [])).0 ≡ Some (get_or table k ([], [])).1
meaning_at [] k lt order = absurd (omega arith)
meaning_at (r ∷ table) zero lt order = cond-true (bytes_eq r.0 r.0) (Some r.1) (meaning_of table r.0) ((bytes_eq-Decides r.0 r.0).1 refl)
meaning_at (r ∷ table) (suc k) lt order =
    cond-false (bytes_eq r.0 (get_or table k ([], [])).0) (Some r.1) (meaning_of table (get_or table k ([], [])).0) (not_same r.0 (get_or table k ([], [])).0 (order 0 (omega arith)))
    ∙ meaning_at table k (omega arith) (λ i h. order (suc i) (omega arith))

-- and what isn't a name of it has no text
no_meaning : (table : List Reference) (seen : List ℕ) → ((k : ℕ) → k < length table → (get_or table k ([], [])).0 ≡ seen → ⊥) → meaning_of table seen ≡ None
no_meaning [] seen none = refl
no_meaning (r ∷ table) seen none =
    cond-false (bytes_eq r.0 seen) (Some r.1) (meaning_of table seen) (false_from_ne_true _ (λ e. none 0 (omega arith) ((bytes_eq-Decides r.0 seen).0 e)))
    ∙ no_meaning table seen (λ k lt e. none (suc k) (omega arith) e)

-- of the names that begin with what was seen, the first is all of it, or no name is
first_is_name : (seen : List ℕ) (from to : ℕ) → from < to → to ≤ how_many → AreCandidates seen from to → length (name_of from) ≡ length seen → meaning_of references seen ≡ Some (text_of from)
first_is_name seen from to some within are e =
    subst (λ name. meaning_of references name ≡ Some (text_of from)) (all_of_it seen (name_of from) (are.inside from (omega arith) some) e)
    (meaning_at references from (within_list from (omega arith)) (λ i lt. names_in_order i from lt (omega arith)))

name_is_first : (seen : List ℕ) (from to k : ℕ) → AreCandidates seen from to → from < to → k < how_many → name_of k ≡ seen → length (name_of from) ≡ length seen
name_is_first seen from to k are some within e =
    let begun : begins same seen (name_of k) ≡ true = subst (λ name. begins same seen name ≡ true) (sym e) (begins_itself seen) in
    elim (cases_lt k from) as (λ _. length (name_of from) ≡ length seen) [
      | inl low ↦ absurd (false≢true (sym (are.before k low) ∙ begun))
      | inr ge ↦ elim (cases_lt from k) as (λ _. length (name_of from) ≡ length seen) [
        | inl lt ↦ absurd (false≢true (sym (not_before seen (name_of from) (are.inside from (omega arith) some)) ∙ (ap (is_before (name_of from)) (sym e) ∙ names_in_order from k lt within)))
        | inr le ↦ let one : from ≡ k = omega arith in ap (λ n. length (name_of n)) one ∙ ap length e
      ]
    ]

first_is_no_name : (seen : List ℕ) (from to : ℕ) → from < to → AreCandidates seen from to → (length (name_of from) ≡ length seen → ⊥) → meaning_of references seen ≡ None
first_is_no_name seen from to some are differ =
    no_meaning references seen (λ k lt e. differ (name_is_first seen from to k are some (omega (arith, length-references)) e))

-- what begins no name isn't a name
none_is_name : (table : List Reference) (seen : List ℕ) → is_beginning table seen ≡ false → meaning_of table seen ≡ None
none_is_name [] seen fails = refl
none_is_name (r ∷ table) seen fails =
    cond-false (bytes_eq r.0 seen) (Some r.1) (meaning_of table seen) (false_from_ne_true _ (λ e.
    false≢true (sym fails ∙ or_left (begins same seen r.0) (is_beginning table seen) (ap (begins same seen) ((bytes_eq-Decides r.0 seen).0 e) ∙ begins_itself seen))))
    ∙ none_is_name table seen (false_from_ne_true _ (λ holds. false≢true (sym fails ∙ or_right (begins same seen r.0) (is_beginning table seen) holds)))

-- the longest name, with one more byte
length_of_part : (seen : List ℕ) (n : ℕ) → n < length seen → length (take (suc n) seen) ≡ suc n
length_of_part [] n lt = absurd (omega arith)
length_of_part (x ∷ seen) zero lt = refl
length_of_part (x ∷ seen) (suc n) lt = ap suc (length_of_part seen n (omega arith))

pub longest_is_first : (seen : List ℕ) (n from to : ℕ) → n < length seen → from < to → to ≤ how_many → AreCandidates (take (n + 1) seen) from to → length (name_of from) ≡ n + 1 → longest_within references (n + 1) seen ≡ Some (record { name = take (n + 1) seen; text = text_of from; rest = drop (n + 1) seen })
longest_is_first seen n from to lt some within are e =
    let F : ℕ → Type 0 = λ m. length (name_of from) ≡ m → AreCandidates (take m seen) from to → longest_within references m seen ≡ Some (record { name = take m seen; text = text_of from; rest = drop m seen }) in
    subst F (sym (add-one n))
    (λ len are. ap (λ text. or_shorter seen (suc n) text (longest_within references n seen)) (first_is_name (take (suc n) seen) from to some within are (len ∙ sym (length_of_part seen n lt))))
    e are

pub longest_stays : (seen : List ℕ) (n from to : ℕ) → n < length seen → from < to → AreCandidates (take (n + 1) seen) from to → (length (name_of from) ≡ n + 1 → ⊥) → longest_within references (n + 1) seen ≡ longest_within references n seen
longest_stays seen n from to lt some are differ =
    let F : ℕ → Type 0 = λ m. (length (name_of from) ≡ m → ⊥) → AreCandidates (take m seen) from to → longest_within references m seen ≡ longest_within references n seen in
    subst F (sym (add-one n))
    (λ fails are. ap (λ text. or_shorter seen (suc n) text (longest_within references n seen)) (first_is_no_name (take (suc n) seen) from to some are (λ len. fails (len ∙ length_of_part seen n lt))))
    differ are

-- and if no name begins with one more byte
stays : (table : List Reference) (seen : List ℕ) (m n : ℕ) → m ≤ n → ((i : ℕ) → m < i → i ≤ n → meaning_of table (take i seen) ≡ None) → longest_within table n seen ≡ longest_within table m seen
stays table seen m zero le none = let one : 0 ≡ m = omega arith in ap (λ k. longest_within table k seen) one
stays table seen m (suc n) le none =
    elim (cases_eq m (suc n)) as (λ _. longest_within table (suc n) seen ≡ longest_within table m seen) [
      | inl one ↦ ap (λ k. longest_within table k seen) (sym one)
      | inr other ↦
          ap (λ text. or_shorter seen (suc n) text (longest_within table n seen)) (none (suc n) (omega arith) (omega arith))
          ∙ stays table seen m n (omega arith) (λ i low high. none i low (omega arith))
    ]

pub longest_ends : (seen : List ℕ) (n : ℕ) → n < length seen → is_beginning references (take (n + 1) seen) ≡ false → longest_within references n seen ≡ longest references seen
longest_ends seen n lt fails =
    sym (stays references seen n (length seen) (omega arith) (λ i low high. none_is_name references (take i seen) (not_longer references seen (n + 1) i (omega arith) fails)))
