-- A name that a text begins with and that ends in a semicolon is the longest one there.
use Rattle.std.proofs.Common.{◌≡◌, ℕ, zero, suc, ◌+◌, ◌<◌, true, false, ◌==◌, refl, sym, ap, ◌∙◌, List, [], ◌∷◌, ◌++◌, length, get_or, take, drop, inl, inr, arith}
use Rattle.std.specs.Prelude.{Some}
use Rattle.std.proofs.lemmas.Bool.{and_parts, cases_lt, eqb-true, false≢true}
use Rattle.std.proofs.lemmas.List.{take_more}
use Rattle.std.proofs.lemmas.List.Folds.{list_any_at}
use Rattle.h5_tokenizer_spec.specs.References.{Reference, ends_in, is_beginning, longest, longest_within, meaning_of, or_shorter}
use Rattle.h5_tokenizer_spec.specs.ReferenceTable.{references}
use Rattle.h5_tokenizer_spec.specs.Signs.{semicolon}
use Rattle.h5_tokenizer_spec.specs.Words.{begins, same}
use Rattle.h5_tokenizer_states.specs.Numbered.{how_many, name_of, text_of}
use Rattle.h5_tokenizer_states.proofs.LongestLemmas.{begins_itself, longest_ends, meaning_at}
use Rattle.h5_tokenizer_states.proofs.ReferenceNameLaws.{closed_is_whole}
use Rattle.h5_tokenizer_states.proofs.OrderLemmas.{names_in_order, within_list}
use Rattle.h5_tokenizer_states.proofs.ShortLemmas.{begins_no_shorter}

front_is_name : (name text : List ℕ) → begins same name text ≡ true → take (length name) text ≡ name
front_is_name [] text h = refl
front_is_name (x ∷ name) [] h = absurd (false≢true h)
front_is_name (x ∷ name) (c ∷ text) h =
    let p = and_parts (x == c) (begins same name text) h in
    let here : x ≡ c = eqb-true x c p.0 in
    let rest : take (length name) text ≡ name = front_is_name name text p.1 in
    cc

-- a name begins with this, and none goes on
pub front_begins : (text : List ℕ) (number : ℕ) → number < how_many → begins same (name_of number) text ≡ true → is_beginning references (take (length (name_of number)) text) ≡ true
front_begins text number within h =
    ap (is_beginning references) (front_is_name (name_of number) text h)
    ∙ list_any_at (λ (r : Reference). begins same (name_of number) r.0) references number ([], []) (within_list number within) (begins_itself (name_of number))

pub front_ends : (text : List ℕ) (number : ℕ) → ends_in semicolon (name_of number) ≡ true → begins same (name_of number) text ≡ true → length (name_of number) < length text → is_beginning references (take (length (name_of number) + 1) text) ≡ false
front_ends text number closed h lt =
    let name = name_of number in
    let next = get_or text (length name) 0 in
    ap (is_beginning references) (take_more text (length name) 0 lt ∙ ap (λ front. front ++ next ∷ []) (front_is_name name text h))
    ∙ closed_is_whole name next closed

closed_is_some : (name : List ℕ) → ends_in semicolon name ≡ true → 0 < length name
closed_is_some [] closed = absurd (false≢true closed)
closed_is_some (x ∷ name) closed = omega arith

longest_by_meaning : (seen text : List ℕ) (n : ℕ) → 0 < n → meaning_of references (take n seen) ≡ Some text → longest_within references n seen ≡ Some (record { name = take n seen; text = text; rest = drop n seen })
longest_by_meaning seen text zero some h = absurd (omega arith)
longest_by_meaning seen text (suc n) some h = ap (λ found. or_shorter seen (suc n) found (longest_within references n seen)) h

pub front_is_longest : (seen : List ℕ) (number : ℕ) → number < how_many → ends_in semicolon (name_of number) ≡ true → begins same (name_of number) seen ≡ true → Some (record { name = take (length (name_of number)) seen; text = text_of number; rest = drop (length (name_of number)) seen }) ≡ longest references seen
front_is_longest seen number within closed h =
    let name = name_of number in
    let means : meaning_of references (take (length name) seen) ≡ Some (text_of number) =
    ap (meaning_of references) (front_is_name name seen h) ∙ meaning_at references number (within_list number within) (λ i lt. names_in_order i number lt within) in
    sym (longest_by_meaning seen (text_of number) (length name) (closed_is_some name closed) means)
    ∙ elim (cases_lt (length name) (length seen)) as (λ _. longest_within references (length name) seen ≡ longest references seen) [
      | inl lt ↦ longest_ends seen (length name) lt (front_ends seen number closed h lt)
      | inr ge ↦ let all : length name ≡ length seen = omega (arith, begins_no_shorter name seen h) in ap (λ n. longest_within references n seen) all
    ]
