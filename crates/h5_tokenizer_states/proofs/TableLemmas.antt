-- The table of numbers has the definition's list, by computing.
use Rattle.std.proofs.Common.{◌≡◌, ℕ, zero, suc, ◌+◌, ◌-◌, ◌<◌, ◌≤◌, Bool, true, false, ◌&&◌, ◌||◌, refl, sym, ap, ◌∙◌, subst, List, [], ◌∷◌, map, length, take, drop, get_or, leb, ltb, add-one, inl, inr, arith}
use Rattle.std.specs.Prelude.{slice_range}
use Rattle.std.specs.List.{list_all}
use Rattle.std.specs.Str.{IsCharBoundary}
use Rattle.std.proofs.lemmas.Bool.{and_parts, cases_lt, false≢true, leb-true, ltb-true, or_cases, true_from_ne_false}
use Rattle.std.proofs.lemmas.List.{drop-drop, get_or-drop, get_or-map, get_or-take}
use Rattle.std.proofs.lemmas.List.Folds.{list_all_at}
use Rattle.h5_tokenizer_spec.specs.References.{Reference}
use Rattle.h5_tokenizer_spec.specs.ReferenceTable.{references}
use Rattle.h5_tokenizer_states.specs.declared.numbers.TheConstants.{NAMES, NAME_BEGINS, TEXTS, TEXT_BEGINS}
use Rattle.h5_tokenizer_states.specs.Numbered.{how_many, name_of, text_of, all_names, name_begin, all_texts, text_begin}
use Rattle.h5_tokenizer_states.proofs.OrderLemmas.{within_list}

-- the parts of bytes; the first part is at the start
abbrev parts : List ℕ → List ℕ → List (List ℕ)
parts bytes [] = []
parts bytes (from ∷ []) = []
parts bytes (from ∷ to ∷ begins) = take (to - from) bytes ∷ parts (drop (to - from) bytes) (to ∷ begins)

same_names : parts NAMES NAME_BEGINS ≡ map (λ (r : Reference). r.0) references
unfolding references
same_names = refl

same_texts : parts TEXTS.now TEXT_BEGINS ≡ map (λ (r : Reference). r.1) references
unfolding references
same_texts = refl

-- starts that rise up to an end
abbrev rise_to : ℕ → List ℕ → Bool
rise_to end [] = true
rise_to end (from ∷ []) = leb from end
rise_to end (from ∷ to ∷ begins) = leb from to && rise_to end (to ∷ begins)

names_rise : rise_to 16641 NAME_BEGINS ≡ true
names_rise = refl

texts_rise : rise_to 6420 TEXT_BEGINS ≡ true
texts_rise = refl

part_at : (end : ℕ) (bytes begins : List ℕ) (k : ℕ) → rise_to end begins ≡ true → suc k < length begins → get_or (parts (drop (get_or begins 0 0) bytes) begins) k [] ≡ slice_range bytes (get_or begins k 0) (get_or begins (suc k) 0)
part_at end bytes [] k h lt = absurd (omega arith)
part_at end bytes (from ∷ []) k h lt = absurd (omega arith)
part_at end bytes (from ∷ to ∷ begins) zero h lt = refl
part_at end bytes (from ∷ to ∷ begins) (suc k) h lt =
    let rises = and_parts (leb from to) (rise_to end (to ∷ begins)) h in
    let le : from ≤ to = leb-true from to rises.0 in
    let behind : from + (to - from) ≡ to = omega arith in
    ap (λ rest. get_or (parts rest (to ∷ begins)) k []) (drop-drop (to - from) from bytes ∙ ap (λ n. drop n bytes) behind)
    ∙ part_at end bytes (to ∷ begins) k rises.1 (omega arith)

first_within : (end from : ℕ) (begins : List ℕ) → rise_to end (from ∷ begins) ≡ true → from ≤ end
first_within end from [] h = leb-true from end h
first_within end from (to ∷ begins) h =
    let rises = and_parts (leb from to) (rise_to end (to ∷ begins)) h in
    let le : from ≤ to = leb-true from to rises.0 in
    let within : to ≤ end = first_within end to begins rises.1 in
    omega arith

rises_at : (end : ℕ) (begins : List ℕ) (k : ℕ) → rise_to end begins ≡ true → suc k < length begins → (get_or begins k 0 ≤ get_or begins (suc k) 0) × (get_or begins (suc k) 0 ≤ end)
rises_at end [] k h lt = absurd (omega arith)
rises_at end (from ∷ []) k h lt = absurd (omega arith)
rises_at end (from ∷ to ∷ begins) zero h lt =
    let rises = and_parts (leb from to) (rise_to end (to ∷ begins)) h in
    (leb-true from to rises.0, first_within end to begins rises.1)
rises_at end (from ∷ to ∷ begins) (suc k) h lt = rises_at end (to ∷ begins) k (and_parts (leb from to) (rise_to end (to ∷ begins)) h).1 (omega arith)

-- the parts of names
name_part_at : (k : ℕ) → k < how_many → slice_range all_names (name_begin k) (name_begin (suc k)) ≡ name_of k
unfolding all_names name_begin
name_part_at k lt =
    let more : suc k < 2232 = omega arith in
    sym (part_at 16641 NAMES NAME_BEGINS k names_rise more)
    ∙ (ap (λ names. get_or names k []) same_names ∙ get_or-map (λ (r : Reference). r.0) references k ([], []) [] (within_list k lt))

name_part : (k : ℕ) → k < how_many → slice_range all_names (name_begin k) (name_begin (k + 1)) ≡ name_of k
name_part k lt = ap (λ n. slice_range all_names (name_begin k) (name_begin n)) (add-one k) ∙ name_part_at k lt

name_rises_at : (k : ℕ) → k < how_many → (name_begin k ≤ name_begin (suc k)) × (name_begin (suc k) ≤ length all_names)
unfolding all_names name_begin
name_rises_at k lt = let more : suc k < 2232 = omega arith in rises_at 16641 NAME_BEGINS k names_rise more

name_rises : (k : ℕ) → k < how_many → (name_begin k ≤ name_begin (k + 1)) × (name_begin (k + 1) ≤ length all_names)
name_rises k lt = subst (λ n. (name_begin k ≤ name_begin n) × (name_begin n ≤ length all_names)) (sym (add-one k)) (name_rises_at k lt)

-- the start and the end of a name
pub name_bounds : (names : List ℕ) (from to k : ℕ) → names ≡ all_names → from ≡ name_begin k → to ≡ name_begin (k + 1) → k < how_many → (from ≤ to) × (to ≤ length names)
name_bounds names from to k names_are from_is to_is lt =
    let rises = name_rises k lt in
    let end : length names ≡ length all_names = ap length names_are in
    (omega (arith, rises.0), omega (arith, rises.1))

pub name_between : (names : List ℕ) (from to k : ℕ) → names ≡ all_names → from ≡ name_begin k → to ≡ name_begin (k + 1) → k < how_many → slice_range names from to ≡ name_of k
name_between names from to k names_are from_is to_is lt = cc (name_part k lt)

-- the parts of texts
text_part_at : (k : ℕ) → k < how_many → slice_range all_texts (text_begin k) (text_begin (suc k)) ≡ text_of k
unfolding all_texts text_begin
text_part_at k lt =
    let more : suc k < 2232 = omega arith in
    sym (part_at 6420 TEXTS.now TEXT_BEGINS k texts_rise more)
    ∙ (ap (λ texts. get_or texts k []) same_texts ∙ get_or-map (λ (r : Reference). r.1) references k ([], []) [] (within_list k lt))

text_part : (k : ℕ) → k < how_many → slice_range all_texts (text_begin k) (text_begin (k + 1)) ≡ text_of k
text_part k lt = ap (λ n. slice_range all_texts (text_begin k) (text_begin n)) (add-one k) ∙ text_part_at k lt

text_rises_at : (k : ℕ) → k < how_many → (text_begin k ≤ text_begin (suc k)) × (text_begin (suc k) ≤ length all_texts)
unfolding all_texts text_begin
text_rises_at k lt = let more : suc k < 2232 = omega arith in rises_at 6420 TEXT_BEGINS k texts_rise more

text_rises : (k : ℕ) → k < how_many → (text_begin k ≤ text_begin (k + 1)) × (text_begin (k + 1) ≤ length all_texts)
text_rises k lt = subst (λ n. (text_begin k ≤ text_begin n) × (text_begin n ≤ length all_texts)) (sym (add-one k)) (text_rises_at k lt)

-- each text begins with the first byte of a character
abbrev begins_character : List ℕ → Bool
begins_character [] = false
begins_character (x ∷ xs) = ltb x 128 || leb 192 x

all_begin_characters : list_all (λ (r : Reference). begins_character r.1) references ≡ true
unfolding references
all_begin_characters = refl

begins_character_at : (k : ℕ) → k < how_many → begins_character (text_of k) ≡ true
begins_character_at k lt =
    true_from_ne_false _ (λ fails. false≢true (sym (list_all_at (λ (r : Reference). begins_character r.1) references k ([], []) (within_list k lt) fails) ∙ all_begin_characters))

lead : (text : List ℕ) → begins_character text ≡ true → (0 < length text) × (128 ≤ get_or text 0 0 → 192 ≤ get_or text 0 0)
lead [] h = absurd (false≢true h)
lead (x ∷ text) h = (
  omega arith,
  λ high. elim (or_cases (ltb x 128) (leb 192 x) h) as (λ _. 192 ≤ x) [
    | inl low ↦ absurd (let lt : x < 128 = ltb-true x 128 low in omega arith)
    | inr le ↦ leb-true 192 x le
  ],
)

head_of_part : (n from : ℕ) (bytes : List ℕ) → 0 < length (take n (drop from bytes)) → get_or (take n (drop from bytes)) 0 0 ≡ get_or bytes from 0
head_of_part zero from bytes h = absurd (omega arith)
head_of_part (suc n) from bytes h = get_or-take (suc n) (drop from bytes) 0 0 (omega arith) ∙ (get_or-drop from bytes 0 0 ∙ ap (λ i. get_or bytes i 0) (omega arith))

lead_of_part : (text bytes : List ℕ) (from to : ℕ) → slice_range bytes from to ≡ text → begins_character text ≡ true → 128 ≤ get_or bytes from 0 → 192 ≤ get_or bytes from 0
lead_of_part text bytes from to e h high =
    let is = lead text h in
    let head : get_or text 0 0 ≡ get_or bytes from 0 =
    ap (λ t. get_or t 0 0) (sym e) ∙ head_of_part (to - from) from bytes (subst (λ t. 0 < length t) (sym e) is.0) in
    subst (λ x. 192 ≤ x) head (is.1 (subst (λ x. 128 ≤ x) (sym head) high))

-- so they are split between characters
text_ends : text_begin how_many ≡ length all_texts
unfolding all_texts text_begin
text_ends = refl

boundary : (k : ℕ) → k ≤ how_many → IsCharBoundary all_texts (text_begin k)
boundary k le =
    elim (cases_lt k how_many) as (λ _. IsCharBoundary all_texts (text_begin k)) [
      | inl lt ↦ let rises = text_rises k lt in (omega arith, λ _. lead_of_part (text_of k) all_texts (text_begin k) (text_begin (k + 1)) (text_part k lt) (begins_character_at k lt))
      | inr ge ↦
          let last : k ≡ how_many = omega arith in
          let ends : text_begin k ≡ length all_texts = ap text_begin last ∙ text_ends in
          (omega arith, λ lt. absurd (omega arith))
    ]

-- the start and the end of a text
pub text_bounds : (texts : List ℕ) (from to k : ℕ) → texts ≡ all_texts → from ≡ text_begin k → to ≡ text_begin (k + 1) → k < how_many → (from ≤ to) × (IsCharBoundary texts from) × (IsCharBoundary texts to)
text_bounds texts from to k texts_are from_is to_is lt =
    let rises = text_rises k lt in
    let at : (n i : ℕ) → i ≤ how_many → n ≡ text_begin i → IsCharBoundary texts n =
    λ n i le is. subst (λ t. IsCharBoundary t n) (sym texts_are) (subst (λ m. IsCharBoundary all_texts m) (sym is) (boundary i le)) in
    (omega (arith, rises.0), at from k (omega arith) from_is, at to (k + 1) (omega arith) to_is)

pub text_between : (texts : List ℕ) (from to k : ℕ) → texts ≡ all_texts → from ≡ text_begin k → to ≡ text_begin (k + 1) → k < how_many → slice_range texts from to ≡ text_of k
text_between texts from to k texts_are from_is to_is lt = cc (text_part k lt)
