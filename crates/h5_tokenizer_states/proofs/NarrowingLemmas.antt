-- One more byte narrows the references whose names begin with what was seen.
use Rattle.std.proofs.Common.{◌≡◌, ℕ, zero, suc, ◌+◌, ◌<◌, ◌≤◌, Bool, true, false, not, cond, ◌==◌, refl, sym, ap, ◌∙◌, subst, List, [], ◌∷◌, ◌++◌, length, get_or, take, inl, inr, append_assoc, length-append, arith}
use Rattle.std.specs.Prelude.{nat_lt}
use Rattle.std.proofs.lemmas.Bool.{and_from, and_parts, cases_lt, cond-true, eq-eqb, eqb-false, eqb-true, false≢true, false_from_ne_true, ltb-true}
use Rattle.std.proofs.lemmas.List.{length-take-le, take_more}
use Rattle.std.proofs.lemmas.List.Folds.{list_any_at}
use Rattle.std.proofs.lemmas.List.Recursion.{or_from_places}
use Rattle.std.specs.List.{list_any}
use Rattle.h5_tokenizer_spec.specs.References.{Reference, is_beginning}
use Rattle.h5_tokenizer_spec.specs.ReferenceTable.{references}
use Rattle.h5_tokenizer_spec.specs.TableOrder.{is_before}
use Rattle.h5_tokenizer_spec.specs.Words.{begins, same}
use Rattle.h5_tokenizer_spec.proofs.TableLaws.{how_many as length-references}
use Rattle.h5_tokenizer_states.specs.Numbered.{how_many, name_of}
use Rattle.h5_tokenizer_states.specs.Candidates.{AreCandidates, IsCut, IsRising, key_at}
use Rattle.h5_tokenizer_states.proofs.OrderLemmas.{names_in_order, within_list}

-- the key of a name
pub key_inside : (name : List ℕ) (depth : ℕ) → depth < length name → get_or name depth 0 + 1 ≡ key_at name depth
key_inside [] depth lt = absurd (omega arith)
key_inside (x ∷ name) zero lt = omega arith
key_inside (x ∷ name) (suc depth) lt = key_inside name depth (omega arith)

pub key_past : (name : List ℕ) (depth : ℕ) → length name ≤ depth → 0 ≡ key_at name depth
key_past [] depth le = refl
key_past (x ∷ name) zero le = absurd (omega arith)
key_past (x ∷ name) (suc depth) le = key_past name depth (omega arith)

-- names in order go on in order after what they both begin with
before_le : (x y : ℕ) (e b : Bool) → (x == y) ≡ e → cond e b (nat_lt x y) ≡ true → x ≤ y
before_le x y true b is h = let eq : x ≡ y = eqb-true x y is in omega arith
before_le x y false b is h = let lt : x < y = ltb-true x y h in omega arith

key_rises : (seen a b : List ℕ) → begins same seen a ≡ true → begins same seen b ≡ true → is_before a b ≡ true → key_at a (length seen) ≤ key_at b (length seen)
key_rises [] [] b h g before = omega arith
key_rises [] (x ∷ a) [] h g before = absurd (false≢true before)
key_rises [] (x ∷ a) (y ∷ b) h g before = let le : x ≤ y = before_le x y (x == y) (is_before a b) refl before in omega arith
key_rises (s ∷ seen) [] b h g before = absurd (false≢true h)
key_rises (s ∷ seen) (x ∷ a) [] h g before = absurd (false≢true g)
key_rises (s ∷ seen) (x ∷ a) (y ∷ b) h g before =
    let p = and_parts (s == x) (begins same seen a) h in
    let q = and_parts (s == y) (begins same seen b) g in
    let one : x ≡ y = sym (eqb-true s x p.0) ∙ eqb-true s y q.0 in
    key_rises seen a b p.1 q.1 (sym (cond-true (x == y) (is_before a b) (nat_lt x y) (eq-eqb x y one)) ∙ before)

pub rising : (seen : List ℕ) (from to : ℕ) → to ≤ how_many → AreCandidates seen from to → IsRising (length seen) from to
rising seen from to within are i k low le high =
    elim (cases_lt i k) as (λ _. key_at (name_of i) (length seen) ≤ key_at (name_of k) (length seen)) [
      | inl lt ↦ key_rises seen (name_of i) (name_of k) (are.inside i low (omega arith)) (are.inside k (omega arith) high) (names_in_order i k lt (omega arith))
      | inr ge ↦ let one : i ≡ k = omega arith in subst (λ n. key_at (name_of i) (length seen) ≤ key_at (name_of n) (length seen)) one (omega arith)
    ]

-- a part of names that go on in order
pub rising_part : (depth from to first : ℕ) → from ≤ first → IsRising depth from to → IsRising depth first to
rising_part depth from to first le rises i k low ik high = rises i k (omega arith) ik high

-- a name begins with one more byte
begins_further : (seen : List ℕ) (x : ℕ) (name : List ℕ) → begins same seen name ≡ true → key_at name (length seen) ≡ suc x → begins same (seen ++ x ∷ []) name ≡ true
begins_further [] x [] h e = absurd (omega arith)
begins_further [] x (c ∷ name) h e = and_from (x == c) true (eq-eqb x c (omega arith)) refl
begins_further (s ∷ seen) x [] h e = absurd (false≢true h)
begins_further (s ∷ seen) x (c ∷ name) h e =
    let p = and_parts (s == c) (begins same seen name) h in
    and_from (s == c) (begins same (seen ++ x ∷ []) name) p.0 (begins_further seen x name p.1 e)

begins_less : (seen : List ℕ) (x : ℕ) (name : List ℕ) → begins same (seen ++ x ∷ []) name ≡ true → (begins same seen name ≡ true) × (key_at name (length seen) ≡ suc x)
begins_less [] x [] h = absurd (false≢true h)
begins_less [] x (c ∷ name) h = (refl, ap suc (sym (eqb-true x c (and_parts (x == c) true h).0)))
begins_less (s ∷ seen) x [] h = absurd (false≢true h)
begins_less (s ∷ seen) x (c ∷ name) h =
    let p = and_parts (s == c) (begins same (seen ++ x ∷ []) name) h in
    let rest = begins_less seen x name p.1 in
    (and_from (s == c) (begins same seen name) p.0 rest.0, rest.1)

-- the part of the references that go on with a byte
pub narrowed_are : (seen : List ℕ) (byte from to first last : ℕ) → AreCandidates seen from to → IsCut (length seen) from first to (byte + 1) → IsCut (length seen) first last to (byte + 1 + 1) → AreCandidates (seen ++ byte ∷ []) first last
narrowed_are seen byte from to first last are begin end = record {
  inside = λ k low high. begins_further seen byte (name_of k) (are.inside k (omega (arith, begin.low)) (omega (arith, end.high))) (omega (arith, begin.above k low (omega (arith, end.high)), end.below k low high));
  before = λ k high. false_from_ne_true _ (λ h.
      let less = begins_less seen byte (name_of k) h in
      elim (cases_lt k from) as (λ _. ⊥) [
        | inl lt ↦ false≢true (sym (are.before k lt) ∙ less.0)
        | inr ge ↦ absurd (omega (arith, less.1, begin.below k ge high))
      ]);
  behind = λ k low within. false_from_ne_true _ (λ h.
      let less = begins_less seen byte (name_of k) h in
      elim (cases_lt k to) as (λ _. ⊥) [
        | inl lt ↦ absurd (omega (arith, less.1, end.above k low lt))
        | inr ge ↦ false≢true (sym (are.behind k ge within) ∙ less.0)
      ]);
}

pub all_candidates : AreCandidates [] 0 how_many
all_candidates = record {
  inside = λ k low high. refl;
  before = λ k high. absurd (omega arith);
  behind = λ k low within. absurd (omega arith);
}

-- there are such names, or there are none
pub some_begin : (seen : List ℕ) (from to : ℕ) → from < to → to ≤ how_many → AreCandidates seen from to → is_beginning references seen ≡ true
some_begin seen from to some within are =
    list_any_at (λ (r : Reference). begins same seen r.0) references from ([], []) (within_list from (omega arith)) (are.inside from (omega arith) some)

pub none_begin : (seen : List ℕ) (from to : ℕ) → from ≡ to → AreCandidates seen from to → is_beginning references seen ≡ false
none_begin seen from to none are =
    or_from_places (list_any (λ (r : Reference). begins same seen r.0)) (λ (r : Reference). begins same seen r.0) refl (λ _ _. refl) references ([], []) (λ i lt.
    elim (cases_lt i from) as (λ _. begins same seen (name_of i) ≡ false) [
      | inl low ↦ are.before i low
      | inr ge ↦ are.behind i (omega arith) (omega (arith, length-references))
    ])

pub begin_by : (seen : List ℕ) (from to : ℕ) (none : Bool) → (from == to) ≡ none → from ≤ to → to ≤ how_many → AreCandidates seen from to → not none ≡ is_beginning references seen
begin_by seen from to true e le within are = sym (none_begin seen from to (eqb-true from to e) are)
begin_by seen from to false e le within are =
    let other : from ≡ to → ⊥ = eqb-false from to e in
    sym (some_begin seen from to (omega arith) within are)

pub begin_by_test : (seen : List ℕ) (from to : ℕ) → from ≤ to → to ≤ how_many → AreCandidates seen from to → not (from == to) ≡ is_beginning references seen
begin_by_test seen from to = begin_by seen from to (from == to) refl

pub lt_by : (from to : ℕ) → (from == to) ≡ false → from ≤ to → from < to
lt_by from to e le = let other : from ≡ to → ⊥ = eqb-false from to e in omega arith

-- what was seen, with more of a text
length_so_far : (seen text : List ℕ) (len : ℕ) → len ≤ length text → length (seen ++ take len text) ≡ length seen + len
length_so_far seen text len le = length-append seen (take len text) ∙ ap (λ n. length seen + n) (length-take-le len text le)

byte_more : (seen text : List ℕ) (len : ℕ) → len < length text → (seen ++ take len text) ++ get_or text len 0 ∷ [] ≡ seen ++ take (len + 1) text
byte_more seen text len lt = append_assoc seen (take len text) (get_or text len 0 ∷ []) ∙ ap (λ more. seen ++ more) (sym (take_more text len 0 lt))

pub narrowed_more : (seen text : List ℕ) (len depth from to first last : ℕ) → depth ≡ length seen + len → len < length text → AreCandidates (seen ++ take len text) from to → ((s : List ℕ) → length s ≡ depth → AreCandidates s from to → AreCandidates (s ++ get_or text len 0 ∷ []) first last) → AreCandidates (seen ++ take (len + 1) text) first last
narrowed_more seen text len depth from to first last e lt are step =
    subst (λ s. AreCandidates s first last) (byte_more seen text len lt) (step (seen ++ take len text) (length_so_far seen text len (omega arith) ∙ sym e) are)

-- all names begin with the empty text
pub nothing_begins : is_beginning references [] ≡ true
nothing_begins = some_begin [] 0 how_many (omega arith) (omega arith) all_candidates
