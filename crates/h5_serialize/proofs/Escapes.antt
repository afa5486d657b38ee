-- A search for bytes finds the characters with an escape.
use Rattle.std.proofs.Common.{◌≡◌, ℕ, ◌<◌, ◌≤◌, ◌+◌, ◌-◌, Bool, true, false, ◌||◌, ◌&&◌, List, [], ◌∷◌, ◌++◌, cond, eqb, length, take, drop, get_or, refl, sym, ap, ◌∙◌, subst, arith, append_assoc, length-append, take-append-drop, IsUtf8, get_or-take, length-take-le, add_assoc, length-drop, get_or-drop, take_all}
use Rattle.std.proofs.lemmas.List.{get_or-append-add, get_or_past}
use Rattle.std.proofs.lemmas.Bool.{cases_lt}
use Rattle.std.proofs.lemmas.Str.{encode_ascii, length-encode, len_utf8_bounds}
use Rattle.std.proofs.lemmas.Bool.{eqb-true, false≢true}
use Rattle.std.proofs.Common.{⊎_elim}
use Rattle.std.specs.Char.{encode_utf8}
use Rattle.std.specs.List.{flat_map}
use Rattle.std.specs.Str.{chars, IsCharBoundary, encode_utf8_all}
use Rattle.std.proofs.lemmas.Str.{IsUtf8-take, chars-append, encodes-chars, chars_past_char}
use Rattle.std.specs.Io.KnownBytes.{Appends}
use Rattle.std.proofs.Common.{Option, Some, None}
use Rattle.memchr.specs.Find.{is_byte3}
use Rattle.h5_serialize.specs.Escape.{escape_char, escape}
use Rattle.h5_serialize.specs.Places.{begins_reference, HasNoMarkBefore}

-- no character with an escape begins below n
abbrev pub Clean : Bool → List ℕ → ℕ → Type 0
Clean value xs n = (k : ℕ) → k < n → begins_reference value (get_or xs k 0) (get_or xs (k + 1) 0) ≡ false

all_append : (value : Bool) (cs ds : List ℕ) → flat_map (escape_char value) (cs ++ ds) ≡ flat_map (escape_char value) cs ++ flat_map (escape_char value) ds
all_append value [] ds = refl
all_append value (c ∷ cs) ds = ap (λ l. escape_char value c ++ l) (all_append value cs ds) ∙ sym (append_assoc (escape_char value c) _ _)

cond_case : (b : Bool) (x y z : List ℕ) → (b ≡ true → ⊥) → y ≡ z → cond b x y ≡ z
cond_case true x y z f h = absurd (f refl)
cond_case false x y z f h = h

nbsp_special : (value : Bool) → begins_reference value 194 160 ≡ true
nbsp_special true = refl
nbsp_special false = refl

first_ascii : (c : ℕ) (r : List ℕ) → c < 128 → get_or (encode_utf8 c ++ r) 0 0 ≡ c
first_ascii c r lt = ap (λ (l : List ℕ). get_or (l ++ r) 0 0) (encode_ascii c lt)

encode_nbsp : encode_utf8 160 ≡ 194 ∷ 160 ∷ []
unfolding encode_utf8
encode_nbsp = refl

-- a byte that would be found
found_by : (value : Bool) (c s : ℕ) (r : List ℕ) → s < 128 → ((y : ℕ) → begins_reference value s y ≡ true) → begins_reference value (get_or (encode_utf8 c ++ r) 0 0) (get_or (encode_utf8 c ++ r) 1 0) ≡ false → eqb c s ≡ true → ⊥
found_by value c s r lt f h e =
    let same = eqb-true c s e in
    let small : c < 128 = omega (arith, same) in
    let first : get_or (encode_utf8 c ++ r) 0 0 ≡ s = first_ascii c r small ∙ same in
    false≢true (sym h ∙ ap (λ x. begins_reference value x (get_or (encode_utf8 c ++ r) 1 0)) first ∙ f (get_or (encode_utf8 c ++ r) 1 0))

nbsp_by : (value : Bool) (c : ℕ) (r : List ℕ) → begins_reference value (get_or (encode_utf8 c ++ r) 0 0) (get_or (encode_utf8 c ++ r) 1 0) ≡ false → eqb c 160 ≡ true → ⊥
nbsp_by value c r h e =
    let same : encode_utf8 c ≡ 194 ∷ 160 ∷ [] = ap encode_utf8 (eqb-true c 160 e) ∙ encode_nbsp in
    false≢true (sym h ∙ ap (λ (l : List ℕ). begins_reference value (get_or (l ++ r) 0 0) (get_or (l ++ r) 1 0)) same ∙ nbsp_special value)

quote_by : (value : Bool) (c : ℕ) (r : List ℕ) → begins_reference value (get_or (encode_utf8 c ++ r) 0 0) (get_or (encode_utf8 c ++ r) 1 0) ≡ false → (value && eqb c 34) ≡ true → ⊥
quote_by true c r h e = found_by true c 34 r (omega arith) (λ y. refl) h e
quote_by false c r h e = false≢true e

-- a character that has no escape
stays : (value : Bool) (c : ℕ) (r : List ℕ) → begins_reference value (get_or (encode_utf8 c ++ r) 0 0) (get_or (encode_utf8 c ++ r) 1 0) ≡ false → escape_char value c ≡ encode_utf8 c
stays value c r h =
    cond_case _ _ _ _ (found_by value c 38 r (omega arith) (λ y. refl) h)
    (cond_case _ _ _ _ (nbsp_by value c r h)
    (cond_case _ _ _ _ (found_by value c 60 r (omega arith) (λ y. refl) h)
    (cond_case _ _ _ _ (found_by value c 62 r (omega arith) (λ y. refl) h)
    (cond_case _ _ _ _ (quote_by value c r h) refl))))

next_clean : (value : Bool) (xs ys : List ℕ) → Clean value (xs ++ ys) (length (xs ++ ys)) → Clean value ys (length ys)
next_clean value xs ys h k lt =
    let here = get_or-append-add xs ys k 0 in
    let next : get_or (xs ++ ys) (length xs + k + 1) 0 ≡ get_or ys (k + 1) 0 = ap (λ n. get_or (xs ++ ys) n 0) (add_assoc (length xs) k 1) ∙ get_or-append-add xs ys (k + 1) 0 in
    sym (λ i. begins_reference value (here i) (next i)) ∙ h (length xs + k) (omega (arith, length-append xs ys))

clean_all : (value : Bool) (cs : List ℕ) → Clean value (encode_utf8_all cs) (length (encode_utf8_all cs)) → flat_map (escape_char value) cs ≡ encode_utf8_all cs
clean_all value [] h = refl
clean_all value (c ∷ cs) h =
    let some : 0 < length (encode_utf8 c ++ encode_utf8_all cs) = omega (arith, length-append (encode_utf8 c) (encode_utf8_all cs), length-encode c, (len_utf8_bounds c).0) in
    let here = stays value c (encode_utf8_all cs) (h 0 some) in
    let rest = clean_all value cs (next_clean value (encode_utf8 c) (encode_utf8_all cs) h) in
    λ i. here i ++ rest i

clean_text : (value : Bool) (xs : List ℕ) → IsUtf8 xs → Clean value xs (length xs) → escape value xs ≡ xs
clean_text value xs utf8 h =
    let same = encodes-chars xs utf8 in
    let P : List ℕ → Type 0 = λ l. Clean value l (length l) in
    clean_all value (chars xs) (subst P (sym same) h) ∙ same

weaker : (value : Bool) (x y : ℕ) → begins_reference value x y ≡ false → begins_reference value x 0 ≡ false
weaker value x y h = lemma (eqb x 38) (eqb x 60) (eqb x 62) (value && eqb x 34) (eqb x 194) (eqb y 160) h
  where
    lemma : (a b c d e f : Bool) → (a || (b || (c || (d || (e && f))))) ≡ false → (a || (b || (c || (d || (e && false))))) ≡ false
    lemma true b c d e f h = h
    lemma false true c d e f h = h
    lemma false false true d e f h = h
    lemma false false false true e f h = h
    lemma false false false false true f h = refl
    lemma false false false false false f h = refl

clean_take : (value : Bool) (xs : List ℕ) (n : ℕ) → n ≤ length xs → Clean value xs n → Clean value (take n xs) (length (take n xs))
clean_take value xs n le h k lt =
    let below : k < n = omega (arith, lt, length-take-le n xs le) in
    let here : get_or (take n xs) k 0 ≡ get_or xs k 0 = get_or-take n xs k 0 below in
    ⊎_elim
    (λ inside. let next : get_or (take n xs) (k + 1) 0 ≡ get_or xs (k + 1) 0 = get_or-take n xs (k + 1) 0 inside in (λ i. begins_reference value (here i) (next i)) ∙ h k below)
    (λ past. let next : get_or (take n xs) (k + 1) 0 ≡ 0 = get_or_past (take n xs) (k + 1) 0 (omega (arith, length-take-le n xs le)) in (λ i. begins_reference value (here i) (next i)) ∙ weaker value (get_or xs k 0) (get_or xs (k + 1) 0) (h k below))
    (cases_lt (k + 1) n)

-- the text before the first escape is unchanged
pub escape_split : (value : Bool) (xs : List ℕ) (n : ℕ) → IsUtf8 xs → IsCharBoundary xs n → Clean value xs n → escape value xs ≡ take n xs ++ escape value (drop n xs)
escape_split value xs n utf8 boundary h =
    let front = IsUtf8-take xs n utf8 boundary in
    ap (escape value) (sym (take-append-drop n xs))
    ∙ ap (flat_map (escape_char value)) (chars-append (take n xs) (drop n xs) front)
    ∙ all_append value (chars (take n xs)) (chars (drop n xs))
    ∙ ap (λ l. l ++ escape value (drop n xs)) (clean_text value (take n xs) front (clean_take value xs n boundary.0 h))

-- the first character
pub escape_one : (value : Bool) (xs rest : List ℕ) (c : ℕ) → IsUtf8 xs → xs ≡ encode_utf8 c ++ rest → escape value xs ≡ escape_char value c ++ escape value rest
escape_one value xs rest c utf8 e = ap (flat_map (escape_char value)) (chars_past_char xs rest c utf8 e)

not_true : (b : Bool) → (b ≡ true → ⊥) → b ≡ false
not_true true h = absurd (h refl)
not_true false h = refl

-- the text after an index
pub rest_same : (xs : List ℕ) (from : ℕ) → take (length xs - from) (drop from xs) ≡ drop from xs
rest_same xs from = take_all (length xs - from) (drop from xs) (omega (arith, length-drop from xs))

pub rest_length : (xs : List ℕ) (from : ℕ) → length (take (length xs - from) (drop from xs)) ≡ length xs - from
rest_length xs from = ap length (rest_same xs from) ∙ length-drop from xs

-- a search after an index, and the search in the whole text
pub rest_before : (test : ℕ → Bool) (xs : List ℕ) (from j k : ℕ) → ((n : ℕ) → 0 ≤ n → n < j → test (get_or (take (length xs - from) (drop from xs)) n 0) ≡ true → ⊥) → from ≤ k → k < from + j → test (get_or xs k 0) ≡ false
rest_before test xs from j k h low lt =
    let there : from + (k - from) ≡ k = omega arith in
    let here : get_or (take (length xs - from) (drop from xs)) (k - from) 0 ≡ get_or xs k 0 = ap (λ l. get_or l (k - from) 0) (rest_same xs from) ∙ get_or-drop from xs (k - from) 0 ∙ ap (λ n. get_or xs n 0) there in
    not_true (test (get_or xs k 0)) (λ e. h (k - from) (omega arith) (omega arith) (ap test here ∙ e))

pub no_mark_behind : (xs ys : List ℕ) → HasNoMarkBefore (xs ++ ys) (length (xs ++ ys)) → HasNoMarkBefore ys (length ys)
no_mark_behind xs ys h k lt = ap (is_byte3 38 60 62) (sym (get_or-append-add xs ys k 0)) ∙ h (length xs + k) (omega (arith, length-append xs ys))

-- the text after a character
pub no_mark_left : (text rest seen : List ℕ) (n c : ℕ) → HasNoMarkBefore text (length text) → drop n text ≡ encode_utf8 c ++ rest → seen ≡ rest → HasNoMarkBefore seen (length seen)
no_mark_left text rest seen n c h e same =
    let P : List ℕ → Type 0 = λ l. HasNoMarkBefore l (length l) in
    let behind = no_mark_behind (take n text) (drop n text) (subst P (sym (take-append-drop n text)) h) in
    subst P (sym same) (no_mark_behind (encode_utf8 c) rest (subst P e behind))

-- two texts, one after the other
pub escape_append : (value : Bool) (xs ys : List ℕ) → IsUtf8 xs → escape value (xs ++ ys) ≡ escape value xs ++ escape value ys
escape_append value xs ys front = ap (flat_map (escape_char value)) (chars-append xs ys front) ∙ all_append value (chars xs) (chars ys)

-- a prefix as it is, then a character
pub escape_step : (value : Bool) (xs : List ℕ) (n : ℕ) (front rest : List ℕ) (c : ℕ) → IsUtf8 xs → IsUtf8 (drop n xs) → IsCharBoundary xs n → Clean value xs n → front ≡ take n xs → drop n xs ≡ encode_utf8 c ++ rest → escape value xs ≡ (front ++ escape_char value c) ++ escape value rest
escape_step value xs n front rest c utf8 tail boundary h e f =
    escape_split value xs n utf8 boundary h
    ∙ ap (λ l. take n xs ++ l) (escape_one value (drop n xs) rest c tail f)
    ∙ sym (append_assoc (take n xs) (escape_char value c) (escape value rest))
    ∙ ap (λ l. (l ++ escape_char value c) ++ escape value rest) (sym e)

pub escape_last : (value : Bool) (xs : List ℕ) (n : ℕ) → IsUtf8 xs → n ≡ length xs → Clean value xs n → escape value xs ≡ xs
escape_last value xs n utf8 e h = let P : ℕ → Type 0 = λ k. Clean value xs k in clean_text value xs utf8 (subst P e h)

-- the contents of a writer after two writes
pub appends_both : (a b c : Option (List ℕ)) (x y z : List ℕ) → Appends a b x → Appends b c y → z ≡ x ++ y → Appends a c z
appends_both None b c x y z h g e = tt
appends_both (Some a) None c x y z h g e = absurd h
appends_both (Some a) (Some b) None x y z h g e = absurd g
appends_both (Some a) (Some b) (Some c) x y z h g e = g ∙ ap (λ l. l ++ y) h ∙ append_assoc a x y ∙ ap (λ l. a ++ l) (sym e)

-- everything is written except a remainder
pub record Wrote (old new : Option (List ℕ)) (all rest : List ℕ) : Type 0 where
  pub part : List ℕ
  pub appends : Appends old new part
  pub splits : all ≡ part ++ rest

pub wrote_more : (a b c : Option (List ℕ)) (all mid rest part : List ℕ) → Wrote a b all mid → Appends b c part → mid ≡ part ++ rest → Wrote a c all rest
wrote_more a b c all mid rest part w h e = record {
  part = w.part ++ part;
  appends = appends_both a b c w.part part (w.part ++ part) w.appends h refl;
  splits = w.splits ∙ ap (λ l. w.part ++ l) e ∙ sym (append_assoc w.part part rest);
}

pub shorter_after : (text : List ℕ) (n : ℕ) (rest seen : List ℕ) (c : ℕ) → drop n text ≡ encode_utf8 c ++ rest → seen ≡ rest → length seen < length text
shorter_after text n rest seen c e f = omega (arith, ap length e, ap length f, length-append (encode_utf8 c) rest, length-drop n text, length-encode c, (len_utf8_bounds c).0)

-- a prefix, then a character, then the remainder
pub escape_parts : (value : Bool) (text front rest : List ℕ) (n c : ℕ) → IsUtf8 front → IsUtf8 (drop n text) → front ≡ take n text → drop n text ≡ encode_utf8 c ++ rest → escape value text ≡ (escape value front ++ escape_char value c) ++ escape value rest
escape_parts value text front rest n c head tail e f =
    ap (escape value) (sym (take-append-drop n text) ∙ ap (λ l. l ++ drop n text) (sym e))
    ∙ escape_append value front (drop n text) head
    ∙ ap (λ l. escape value front ++ l) (escape_one value (drop n text) rest c tail f)
    ∙ sym (append_assoc (escape value front) (escape_char value c) (escape value rest))
