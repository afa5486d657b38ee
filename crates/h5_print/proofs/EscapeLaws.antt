-- Escapes, from the start of a text.
use Rattle.std.proofs.Common.{◌≡◌, ℕ, suc, ◌<◌, ◌≤◌, subst, ⊎_elim, length-append, Bool, true, false, ◌||◌, List, [], ◌∷◌, ◌++◌, Option, Some, None, cond, eqb, length, get_or, refl, sym, ap, ◌∙◌, arith, append_assoc, append-nil}
use Rattle.std.specs.Option.{option_map}
use Rattle.std.specs.List.{list_any}
use Rattle.std.specs.Char.{encode_utf8}
use Rattle.std.proofs.lemmas.Bool.{eqb-true, ne_eqb, cases_lt}
use Rattle.std.proofs.lemmas.List.{get_or_append_left}
use Rattle.std.proofs.lemmas.Bool.Decides.{nat_tests}
use Rattle.std.proofs.lemmas.Str.{encode_ascii, length-encode, len_utf8_bounds, char_from_byte, inside_one}
use Rattle.h5_print.specs.Escapes.{letter_of, byte_of, written_by, escape, put, unescape, is_raw}

-- a byte other than the backslash means itself
pub unescape_plain : (c : ℕ) (xs : List ℕ) → eqb c 92 ≡ false → unescape (c ∷ xs) ≡ put (Some c) (unescape xs)
unescape_plain c [] h = rw h refl
unescape_plain c (d ∷ xs) h = rw h refl

-- the escape of a byte determines it
data Tells (c : ℕ) : Option ℕ → Type 0 where
  Itself : eqb c 92 ≡ false → Tells c None
  Lettered : (letter : ℕ) → byte_of letter ≡ Some c → Tells c (Some letter)

choose : (c k letter : ℕ) (o : Option ℕ) → byte_of letter ≡ Some k → (eqb c k ≡ false → Tells c o) → Tells c (cond (eqb c k) (Some letter) o)
choose c k letter o h g = by (eqb c k) refl
  where
    by : (b : Bool) → eqb c k ≡ b → Tells c (cond b (Some letter) o)
    by true e = Lettered letter (h ∙ ap Some (sym (eqb-true c k e)))
    by false e = g e

tells : (c : ℕ) → Tells c (letter_of c)
tells c =
    choose c 10 110 _ refl (λ a. choose c 9 116 _ refl (λ b. choose c 12 102 _ refl (λ d. choose c 13 114 _ refl (λ e. choose c 0 48 _ refl (λ f. choose c 92 92 _ refl (λ g. Itself g))))))

unescape_one : {o : Option ℕ} (c : ℕ) (xs : List ℕ) → Tells c o → unescape (written_by o c ++ xs) ≡ put (Some c) (unescape xs)
unescape_one c xs (Itself h) = unescape_plain c xs h
unescape_one c xs (Lettered letter h) = ap (λ o. put o (unescape xs)) h

-- what was written is read again
pub unescape-escape : (xs : List ℕ) → unescape (escape xs) ≡ Some xs
unescape-escape [] = refl
unescape-escape (c ∷ xs) = unescape_one c (escape xs) (tells c) ∙ ap (put (Some c)) (unescape-escape xs)

-- ---- characters

byte_of_high : (c : ℕ) → 128 ≤ c → byte_of c ≡ None
byte_of_high c h = grind (arith, nat_tests)

letter_of_high : (c : ℕ) → 128 ≤ c → letter_of c ≡ None
letter_of_high c h = grind (arith, nat_tests)

none-some : {P : Type 0} {x : ℕ} {o : Option ℕ} → o ≡ None → o ≡ Some x → P
none-some e f = cc

pub byte_of_low : (c d : ℕ) → byte_of c ≡ Some d → c < 128
byte_of_low c d e = ⊎_elim (λ low. low) (λ high. none-some (byte_of_high c high) e) (cases_lt c 128)

low_by : (b : Bool) (k l : ℕ) (o : Option ℕ) → k < 128 → (o ≡ Some l → l < 128) → cond b (Some k) o ≡ Some l → l < 128
low_by true k l o h g e = let same : k ≡ l = cc in omega arith
low_by false k l o h g e = g e

none_low : (l : ℕ) → None ≡ Some l → l < 128
none_low l e = none-some refl e

pub low_byte : (c d : ℕ) → byte_of c ≡ Some d → d < 128
low_byte c d =
    low_by (eqb c 110) 10 d _ (omega arith) (low_by (eqb c 116) 9 d _ (omega arith) (low_by (eqb c 102) 12 d _ (omega arith)
    (low_by (eqb c 114) 13 d _ (omega arith) (low_by (eqb c 48) 0 d _ (omega arith) (low_by (eqb c 92) 92 d _ (omega arith) (none_low d))))))

some_bytes : (c : ℕ) (rest : List ℕ) → 0 < length (encode_utf8 c ++ rest)
some_bytes c rest = omega (arith, length-append (encode_utf8 c) rest, length-encode c, (len_utf8_bounds c).0)

-- a letter after a backslash that has a byte
pub behind_some : (text rest : List ℕ) (c d : ℕ) → text ≡ encode_utf8 c ++ rest → byte_of c ≡ Some d → unescape (92 ∷ text) ≡ put (Some d) (unescape rest)
behind_some text rest c d e h =
    ap (λ l. unescape (92 ∷ l)) (e ∙ ap (λ l. l ++ rest) (encode_ascii c (byte_of_low c d h))) ∙ ap (λ o. put o (unescape rest)) h

-- and one that has none
pub behind_none : (text rest : List ℕ) (c : ℕ) → text ≡ encode_utf8 c ++ rest → byte_of c ≡ None → unescape (92 ∷ text) ≡ None
behind_none [] rest c e h = absurd (omega (arith, some_bytes c rest, ap length e))
behind_none (b ∷ bs) rest c e h = ap (λ o. put o (unescape bs)) none
  where
    none : byte_of b ≡ None
    none = ⊎_elim (λ low. ap byte_of (sym (char_from_byte (b ∷ bs) rest c e low (omega arith))) ∙ h) (byte_of_high b) (cases_lt b 128)

pub shorter : (text rest : List ℕ) (c : ℕ) → text ≡ encode_utf8 c ++ rest → length rest < length text
shorter text rest c e = omega (arith, ap length e, length-append (encode_utf8 c) rest, length-encode c, (len_utf8_bounds c).0)

-- ---- reading

-- a byte before a text, if the text is present
abbrev pub onto : List ℕ → Option (List ℕ) → Option (List ℕ)
onto front = option_map (λ t. front ++ t)

onto_put : (c : ℕ) (front : List ℕ) (o : Option (List ℕ)) → put (Some c) (onto front o) ≡ onto (c ∷ front) o
onto_put c front None = refl
onto_put c front (Some t) = refl

onto_nil : (o : Option (List ℕ)) → o ≡ onto [] o
onto_nil None = refl
onto_nil (Some t) = refl

pub onto_empty : (out : List ℕ) (o : Option (List ℕ)) → out ≡ [] → onto out o ≡ o
onto_empty out o e = ap (λ l. onto l o) e ∙ sym (onto_nil o)

-- a text in which no byte is a backslash, before another
pub unescape_front : (front xs : List ℕ) → ((k : ℕ) → k < length front → get_or front k 0 ≡ 92 → ⊥) → unescape (front ++ xs) ≡ onto front (unescape xs)
unescape_front [] xs h = onto_nil (unescape xs)
unescape_front (c ∷ front) xs h =
    unescape_plain c (front ++ xs) (false-from (h 0 (omega arith)))
    ∙ ap (put (Some c)) (unescape_front front xs (λ k lt. h (suc k) (omega arith)))
    ∙ onto_put c front (unescape xs)
  where
    false-from : (c ≡ 92 → ⊥) → eqb c 92 ≡ false
    false-from ne = ne_eqb c 92 ne

pub unescape_all : (xs : List ℕ) → ((k : ℕ) → k < length xs → get_or xs k 0 ≡ 92 → ⊥) → unescape xs ≡ Some xs
unescape_all xs h = ap unescape (sym (append-nil xs)) ∙ unescape_front xs [] h ∙ ap Some (append-nil xs)

onto_both : (out front : List ℕ) (c : ℕ) (o : Option (List ℕ)) → onto out (onto front (put (Some c) o)) ≡ onto ((out ++ front) ++ c ∷ []) o
onto_both out front c None = refl
onto_both out front c (Some t) = ap Some (sym (append_assoc (out ++ front) (c ∷ []) t ∙ append_assoc out front (c ∷ t)))

-- one more escape was read
pub read_more : (text rest front behind after out mid new : List ℕ) (c : ℕ) → rest ≡ front ++ 92 ∷ behind → ((k : ℕ) → k < length front → get_or front k 0 ≡ 92 → ⊥) → unescape (92 ∷ behind) ≡ put (Some c) (unescape after) → mid ≡ out ++ front → new ≡ mid ++ encode_utf8 c → c < 128 → onto out (unescape rest) ≡ unescape text → onto new (unescape after) ≡ unescape text
read_more text rest front behind after out mid new c e none found f g low h =
    ap (λ l. onto l (unescape after)) (g ∙ (λ i. f i ++ encode_ascii c low i))
    ∙ sym (onto_both out front c (unescape after))
    ∙ ap (λ o. onto out (onto front o)) (sym found)
    ∙ ap (onto out) (sym (ap unescape e ∙ unescape_front front (92 ∷ behind) none))
    ∙ h

-- an invalid escape
pub read_none : (text rest front behind out : List ℕ) → rest ≡ front ++ 92 ∷ behind → ((k : ℕ) → k < length front → get_or front k 0 ≡ 92 → ⊥) → unescape (92 ∷ behind) ≡ None → onto out (unescape rest) ≡ unescape text → None ≡ unescape text
read_none text rest front behind out e none found h =
    ap (λ o. onto out (onto front o)) (sym found) ∙ ap (onto out) (sym (ap unescape e ∙ unescape_front front (92 ∷ behind) none)) ∙ h

-- the last part
pub read_last : (text rest out new : List ℕ) → ((k : ℕ) → k < length rest → get_or rest k 0 ≡ 92 → ⊥) → new ≡ out ++ rest → onto out (unescape rest) ≡ unescape text → Some new ≡ unescape text
read_last text rest out new none e h = ap Some e ∙ ap (onto out) (sym (unescape_all rest none)) ∙ h

-- ---- writing

escape_high : (xs rest : List ℕ) → ((k : ℕ) → k < length xs → 128 ≤ get_or xs k 0) → escape (xs ++ rest) ≡ xs ++ escape rest
escape_high [] rest h = refl
escape_high (x ∷ xs) rest h =
    ap (λ o. written_by o x ++ escape (xs ++ rest)) (letter_of_high x (h 0 (omega arith)))
    ∙ ap (λ l. x ∷ l) (escape_high xs rest (λ k lt. h (suc k) (omega arith)))

-- and one that has none
pub escape_plain : (xs rest : List ℕ) (c : ℕ) → xs ≡ encode_utf8 c ++ rest → letter_of c ≡ None → escape xs ≡ encode_utf8 c ++ escape rest
escape_plain xs rest c e h = ap escape e ∙ ⊎_elim low high (cases_lt c 128)
  where
    low : c < 128 → escape (encode_utf8 c ++ rest) ≡ encode_utf8 c ++ escape rest
    low lt = let P : List ℕ → Type 0 = λ l. escape (l ++ rest) ≡ l ++ escape rest in subst P (sym (encode_ascii c lt)) (ap (λ o. written_by o c ++ escape rest) h)

    high : 128 ≤ c → escape (encode_utf8 c ++ rest) ≡ encode_utf8 c ++ escape rest
    high le = escape_high (encode_utf8 c) rest (λ k lt. ⊎_elim (λ below. absurd (omega (arith, inside_one c rest (encode_utf8 c ++ rest) k refl lt (omega (arith, get_or_append_left (encode_utf8 c) rest 0 k lt)), get_or_append_left (encode_utf8 c) rest 0 k lt))) (λ above. above) (cases_lt (get_or (encode_utf8 c) k 0) 128))

-- ---- back

-- the letter, by which byte it is
abbrev letter_by : (a b d e f g : Bool) → Option ℕ
letter_by a b d e f g = cond a (Some 110) (cond b (Some 116) (cond d (Some 102) (cond e (Some 114) (cond f (Some 48) (cond g (Some 92) None)))))

letter_none : (a b d e f g : Bool) → (a || (b || (d || (e || f)))) ≡ false → g ≡ false → letter_by a b d e f g ≡ None
letter_none true b d e f g h k = cc
letter_none false true d e f g h k = cc
letter_none false false true e f g h k = cc
letter_none false false false true f g h k = cc
letter_none false false false false true g h k = cc
letter_none false false false false false true h k = cc
letter_none false false false false false false h k = refl

-- the byte of a letter has that letter
data Named (letter : ℕ) : Option ℕ → Type 0 where
  NoByte : Named letter None
  OneByte : (c : ℕ) → letter_of c ≡ Some letter → Named letter (Some c)

pick : (letter k c : ℕ) (o : Option ℕ) → letter_of c ≡ Some k → Named letter o → Named letter (cond (eqb letter k) (Some c) o)
pick letter k c o h n = by (eqb letter k) refl
  where
    by : (b : Bool) → eqb letter k ≡ b → Named letter (cond b (Some c) o)
    by true e = OneByte c (h ∙ ap Some (sym (eqb-true letter k e)))
    by false e = n

named : (letter : ℕ) → Named letter (byte_of letter)
named letter =
    pick letter 110 10 _ refl (pick letter 116 9 _ refl (pick letter 102 12 _ refl
    (pick letter 114 13 _ refl (pick letter 48 0 _ refl (pick letter 92 92 _ refl NoByte)))))

escaped_back : {o : Option ℕ} (c d : ℕ) (xs text : List ℕ) (u : Option (List ℕ)) → Named d o → eqb c 92 ≡ true → ((t : List ℕ) → unescape xs ≡ Some t → escape t ≡ xs) → unescape xs ≡ u → put o u ≡ Some text → escape text ≡ c ∷ d ∷ xs
escaped_back c d xs text u NoByte q rest s e = cc
escaped_back c d xs text None (OneByte b m) q rest s e = cc
escaped_back c d xs text (Some t) (OneByte b m) q rest s e =
    let same : b ∷ t ≡ text = cc in
    ap escape (sym same) ∙ ap (λ o. written_by o b ++ escape t) m ∙ ap (λ l. 92 ∷ d ∷ l) (rest t s) ∙ ap (λ x. x ∷ d ∷ xs) (sym (eqb-true c 92 q))

plain_back : (c : ℕ) (xs text : List ℕ) (u : Option (List ℕ)) → letter_of c ≡ None → ((t : List ℕ) → unescape xs ≡ Some t → escape t ≡ xs) → unescape xs ≡ u → put (Some c) u ≡ Some text → escape text ≡ c ∷ xs
plain_back c xs text None m rest s e = cc
plain_back c xs text (Some t) m rest s e =
    let same : c ∷ t ≡ text = cc in
    ap escape (sym same) ∙ ap (λ o. written_by o c ++ escape t) m ∙ ap (λ l. c ∷ l) (rest t s)

last_back : (b : Bool) (c : ℕ) (text : List ℕ) → eqb c 92 ≡ b → is_raw c ≡ false → cond b None (Some (c ∷ [])) ≡ Some text → escape text ≡ c ∷ []
last_back true c text q raw e = cc
last_back false c text q raw e =
    let same : c ∷ [] ≡ text = cc in
    ap escape (sym same) ∙ ap (λ o. written_by o c ++ []) (letter_none (eqb c 10) (eqb c 9) (eqb c 12) (eqb c 13) (eqb c 0) (eqb c 92) raw q)

more_back : (b : Bool) (c d : ℕ) (xs text : List ℕ) → eqb c 92 ≡ b → is_raw c ≡ false → ((t : List ℕ) → unescape xs ≡ Some t → escape t ≡ xs) → ((t : List ℕ) → unescape (d ∷ xs) ≡ Some t → escape t ≡ d ∷ xs) → cond b (put (byte_of d) (unescape xs)) (put (Some c) (unescape (d ∷ xs))) ≡ Some text → escape text ≡ c ∷ d ∷ xs
more_back true c d xs text q raw rest next e = escaped_back c d xs text (unescape xs) (named d) q rest refl e
more_back false c d xs text q raw rest next e =
    plain_back c (d ∷ xs) text (unescape (d ∷ xs)) (letter_none (eqb c 10) (eqb c 9) (eqb c 12) (eqb c 13) (eqb c 0) (eqb c 92) raw q) next refl e

first_false : (a b : Bool) → (a || b) ≡ false → a ≡ false
first_false true b h = h
first_false false b h = refl

second_false : (a b : Bool) → (a || b) ≡ false → b ≡ false
second_false true b h = cc
second_false false b h = h

-- what is read is written again unchanged, unless it has a byte that always has an escape
pub escape-unescape : (written text : List ℕ) → list_any is_raw written ≡ false → unescape written ≡ Some text → escape text ≡ written
escape-unescape [] text h e = let same : [] ≡ text = cc in ap escape (sym same)
escape-unescape (c ∷ []) text h e = last_back (eqb c 92) c text refl (first_false (is_raw c) false h) e
escape-unescape (c ∷ d ∷ xs) text h e =
    let behind = second_false (is_raw c) (list_any is_raw (d ∷ xs)) h in
    more_back (eqb c 92) c d xs text refl (first_false (is_raw c) (list_any is_raw (d ∷ xs)) h)
    (λ t. escape-unescape xs t (second_false (is_raw d) (list_any is_raw xs) behind))
    (λ t. escape-unescape (d ∷ xs) t behind) e
