-- The text of a fragment begins with U+FEFF only if its first text does.
use Rattle.std.proofs.Common.{◌≡◌, ◌⊎◌, ◌∙◌, ◌&&◌, ◌==◌, ◌+◌, ◌/◌, ◌%◌, ◌<◌, ◌≤◌, ℕ, Bool, true, false, cond, List, [], ◌∷◌, ◌++◌, IsUtf8, length, nat_lt, codes, if◌then◌else◌, ap, arith, inl, inr, refl, sym, append_assoc}
use Rattle.std.specs.Char.{encode_utf8}
use Rattle.std.specs.List.{flat_map}
use Rattle.std.specs.Str.{encode_utf8_all}
use Rattle.std.proofs.lemmas.Bool.{eqb-true, ltb-true}
use Rattle.h5_serialize.specs.Escape.{escape, escape_char}
use Rattle.std.proofs.lemmas.Str.{chars-encodes}
use Rattle.h5_markup.specs.Matching.{Found, No, Open}
use Rattle.h5_standard_tokenizer.specs.Mark.{behind, behind_mark}
use Rattle.h5_builder_laws.specs.Plain.{ElementThen, End, Flow, IsPlain, Nodes, TextThen, Words, nothing_open}
use Rattle.h5_round_trip.specs.Readable.{CanBeRead}
use Rattle.h5_round_trip.specs.Written.{written_fragment}
use Rattle.h5_round_trip.proofs.ShapeLaws.{Element, None as NoNode, Shape, Title, Void, shape}
use Rattle.h5_clean.specs.Pass.{text_then, with_first}
use Rattle.h5_clean.specs.Texts.{without_marks}

-- a text begins with it, or the reader of a fragment takes nothing
IsMarked : List ℕ → Type 0
IsMarked xs = (rest : List ℕ) × (xs ≡ 0xef ∷ 0xbb ∷ 0xbf ∷ rest)

marked_or_not : (xs : List ℕ) → (behind_mark true xs ≡ xs) ⊎ IsMarked xs
unfolding IsMarked
marked_or_not [] = inl refl
marked_or_not (a ∷ []) = by (a == 0xef)
  where
    by : (p : Bool) → (behind (a ∷ []) (if p then Open else No) ≡ a ∷ []) ⊎ IsMarked (a ∷ [])
    by true = inl refl
    by false = inl refl
marked_or_not (a ∷ b ∷ []) = by (a == 0xef) (b == 0xbb)
  where
    by : (p q : Bool) → (behind (a ∷ b ∷ []) (if p then (if q then Open else No) else No) ≡ a ∷ b ∷ []) ⊎ IsMarked (a ∷ b ∷ [])
    by true true = inl refl
    by true false = inl refl
    by false q = inl refl
marked_or_not (a ∷ b ∷ c ∷ t) = by (a == 0xef) (b == 0xbb) (c == 0xbf) refl refl refl
  where
    by : (p q r : Bool) → (a == 0xef) ≡ p → (b == 0xbb) ≡ q → (c == 0xbf) ≡ r
        → (behind (a ∷ b ∷ c ∷ t) (if p then (if q then (if r then Found tt t else No) else No) else No) ≡ a ∷ b ∷ c ∷ t) ⊎ IsMarked (a ∷ b ∷ c ∷ t)
    by true true true e f g = inr (t, (λ i. eqb-true a 0xef e i ∷ eqb-true b 0xbb f i ∷ eqb-true c 0xbf g i ∷ t))
    by true true false e f g = inl refl
    by true false r e f g = inl refl
    by false q r e f g = inl refl

-- the encoding of a character, by its length
encode_cases : (c : ℕ) (P : List ℕ → Type 0) → ((x : ℕ) → x < 0xef → P (x ∷ [])) → ((x y : ℕ) → x < 0xef → P (x ∷ y ∷ [])) → ((x y z : ℕ) → P (x ∷ y ∷ z ∷ []))
    → ((x y z w : ℕ) → 0xef < x → P (x ∷ y ∷ z ∷ w ∷ [])) → P (encode_utf8 c)
unfolding encode_utf8
encode_cases c P one two three four = by (nat_lt c 128) (nat_lt c 2048) (nat_lt c 65536) refl refl
  where
    by : (a b d : Bool) → nat_lt c 128 ≡ a → nat_lt c 2048 ≡ b
        → P (cond a (c ∷ []) (cond b ((192 + c / 64) ∷ (128 + c % 64) ∷ []) (cond d ((224 + c / 4096) ∷ (128 + c / 64 % 64) ∷ (128 + c % 64) ∷ []) ((240 + c / 262144) ∷ (128 + c / 4096 % 64) ∷ (128 + c / 64 % 64) ∷ (128 + c % 64) ∷ []))))
    by true b d small big = one c (omega (arith, ltb-true c 128 small))
    by false true d small big = two (192 + c / 64) (128 + c % 64) (omega (arith, ltb-true c 2048 big))
    by false false true small big = three (224 + c / 4096) (128 + c / 64 % 64) (128 + c % 64)
    by false false false small big = four (240 + c / 262144) (128 + c / 4096 % 64) (128 + c / 64 % 64) (128 + c % 64) (omega arith)

-- one that begins as U+FEFF is U+FEFF
abbrev IsMark : List ℕ → List ℕ → List ℕ → Type 0
IsMark more rest l = l ++ more ≡ 0xef ∷ 0xbb ∷ 0xbf ∷ rest → l ≡ 0xef ∷ 0xbb ∷ 0xbf ∷ []

heads : {x y : ℕ} {xs ys : List ℕ} → ◌≡◌ {A = List ℕ} (x ∷ xs) (y ∷ ys) → (x ≡ y) × (xs ≡ ys)
heads e = (cc, cc)

encode_is_mark : (c : ℕ) (more rest : List ℕ) → IsMark more rest (encode_utf8 c)
encode_is_mark c more rest =
    encode_cases c (IsMark more rest) (λ x small e. absurd (let h = (heads e).0 in omega (arith, small, h))) (λ x y small e. absurd (let h = (heads e).0 in omega (arith, small, h)))
    (λ x y z e. let h = heads e in let k = heads h.1 in let l = heads k.1 in (λ i. h.0 i ∷ k.0 i ∷ l.0 i ∷ []))
    (λ x y z w big e. absurd (let h = (heads e).0 in omega (arith, big, h)))

-- and so is one whose escape begins so
escape_is_mark : (c : ℕ) (more rest : List ℕ) → escape_char false c ++ more ≡ 0xef ∷ 0xbb ∷ 0xbf ∷ rest → encode_utf8 c ≡ 0xef ∷ 0xbb ∷ 0xbf ∷ []
escape_is_mark c more rest e = by (c == 0x26) (c == 0xa0) (c == 0x3c) (c == 0x3e) e
  where
    other : (l : List ℕ) → (38 ∷ l) ++ more ≡ 0xef ∷ 0xbb ∷ 0xbf ∷ rest → encode_utf8 c ≡ 0xef ∷ 0xbb ∷ 0xbf ∷ []
    other l f = absurd (let h = (heads f).0 in omega (arith, h))

    by : (a b d g : Bool)
        → (if a then codes "&amp;" else (if b then codes "&nbsp;" else (if d then codes "&lt;" else (if g then codes "&gt;" else encode_utf8 c)))) ++ more ≡ 0xef ∷ 0xbb ∷ 0xbf ∷ rest
        → encode_utf8 c ≡ 0xef ∷ 0xbb ∷ 0xbf ∷ []
    by true b d g f = other (codes "amp;") f
    by false true d g f = other (codes "nbsp;") f
    by false false true g f = other (codes "lt;") f
    by false false false true f = other (codes "gt;") f
    by false false false false f = encode_is_mark c more rest f

-- so where a text's does, the text does
text_marked : (b : ℕ) (t more : List ℕ) → IsUtf8 (b ∷ t) → IsMarked (escape false (b ∷ t) ++ more) → IsMarked (b ∷ t)
unfolding IsMarked
text_marked b t more ([], (s, e)) m = absurd (cc)
text_marked b t more (c ∷ cs, (s, e)) m =
    let written : escape false (b ∷ t) ++ more ≡ escape_char false c ++ (flat_map (escape_char false) cs ++ more) =
    ap (λ l. escape false l ++ more) (sym e) ∙ ap (λ l. flat_map (escape_char false) l ++ more) (chars-encodes (c ∷ cs) s) ∙ append_assoc (escape_char false c) (flat_map (escape_char false) cs) more in
    let first = escape_is_mark c (flat_map (escape_char false) cs ++ more) m.0 (sym written ∙ m.1) in
    (encode_utf8_all cs, sym e ∙ ap (λ l. l ++ encode_utf8_all cs) first)

-- nothing is left at its start
marks_shorter : (t : List ℕ) → length (without_marks t) ≤ length t
marks_shorter [] = omega arith
marks_shorter (a ∷ []) = omega arith
marks_shorter (a ∷ b ∷ []) = omega arith
marks_shorter (a ∷ b ∷ c ∷ t) = by ((a == 0xef) && ((b == 0xbb) && (c == 0xbf))) (marks_shorter t)
  where
    by : (m : Bool) → length (without_marks t) ≤ length t → length (cond m (without_marks t) (a ∷ b ∷ c ∷ t)) ≤ length (a ∷ b ∷ c ∷ t)
    by true h = omega (arith, h)
    by false h = omega arith

unmarked_stays : (t : List ℕ) → without_marks t ≡ t → ¬ (IsMarked t)
unfolding IsMarked
unmarked_stays t e m =
    let same : without_marks m.0 ≡ 0xef ∷ 0xbb ∷ 0xbf ∷ m.0 = sym (ap without_marks m.1) ∙ e ∙ m.1 in
    let long : length (without_marks m.0) ≡ length m.0 + 3 = ap length same ∙ omega arith in
    omega (arith, marks_shorter m.0, long)

-- no text follows a text
NotText : Nodes → Type 0
NotText (TextThen text rest) = ⊥
NotText _ = Unit {0}

no_text : (ns : Nodes) → Shape true ns → NotText ns
unfolding NotText
no_text End NoNode = tt
no_text _ (Void v p s) = tt
no_text _ (Element o p i s) = tt
no_text _ (Title p s) = tt

-- what a first text loses nothing of stays
text_stays : (t : List ℕ) (rest : Nodes) → IsPlain true (Flow true nothing_open) rest → text_then (without_marks t) rest ≡ TextThen t rest → without_marks t ≡ t
unfolding NotText
text_stays t rest p e = by (without_marks t) rest p e
  where
    by : (v : List ℕ) (r : Nodes) → IsPlain true (Flow true nothing_open) r → text_then v r ≡ TextThen t r → v ≡ t
    by [] End p e = absurd (cc)
    by [] (TextThen u r) p e = absurd (no_text (TextThen u r) (shape (TextThen u r) p))
    by [] (ElementThen name attrs inner r) p e = absurd (cc)
    by (b ∷ v) r p e = cc

pub text_unmarked : (ns : Nodes) → IsPlain true (Flow false nothing_open) ns → CanBeRead ns → with_first without_marks ns ≡ ns → behind_mark true (written_fragment ns) ≡ written_fragment ns
text_unmarked End p c e = refl
text_unmarked (ElementThen name attrs inner rest) p c e = refl
text_unmarked _ (Words {first = b} {more = t} {rest = rest} n p) c e =
    by (marked_or_not (escape false (b ∷ t) ++ written_fragment rest))
  where
    by : (behind_mark true (escape false (b ∷ t) ++ written_fragment rest) ≡ escape false (b ∷ t) ++ written_fragment rest) ⊎ IsMarked (escape false (b ∷ t) ++ written_fragment rest)
        → behind_mark true (escape false (b ∷ t) ++ written_fragment rest) ≡ escape false (b ∷ t) ++ written_fragment rest
    by (inl h) = h
    by (inr m) = absurd (unmarked_stays (b ∷ t) (text_stays (b ∷ t) rest p e) (text_marked b t (written_fragment rest) c.0.utf8 m))
