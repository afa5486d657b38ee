-- The bytes of a character outside ASCII.
use Rattle.std.proofs.Common.{◌≡◌, ℕ, ◌+◌, ◌/◌, ◌%◌, ◌<◌, ◌≤◌, Bool, true, false, List, [], ◌∷◌, ◌++◌, refl, ap, arith, cond, drop, length, length-append, ltb, sym, take, ◌&&◌, ◌∙◌}
use Rattle.std.proofs.lemmas.Bool.{and_from, le-leb, ltb-true}
use Rattle.std.proofs.lemmas.Grind.{common_steps}
use Rattle.std.proofs.lemmas.Str.{length-encode}
use Rattle.std.specs.Char.{encode_utf8, len_utf8}
use Rattle.std.specs.Prelude.{nat_le}
use Rattle.std.specs.List.{list_all}
use Rattle.h5_tokenizer_spec.specs.Spots.{is_inside}

-- the first is this one, and the others are inside the character
pub record WideCharacter (bytes : List ℕ) (b : ℕ) : Type 0 where
  pub others : List ℕ
  pub split : bytes ≡ b ∷ others
  pub within : list_all is_inside others ≡ true

abbrev next : ℕ → ℕ
next bits = 128 + bits % 64

inside_next : (n : ℕ) → is_inside (next n) ≡ true
inside_next n = and_from (nat_le 128 (next n)) (nat_le (next n) 191) (le-leb 128 (next n) (omega arith)) (le-leb (next n) 191 (omega arith))

pub first_same : {x y : ℕ} {xs ys : List ℕ} → x ∷ xs ≡ y ∷ ys → x ≡ y
first_same e = cc

wide_by : (x y z : Bool) (c b : ℕ) (behind tail : List ℕ) → (x ≡ true → c < 128)
    → cond x (c ∷ []) (cond y ((192 + c / 64) ∷ next c ∷ []) (cond z ((224 + c / 4096) ∷ next (c / 64) ∷ next c ∷ []) ((240 + c / 262144) ∷ next (c / 4096) ∷ next (c / 64) ∷ next c ∷ []))) ++ behind ≡ b ∷ tail
    → 128 ≤ b
    → WideCharacter (cond x (c ∷ []) (cond y ((192 + c / 64) ∷ next c ∷ []) (cond z ((224 + c / 4096) ∷ next (c / 64) ∷ next c ∷ []) ((240 + c / 262144) ∷ next (c / 4096) ∷ next (c / 64) ∷ next c ∷ [])))) b
wide_by true y z c b behind tail small e low = absurd (omega (arith, small refl, low, first_same e))
wide_by false true z c b behind tail small e low = record {
  others = next c ∷ [];
  split = ap (λ l. l ∷ next c ∷ []) (first_same e);
  within = and_from (is_inside (next c)) true (inside_next c) refl;
}
wide_by false false true c b behind tail small e low = record {
  others = next (c / 64) ∷ next c ∷ [];
  split = ap (λ l. l ∷ next (c / 64) ∷ next c ∷ []) (first_same e);
  within = and_from (is_inside (next (c / 64))) (is_inside (next c) && true) (inside_next (c / 64)) (and_from (is_inside (next c)) true (inside_next c) refl);
}
wide_by false false false c b behind tail small e low = record {
  others = next (c / 4096) ∷ next (c / 64) ∷ next c ∷ [];
  split = ap (λ l. l ∷ next (c / 4096) ∷ next (c / 64) ∷ next c ∷ []) (first_same e);
  within = and_from (is_inside (next (c / 4096))) (is_inside (next (c / 64)) && (is_inside (next c) && true)) (inside_next (c / 4096))
      (and_from (is_inside (next (c / 64))) (is_inside (next c) && true) (inside_next (c / 64)) (and_from (is_inside (next c)) true (inside_next c) refl));
}

pub encoded_wide : (c b : ℕ) (behind tail : List ℕ) → encode_utf8 c ++ behind ≡ b ∷ tail → 128 ≤ b → WideCharacter (encode_utf8 c) b
unfolding encode_utf8
encoded_wide c b behind tail e low = wide_by (ltb c 128) (ltb c 2048) (ltb c 65536) c b behind tail (ltb-true c 128) e low

-- the bytes of the first character, and what follows them
front_of : (xs ys : List ℕ) → take (length xs) (xs ++ ys) ≡ xs
front_of xs ys = grind (arith, common_steps)

back_of : (xs ys : List ℕ) → drop (length xs) (xs ++ ys) ≡ ys
back_of xs ys = grind (arith, common_steps)

pub first_taken : (c n : ℕ) (rest behind : List ℕ) → rest ≡ encode_utf8 c ++ behind → n ≡ len_utf8 c → take n rest ≡ encode_utf8 c
first_taken c n rest behind e f = (λ i. take ((f ∙ sym (length-encode c)) i) (e i)) ∙ front_of (encode_utf8 c) behind

pub first_dropped : (c n : ℕ) (rest behind : List ℕ) → rest ≡ encode_utf8 c ++ behind → n ≡ len_utf8 c → drop n rest ≡ behind
first_dropped c n rest behind e f = (λ i. drop ((f ∙ sym (length-encode c)) i) (e i)) ∙ back_of (encode_utf8 c) behind

-- what follows a character is shorter
pub behind_is_shorter : (xs front behind others : List ℕ) (x : ℕ) → xs ≡ front ++ behind → front ≡ x ∷ others → length behind < length xs
behind_is_shorter xs front behind others x whole split =
    let all : length xs ≡ length (front ++ behind) = ap length whole in
    let some : length front ≡ length (x ∷ others) = ap length split in
    omega (arith, all, some, length-append front behind)
