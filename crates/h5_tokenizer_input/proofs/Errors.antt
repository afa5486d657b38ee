-- Errors in UTF-8 don't depend on what follows them.
use Rattle.std.proofs.Common.{◌≡◌, ◌⊎◌, ℕ, ◌+◌, ◌/◌, ◌%◌, ◌<◌, ◌≤◌, true, false, Bool, Option, None, Some, List, [], ◌∷◌, ◌++◌, length, take, drop, slice_index, nat_lt, refl, sym, ap, subst, ◌∙◌, arith, inl, inr, ⊎_elim, cond, length-append}
use Rattle.std.specs.Int.{is_in_range}
use Rattle.std.specs.Char.{encode_utf8}
use Rattle.std.specs.Str.{StartsWithNoChar}
use Rattle.std.specs.Str.Lossy.{after_first_chunk, replacement_bytes, second_byte_min, second_byte_max, utf8_error_len, utf8_invalid_len, utf8_lossy, utf8_valid_len}
use Rattle.std.proofs.lemmas.Bool.{cases_lt, cond-true, cond-false}
use Rattle.std.proofs.lemmas.Bool.Decides.{nat_tests}
use Rattle.std.proofs.lemmas.List.{drop-append-le, get_or_append_left, take-append-drop, take-append-le}
use Rattle.std.proofs.lemmas.Str.{utf8_lossy_empty, utf8_lossy_step, utf8_valid_len-IsValidUpTo}
use Rattle.std.proofs.str.Lossy.{utf8_error_len-nil, utf8_error_len_some}
use Rattle.std.proofs.str.Laws.{Scalar, one, two, three, four}
use lib.Utf8.{scalar_cases}
use Rattle.std.specs.Option.{unwrap_or}
use Rattle.std.proofs.Math.Seq.{take-append_seam}
use Rattle.std.proofs.Math.ListN.{drop_of_length-le}
use Rattle.h5_tokenizer_input.proofs.Fronts.{stops_at_once}

-- `utf8_error_len` of n bytes that begin with x y z, of which the first exists, by how many of them are in order
abbrev of_three : (n z : ℕ) → Option ℕ
of_three n z = cond (is_in_range 0x80 0xBF z) (cond (nat_lt n 4) None (Some 3)) (Some 2)

abbrev of_two : (n x y z : ℕ) → Option ℕ
of_two n x y z = cond (is_in_range (second_byte_min x) (second_byte_max x) y) (cond (nat_lt n 3) None (of_three n z)) (Some 1)

abbrev of_one : (n x y z : ℕ) → Option ℕ
of_one n x y z = cond (is_in_range 0xC2 0xF4 x) (cond (nat_lt n 2) None (of_two n x y z)) (Some 1)

abbrev of_bytes : List ℕ → Option ℕ
of_bytes bs = of_one (length bs) (slice_index bs 0) (slice_index bs 1) (slice_index bs 2)

-- a test that needs j bytes
enough : (n m j : ℕ) (a b : Option ℕ) (k : ℕ) → cond (nat_lt n j) None a ≡ Some k → n ≤ m → (j ≤ n → a ≡ Some k → b ≡ Some k) → cond (nat_lt m j) None b ≡ Some k
enough n m j a b k is more later = ⊎_elim
    (λ (few : n < j). let t : nat_lt n j ≡ true = grind (arith, nat_tests) in let e : None ≡ Some k = sym (cond-true _ _ _ t) ∙ is in absurd (cc))
    (λ (all : j ≤ n).
    let t : nat_lt n j ≡ false = grind (arith, nat_tests) in
    let u : nat_lt m j ≡ false = grind (arith, nat_tests) in
    cond-false _ _ _ u ∙ later all (sym (cond-false _ _ _ t) ∙ is))
    (cases_lt n j)

-- a test that both pass or both fail
alike : (p : Bool) (a b c : Option ℕ) (k : ℕ) → cond p a c ≡ Some k → (a ≡ Some k → b ≡ Some k) → cond p b c ≡ Some k
alike true a b c k is later = later is
alike false a b c k is later = is

-- an error doesn't change when there are more bytes
of_more : (n m x y z v w k : ℕ) → of_one n x y z ≡ Some k → n ≤ m → (1 < n → v ≡ y) → (2 < n → w ≡ z) → of_one m x v w ≡ Some k
of_more n m x y z v w k is more second third =
    alike (is_in_range 0xC2 0xF4 x) (cond (nat_lt n 2) None (of_two n x y z)) (cond (nat_lt m 2) None (of_two m x v w)) (Some 1) k is
    (λ one. enough n m 2 (of_two n x y z) (of_two m x v w) k one more
    (λ has_two two. subst (λ t. of_two m x t w ≡ Some k) (sym (second has_two))
    (alike (is_in_range (second_byte_min x) (second_byte_max x) y) (cond (nat_lt n 3) None (of_three n z)) (cond (nat_lt m 3) None (of_three m w)) (Some 1) k two
    (λ in_order. enough n m 3 (of_three n z) (of_three m w) k in_order more
    (λ has_three three. subst (λ t. of_three m t ≡ Some k) (sym (third has_three))
    (alike (is_in_range 0x80 0xBF z) (cond (nat_lt n 4) None (Some 3)) (cond (nat_lt m 4) None (Some 3)) (Some 2) k three
    (λ four. enough n m 4 (Some 3) (Some 3) k four more (λ _ is3. is3))))))))

nothing_is_no_error : (bs : List ℕ) (k : ℕ) → utf8_error_len bs ≡ Some k → 0 < length bs
nothing_is_no_error [] k is = let e : None ≡ Some k = sym utf8_error_len-nil ∙ is in absurd (cc)
nothing_is_no_error (b ∷ bs) k is = omega arith

pub error_stays : (bs more : List ℕ) (k : ℕ) → utf8_error_len bs ≡ Some k → utf8_error_len (bs ++ more) ≡ Some k
error_stays bs more k is =
    let some = nothing_is_no_error bs k is in
    let n = length bs in
    let total = length-append bs more in
    let first = get_or_append_left bs more 0 0 some in
    let here : of_bytes bs ≡ Some k = sym (utf8_error_len_some bs some) ∙ is in
    utf8_error_len_some (bs ++ more) (omega arith)
    ∙ ap (λ x. of_one (length (bs ++ more)) x (slice_index (bs ++ more) 1) (slice_index (bs ++ more) 2)) first
    ∙ of_more n (length (bs ++ more)) (slice_index bs 0) (slice_index bs 1) (slice_index bs 2) (slice_index (bs ++ more) 1) (slice_index (bs ++ more) 2) k here (omega arith) (λ h. get_or_append_left bs more 0 1 h) (λ h. get_or_append_left bs more 0 2 h)

-- a test that needs j bytes, if there are fewer or they pass
none_yet : (n j : ℕ) (a : Option ℕ) → (j ≤ n → a ≡ None) → cond (nat_lt n j) None a ≡ None
none_yet n j a later = ⊎_elim
    (λ (few : n < j). cond-true _ _ _ (let t : nat_lt n j ≡ true = grind (arith, nat_tests) in t))
    (λ (all : j ≤ n). cond-false _ _ _ (let t : nat_lt n j ≡ false = grind (arith, nat_tests) in t) ∙ later all)
    (cases_lt n j)

of_no_error : (p : Bool) (a : Option ℕ) (k : ℕ) → (a ≡ None → ⊥) → cond p a (Some k) ≡ None → ⊥
of_no_error true a k never is = never is
of_no_error false a k never is = absurd (cc)

-- four bytes that begin no character are an error
long_is_error : (n x y z : ℕ) → 4 ≤ n → of_one n x y z ≡ None → ⊥
long_is_error n x y z long is =
    let two : nat_lt n 2 ≡ false = grind (arith, nat_tests) in
    let three : nat_lt n 3 ≡ false = grind (arith, nat_tests) in
    let four : nat_lt n 4 ≡ false = grind (arith, nat_tests) in
    of_no_error (is_in_range 0xC2 0xF4 x) (cond (nat_lt n 2) None (of_two n x y z)) 1
    (λ e. of_no_error (is_in_range (second_byte_min x) (second_byte_max x) y) (cond (nat_lt n 3) None (of_three n z)) 1
    (λ f. of_no_error (is_in_range 0x80 0xBF z) (cond (nat_lt n 4) None (Some 3)) 2
    (λ g. let h : Some 3 ≡ None = sym (cond-false _ _ _ four) ∙ g in absurd (cc))
    (sym (cond-false _ _ _ three) ∙ f))
    (sym (cond-false _ _ _ two) ∙ e))
    is

pub no_error_is_short : (bs : List ℕ) → utf8_error_len bs ≡ None → length bs ≤ 3
no_error_is_short bs none = ⊎_elim
    (λ (short : length bs < 4). let e : length bs ≤ 3 = omega arith in e)
    (λ (long : 4 ≤ length bs).
    let some : 0 < length bs = omega arith in
    absurd (long_is_error (length bs) (slice_index bs 0) (slice_index bs 1) (slice_index bs 2) long (sym (utf8_error_len_some bs some) ∙ none)))
    (cases_lt (length bs) 4)

-- a proper prefix of a character isn't an error
of_front_of_two : (c n x y z : ℕ) → 128 ≤ c → c < 2048 → n < 2 → x ≡ 192 + c / 64 → of_one n x y z ≡ None
of_front_of_two c n x y z low high few first =
    cond-true _ _ _ (let t : is_in_range 0xC2 0xF4 x ≡ true = grind (arith, nat_tests) in t)
    ∙ none_yet n 2 _ (λ all. absurd (omega arith))

of_front_of_three : (c n x y z : ℕ) → 2048 ≤ c → c < 65536 → (c < 55296) ⊎ (57344 ≤ c) → n < 3 → x ≡ 224 + c / 4096 → (1 < n → y ≡ 128 + (c / 64) % 64) → of_one n x y z ≡ None
of_front_of_three c n x y z low high apart few first second =
    cond-true _ _ _ (let t : is_in_range 0xC2 0xF4 x ≡ true = grind (arith, nat_tests) in t)
    ∙ none_yet n 2 _ (λ two.
    let y_is = second two in
    cond-true _ _ _ (let t : is_in_range (second_byte_min x) (second_byte_max x) y ≡ true = grind (arith, nat_tests) in t)
    ∙ none_yet n 3 _ (λ all. absurd (omega arith)))

of_front_of_four : (c n x y z : ℕ) → 65536 ≤ c → c < 1114112 → n < 4 → x ≡ 240 + c / 262144 → (1 < n → y ≡ 128 + (c / 4096) % 64) → (2 < n → z ≡ 128 + (c / 64) % 64) → of_one n x y z ≡ None
of_front_of_four c n x y z low high few first second third =
    cond-true _ _ _ (let t : is_in_range 0xC2 0xF4 x ≡ true = grind (arith, nat_tests) in t)
    ∙ none_yet n 2 _ (λ two.
    let y_is = second two in
    cond-true _ _ _ (let t : is_in_range (second_byte_min x) (second_byte_max x) y ≡ true = grind (arith, nat_tests) in t)
    ∙ none_yet n 3 _ (λ three.
    let z_is = third three in
    cond-true _ _ _ (let t : is_in_range 0x80 0xBF z ≡ true = grind (arith, nat_tests) in t)
    ∙ none_yet n 4 _ (λ all. absurd (omega arith))))

-- if a character begins with all of some bytes and goes on, they aren't an error
module _ (bs more rest : List ℕ) (c : ℕ) (some : 0 < length bs) (few : length bs < length (encode_utf8 c)) (is : bs ++ more ≡ encode_utf8 c ++ rest) where
  byte_of : (i : ℕ) → i < length bs → slice_index bs i ≡ slice_index (encode_utf8 c) i
  byte_of i within = sym (get_or_append_left bs more 0 i within) ∙ ap (λ t. slice_index t i) is ∙ get_or_append_left (encode_utf8 c) rest 0 i (omega arith)

  front_is_no_error : Scalar c → utf8_error_len bs ≡ None
  front_is_no_error apart =
      let n = length bs in
      let x = slice_index bs 0 in let y = slice_index bs 1 in let z = slice_index bs 2 in
      utf8_error_len_some bs some
      ∙ ⊎_elim
      (λ (ascii : c < 128). absurd (omega (arith, ap length (one c ascii))))
      (λ (wide : 128 ≤ c). ⊎_elim
      (λ (in_two : c < 2048).
      let e = two c wide in_two in
      of_front_of_two c n x y z wide in_two (omega (arith, ap length e)) (byte_of 0 some ∙ ap (λ t. slice_index t 0) e))
      (λ (over_two : 2048 ≤ c). ⊎_elim
      (λ (in_three : c < 65536).
      let e = three c over_two in_three in
      of_front_of_three c n x y z over_two in_three (⊎_elim (λ l. inl l) (λ h. inr h.0) apart) (omega (arith, ap length e))
      (byte_of 0 some ∙ ap (λ t. slice_index t 0) e) (λ h. byte_of 1 h ∙ ap (λ t. slice_index t 1) e))
      (λ (over_three : 65536 ≤ c).
      let e = four c over_three in
      of_front_of_four c n x y z over_three (⊎_elim (λ l. omega arith) (λ h. h.1) apart) (omega (arith, ap length e))
      (byte_of 0 some ∙ ap (λ t. slice_index t 0) e) (λ h. byte_of 1 h ∙ ap (λ t. slice_index t 1) e) (λ h. byte_of 2 h ∙ ap (λ t. slice_index t 2) e))
      (cases_lt c 65536))
      (cases_lt c 2048))
      (cases_lt c 128)

-- if bytes are an error and begin no character, they begin none when more bytes follow
still_no_char : (bs more : List ℕ) (k : ℕ) → StartsWithNoChar bs → utf8_error_len bs ≡ Some k → StartsWithNoChar (bs ++ more)
still_no_char bs more k none error c rest s is =
    let size = length (encode_utf8 c) in
    ⊎_elim
    (λ (few : length bs < size).
    let e : None ≡ Some k = sym (front_is_no_error bs more rest c (nothing_is_no_error bs k error) few is (scalar_cases c s)) ∙ error in absurd (cc))
    (λ (enough_bytes : size ≤ length bs).
    let front : take size bs ≡ encode_utf8 c = sym (take-append-le size bs more enough_bytes) ∙ ap (take size) is ∙ take-append_seam (encode_utf8 c) rest in
    none c (drop size bs) s (sym (take-append-drop size bs) ∙ ap (λ t. t ++ drop size bs) front))
    (cases_lt (length bs) size)

-- so U+FFFD replaces that error, whatever follows it
pub error_at_front : (bs more : List ℕ) (k : ℕ) → StartsWithNoChar bs → utf8_error_len bs ≡ Some k → k ≤ length bs
    → utf8_lossy (bs ++ more) ≡ replacement_bytes ++ utf8_lossy (drop k bs ++ more)
error_at_front bs more k none error within =
    let all = bs ++ more in
    let some : 0 < length all = omega (arith, nothing_is_no_error bs k error, length-append bs more) in
    let at : utf8_valid_len all ≡ 0 = utf8_valid_len-IsValidUpTo all 0 (stops_at_once all some (still_no_char bs more k none error)) in
    let size : utf8_invalid_len all ≡ k = ap (λ o. unwrap_or o (length all)) (error_stays bs more k error) in
    let behind : after_first_chunk all ≡ drop k bs ++ more =
    ap (λ n. drop (n + utf8_invalid_len (drop n all)) all) at
    ∙ ap (λ n. drop n all) (let e : 0 + utf8_invalid_len all ≡ k = omega arith in e)
    ∙ drop-append-le k bs more within in
    utf8_lossy_step all (λ e. omega arith)
    ∙ ap (λ n. take n all ++ (replacement_bytes ++ utf8_lossy (after_first_chunk all))) at
    ∙ ap (λ t. replacement_bytes ++ utf8_lossy t) behind

-- and it replaces an unfinished character at the end
pub unfinished_at_end : (bs : List ℕ) → StartsWithNoChar bs → utf8_error_len bs ≡ None → 0 < length bs → utf8_lossy bs ≡ replacement_bytes
unfinished_at_end bs none no_error some =
    let at : utf8_valid_len bs ≡ 0 = utf8_valid_len-IsValidUpTo bs 0 (stops_at_once bs some none) in
    let size : utf8_invalid_len bs ≡ length bs = ap (λ o. unwrap_or o (length bs)) no_error in
    let behind : after_first_chunk bs ≡ [] =
    ap (λ n. drop (n + utf8_invalid_len (drop n bs)) bs) at ∙ drop_of_length-le bs (omega arith) in
    utf8_lossy_step bs (λ e. omega arith)
    ∙ ap (λ n. take n bs ++ (replacement_bytes ++ utf8_lossy (after_first_chunk bs))) at
    ∙ ap (λ t. replacement_bytes ++ utf8_lossy t) behind
    ∙ ap (λ t. replacement_bytes ++ t) (utf8_lossy_empty [] refl)
