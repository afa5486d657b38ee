-- The longest prefix of bytes that is UTF-8.
use Rattle.std.proofs.Common.{◌≡◌, ◌⊎◌, ℕ, zero, suc, ◌+◌, ◌-◌, ◌<◌, ◌≤◌, List, [], ◌++◌, length, take, drop, refl, sym, ap, subst, ◌∙◌, arith, inl, inr, ⊎_elim, true≢false, append_assoc, length-append, take_all}
use Rattle.std.specs.Char.{encode_utf8}
use Rattle.std.specs.Str.{IsUtf8, IsValidUpTo, StartsWithNoChar, is_utf8}
use Rattle.std.specs.Str.Lossy.{after_first_chunk, replacement_bytes, utf8_invalid_len, utf8_lossy, utf8_valid_len, valid_len_up_to}
use Rattle.std.proofs.lemmas.Bool.{cases_Bool, cases_lt, cond-true, cond-false}
use Rattle.std.proofs.lemmas.Str.{IsCharBoundary-from_take, IsUtf8-append, IsUtf8-drop, IsUtf8-encode, IsUtf8-from_is_utf8, is_utf8-from_IsUtf8, utf8_lossy-IsUtf8, utf8_lossy_step, utf8_valid_len-IsValidUpTo, IsUtf8-nil, length-encode, len_utf8_bounds}
use Rattle.std.proofs.Math.Seq.{take-add, take-append-add, take-append_seam, drop-append-add, drop-append_seam}
use Rattle.std.proofs.str.Faults.{valid_to}

longest_front : (bs : List ℕ) (m : ℕ)
    → IsUtf8 (take (valid_len_up_to bs m) bs) × ((k : ℕ) → valid_len_up_to bs m < k → k ≤ m → ¬ (IsUtf8 (take k bs)))
longest_front bs zero = (([], (refl, refl)), λ k above within. absurd (omega arith))
longest_front bs (suc m) =
    let rest = longest_front bs m in
    ⊎_elim
    (λ yes.
    let is : valid_len_up_to bs (suc m) ≡ suc m = cond-true _ _ _ yes in
    (subst (λ n. IsUtf8 (take n bs)) (sym is) (IsUtf8-from_is_utf8 _ yes), λ k above within. absurd (omega arith)))
    (λ no.
    let is : valid_len_up_to bs (suc m) ≡ valid_len_up_to bs m = cond-false _ _ _ no in (
      subst (λ n. IsUtf8 (take n bs)) (sym is) rest.0,
      λ k above within u. ⊎_elim
          (λ (top : m < k).
          let same : k ≡ suc m = omega arith in
          true≢false (sym (is_utf8-from_IsUtf8 _ (subst (λ n. IsUtf8 (take n bs)) same u)) ∙ no))
          (λ (low : k ≤ m). rest.1 k (omega arith) low u)
          (cases_lt m k),
    ))
    (cases_Bool (is_utf8 (take (suc m) bs)))

-- bytes are UTF-8, or UTF-8 up to `utf8_valid_len`
pub utf8_valid_len-cases : (bs : List ℕ) → IsUtf8 bs ⊎ IsValidUpTo bs (utf8_valid_len bs)
unfolding utf8_valid_len
utf8_valid_len-cases bs =
    let n = utf8_valid_len bs in
    let front = longest_front bs (length bs) in
    ⊎_elim
    (λ (short : n < length bs). inr (record {
      short = short;
      front = front.0;
      longest = λ m above u. ⊎_elim
          (λ (past : length bs < m).
          front.1 (length bs) short (omega arith) (subst IsUtf8 (take_all m bs (omega arith) ∙ sym (take_all (length bs) bs (omega arith))) u))
          (λ (within : m ≤ length bs). front.1 m above within u)
          (cases_lt (length bs) m);
    }))
    (λ (whole : length bs ≤ n). inl (subst IsUtf8 (take_all n bs whole) front.0))
    (cases_lt n (length bs))

-- what follows a text in a text is a text
rest_is_text : (v w : List ℕ) → IsUtf8 v → IsUtf8 (v ++ w) → IsUtf8 w
rest_is_text v w u both =
    let boundary = IsCharBoundary-from_take (v ++ w) (length v) both (omega (arith, length-append v w)) (subst IsUtf8 (sym (take-append_seam v w)) u) in
    subst IsUtf8 (drop-append_seam v w) (IsUtf8-drop (v ++ w) (length v) both boundary)

-- what follows the longest prefix begins no character
pub no_char_behind : (bs : List ℕ) (n : ℕ) → IsValidUpTo bs n → StartsWithNoChar (drop n bs)
no_char_behind bs n v c rest s is =
    let size = length (encode_utf8 c) in
    let some : 0 < size = omega (arith, length-encode c, (len_utf8_bounds c).0) in
    let front : take (n + size) bs ≡ take n bs ++ encode_utf8 c =
    take-add n size bs ∙ ap (λ t. take n bs ++ take size t) is ∙ ap (λ t. take n bs ++ t) (take-append_seam (encode_utf8 c) rest) in
    v.longest (n + size) (omega arith) (subst IsUtf8 (sym front) (IsUtf8-append _ _ v.front (IsUtf8-encode c s)))

-- bytes that begin no character aren't a text
pub stops_at_once : (bs : List ℕ) → 0 < length bs → StartsWithNoChar bs → IsValidUpTo bs 0
stops_at_once bs some none = valid_to bs 0 some IsUtf8-nil none

-- bytes with an error after a text have it after that text and more
later_fault : (v bs : List ℕ) (n : ℕ) → IsUtf8 v → IsValidUpTo bs n → IsValidUpTo (v ++ bs) (length v + n)
later_fault v bs n u stop = record {
  short = omega (arith, stop.short, length-append v bs);
  front = subst IsUtf8 (sym (take-append-add v bs n)) (IsUtf8-append v (take n bs) u stop.front);
  longest = λ m above text.
      let k = m - length v in
      let is : m ≡ length v + k = omega arith in
      stop.longest k (omega arith) (rest_is_text v (take k bs) u (subst IsUtf8 (ap (λ j. take j (v ++ bs)) is ∙ take-append-add v bs k) text));
}

-- a text at the start stays as it is, whatever follows it
pub text_at_front : (v more : List ℕ) → IsUtf8 v → utf8_lossy (v ++ more) ≡ v ++ utf8_lossy more
text_at_front v more u = ⊎_elim
    (λ whole. utf8_lossy-IsUtf8 (v ++ more) (IsUtf8-append v more u whole) ∙ ap (λ t. v ++ t) (sym (utf8_lossy-IsUtf8 more whole)))
    (λ stop.
    let n = utf8_valid_len more in
    let later = later_fault v more n u stop in
    let at : utf8_valid_len (v ++ more) ≡ length v + n = utf8_valid_len-IsValidUpTo (v ++ more) (length v + n) later in
    let short = stop.short in
    let far = later.short in
    let size = utf8_invalid_len (drop n more) in
    let behind : after_first_chunk (v ++ more) ≡ after_first_chunk more =
    ap (λ k. drop (k + utf8_invalid_len (drop k (v ++ more))) (v ++ more)) at
    ∙ ap (λ t. drop ((length v + n) + utf8_invalid_len t) (v ++ more)) (drop-append-add v more n)
    ∙ ap (λ k. drop k (v ++ more)) (let e : (length v + n) + size ≡ length v + (n + size) = omega arith in e)
    ∙ drop-append-add v more (n + size) in
    let front : take (utf8_valid_len (v ++ more)) (v ++ more) ≡ v ++ take n more =
    ap (λ k. take k (v ++ more)) at ∙ take-append-add v more n in
    utf8_lossy_step (v ++ more) (λ e. omega arith)
    ∙ ap (λ t. t ++ (replacement_bytes ++ utf8_lossy (after_first_chunk (v ++ more)))) front
    ∙ ap (λ t. (v ++ take n more) ++ (replacement_bytes ++ utf8_lossy t)) behind
    ∙ append_assoc v (take n more) (replacement_bytes ++ utf8_lossy (after_first_chunk more))
    ∙ ap (λ t. v ++ t) (sym (utf8_lossy_step more (λ e. omega arith))))
    (utf8_valid_len-cases more)
