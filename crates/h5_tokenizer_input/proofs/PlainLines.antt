-- Newlines in plain text.
use Rattle.std.proofs.Common.{◌≡◌, ℕ, zero, suc, ◌<◌, ◌≤◌, ◌+◌, Bool, true, false, ◌&&◌, List, [], ◌∷◌, cond, eqb, length, take, drop, get_or, sym, ap, ◌∙◌, subst, ⊎_elim, arith, refl}
use Rattle.std.proofs.lemmas.Bool.{ne_eqb}
use Rattle.std.proofs.lemmas.Bool.Decides.{eqb_tells, nat_tests}
use Rattle.h5_markup.specs.Plain.{is_plain}
use Rattle.h5_markup.proofs.PlainBytes.{plain}
use Rattle.h5_tokenizer_input.specs.Lines.{newlines}

head_by : (b : Bool) → cond (b && true) 1 0 ≡ 0 + cond b 1 0
head_by true = refl
head_by false = refl

tail_by : (b : Bool) (n m r : ℕ) → n ≡ m + r → cond (b && true) (1 + n) n ≡ cond (b && true) (1 + m) m + r
tail_by true n m r h = omega (arith, h)
tail_by false n m r h = h

-- one more byte of plain text, which isn't a CR
pub plain_more : (xs : List ℕ) (n : ℕ) → n < length xs → ((k : ℕ) → k < n → is_plain (get_or xs k 0) ≡ true) → is_plain (get_or xs n 0) ≡ true → newlines false (take (suc n) xs) ≡ newlines false (take n xs) + cond (eqb (get_or xs n 0) 10) 1 0
plain_more [] n lt h i = absurd (omega arith)
plain_more (x ∷ xs) zero lt h i = rw (plain x i).cr (head_by (eqb x 10))
plain_more (x ∷ xs) (suc n) lt h i =
    rw (plain x (h 0 (omega arith))).cr
    (tail_by (eqb x 10) (newlines false (take (suc n) xs)) (newlines false (take n xs)) (cond (eqb (get_or xs n 0) 10) 1 0)
    (plain_more xs n (omega arith) (λ k lt. h (suc k) (omega arith)) i))

-- a part after plain bytes
pub plain_apart : (xs : List ℕ) (n m : ℕ) → n ≤ length xs → ((k : ℕ) → k < n → is_plain (get_or xs k 0) ≡ true) → newlines false (take (n + m) xs) ≡ newlines false (take n xs) + newlines false (take m (drop n xs))
plain_apart xs zero m le h =
    let same : 0 + m ≡ m = omega arith in
    let none : newlines false (take m xs) ≡ 0 + newlines false (take m xs) = omega arith in
    ap (λ k. newlines false (take k xs)) same ∙ none
plain_apart [] (suc n) m le h = absurd (omega arith)
plain_apart (x ∷ xs) (suc n) m le h =
    let same : suc n + m ≡ suc (n + m) = omega arith in
    rw (same, (plain x (h 0 (omega arith))).cr)
    (tail_by (eqb x 10) (newlines false (take (n + m) xs)) (newlines false (take n xs)) (newlines false (take m (drop n xs)))
    (plain_apart xs n m (omega arith) (λ k lt. h (suc k) (omega arith))))

pub plain_next : (xs : List ℕ) (n lines next : ℕ) → n < length xs → ((k : ℕ) → k < n → is_plain (get_or xs k 0) ≡ true) → is_plain (get_or xs n 0) ≡ true → lines ≡ newlines false (take n xs) → next ≡ lines + cond (eqb (get_or xs n 0) 10) 1 0 → next ≡ newlines false (take (n + 1) xs)
plain_next xs n lines next lt h i e f =
    let same : suc n ≡ n + 1 = omega arith in
    f ∙ ap (λ l. l + cond (eqb (get_or xs n 0) 10) 1 0) e ∙ sym (plain_more xs n lt h i) ∙ ap (λ m. newlines false (take m xs)) same

-- a byte that isn't a newline adds none
pub none_more : {lines : ℕ} {b : Bool} → b ≡ false → lines + cond b 1 0 ≡ lines
none_more {lines} e = rw e (omega arith)

-- bytes above all that end plain text
pub high_plain : (x : ℕ) → 93 < x → is_plain x ≡ true
high_plain x h = grind (arith, nat_tests)

pub high_none : (x : ℕ) → 93 < x → eqb x 10 ≡ false
high_none x h = ne_eqb x 10 (λ e. absurd (omega (arith, e, h)))

-- one more byte that is plain
pub all_plain : (xs : List ℕ) (n : ℕ) → ((k : ℕ) → k < n → is_plain (get_or xs k 0) ≡ true) → is_plain (get_or xs n 0) ≡ true → (k : ℕ) → k < n + 1 → is_plain (get_or xs k 0) ≡ true
all_plain xs n h e k lt =
    ⊎_elim
    (λ p. subst (λ m. is_plain (get_or xs m 0) ≡ true) (sym p.1) e)
    (λ p. h k (omega (arith, p.1)))
    (eqb_tells k n)
