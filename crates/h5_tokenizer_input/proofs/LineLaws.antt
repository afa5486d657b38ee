-- Newlines, counted in parts, and the resulting line.
use Rattle.std.proofs.Common.{◌≡◌, ℕ, zero, suc, ◌<◌, ◌≤◌, ◌+◌, ◌-◌, ◌^◌, Bool, true, false, not, ◌&&◌, List, [], ◌∷◌, ◌++◌, cond, eqb, length, take, drop, get_or, refl, ap, ◌∙◌, subst, arith, length-append, length-drop}
use Rattle.std.proofs.Math.Seq.{take-append_seam}
use Rattle.std.proofs.lemmas.Bool.{eqb-true}
use Rattle.std.proofs.lemmas.List.{length-take-le, take-append-le}
use Rattle.std.specs.Io.Iter.{u64_saturate}
use Rattle.h5_tokenizer_input.specs.Lines.{ends_in_cr, line_behind, line_past, newlines, newlines_passed, passed}

few_by : (a b : Bool) (n m k l : ℕ) → n ≤ k → m ≤ k → l ≤ k → cond a (1 + n) (cond b (1 + m) l) ≤ suc k
few_by true b n m k l h i j = omega arith
few_by false true n m k l h i j = omega arith
few_by false false n m k l h i j = omega arith

-- there are no more newlines than bytes
pub few : (after_cr : Bool) (xs : List ℕ) → newlines after_cr xs ≤ length xs
few after_cr [] = omega arith
few after_cr (x ∷ xs) = few_by (eqb x 13) (eqb x 10 && not after_cr) (newlines true xs) (newlines false xs) (length xs) (newlines false xs) (few true xs) (few false xs) (few false xs)

append_by : (a b : Bool) (whole part rest : Bool → ℕ) → ((c : Bool) → whole c ≡ part c + rest c) → cond a (1 + whole true) (cond b (1 + whole false) (whole false)) ≡ cond a (1 + part true) (cond b (1 + part false) (part false)) + rest a
append_by true b whole part rest h = omega (arith, h true)
append_by false true whole part rest h = omega (arith, h false)
append_by false false whole part rest h = h false

-- one part, and then another
pub newlines_append : (after_cr : Bool) (xs ys : List ℕ) → newlines after_cr (xs ++ ys) ≡ newlines after_cr xs + newlines (ends_in_cr after_cr xs) ys
newlines_append after_cr [] ys = omega arith
newlines_append after_cr (x ∷ xs) ys =
    append_by (eqb x 13) (eqb x 10 && not after_cr) (λ c. newlines c (xs ++ ys)) (λ c. newlines c xs) (λ c. newlines (ends_in_cr c xs) ys) (λ c. newlines_append c xs ys)

pub ends_append : (after_cr : Bool) (xs ys : List ℕ) → ends_in_cr after_cr (xs ++ ys) ≡ ends_in_cr (ends_in_cr after_cr xs) ys
ends_append after_cr [] ys = refl
ends_append after_cr (x ∷ xs) ys = ends_append (eqb x 13) xs ys

one_by : (a b : Bool) (n n' m m' r : ℕ) → n ≡ n' + r → m ≡ m' + r → cond a (1 + n) (cond b (1 + m) m) ≡ cond a (1 + n') (cond b (1 + m') m') + r
one_by true b n n' m m' r h i = omega arith
one_by false true n n' m m' r h i = omega arith
one_by false false n n' m m' r h i = i

none_by : (a b : Bool) (r : ℕ → ℕ) (f : Bool → ℕ) → cond a (1 + f true) (cond b (1 + f false) (f false)) ≡ cond a 1 (cond b 1 0) + f a
none_by true b r f = refl
none_by false true r f = refl
none_by false false r f = omega arith

-- the newlines up to a byte, and those after it
pub in_parts : (after_cr : Bool) (xs : List ℕ) (n : ℕ) → n < length xs → newlines after_cr xs ≡ newlines after_cr (take (suc n) xs) + newlines (eqb (get_or xs n 0) 13) (drop (suc n) xs)
in_parts after_cr [] n lt = absurd (omega arith)
in_parts after_cr (x ∷ xs) zero lt = none_by (eqb x 13) (eqb x 10 && not after_cr) (λ n. n) (λ b. newlines b xs)
in_parts after_cr (x ∷ xs) (suc n) lt =
    one_by (eqb x 13) (eqb x 10 && not after_cr) (newlines true xs) (newlines true (take (suc n) xs)) (newlines false xs) (newlines false (take (suc n) xs)) (newlines (eqb (get_or xs n 0) 13) (drop (suc n) xs))
    (in_parts true xs n (omega arith)) (in_parts false xs n (omega arith))

high_by : (x : ℕ) (a b : Bool) → eqb x 13 ≡ a → eqb x 10 ≡ b → 13 < x → (a ≡ false) × (b ≡ false)
high_by x true b e f h = let same : x ≡ 13 = eqb-true x 13 e in absurd (omega arith)
high_by x false true e f h = let same : x ≡ 10 = eqb-true x 10 f in absurd (omega arith)
high_by x false false e f h = (refl, refl)

-- bytes that aren't newlines may be skipped, if no CR is before them
pub none_passed : (xs : List ℕ) (n : ℕ) → ((k : ℕ) → k < n → 13 < get_or xs k 0) → newlines false xs ≡ newlines false (drop n xs)
none_passed xs zero h = refl
none_passed [] (suc n) h = refl
none_passed (x ∷ xs) (suc n) h =
    let none = high_by x (eqb x 13) (eqb x 10) refl refl (h 0 (omega arith)) in
    rw (none.0, none.1) (none_passed xs n (λ k lt. h (suc k) (omega arith)))

-- if none of the bytes up to and including one may be a newline, there is no newline
quiet_through : (xs : List ℕ) (n : ℕ) → ((k : ℕ) → k < n → 13 < get_or xs k 0) → 13 < get_or xs n 0 → newlines false (take (suc n) xs) ≡ 0
quiet_through [] n h i = refl
quiet_through (x ∷ xs) zero h i =
    let none = high_by x (eqb x 13) (eqb x 10) refl refl i in
    rw (none.0, none.1) refl
quiet_through (x ∷ xs) (suc n) h i =
    let none = high_by x (eqb x 13) (eqb x 10) refl refl (h 0 (omega arith)) in
    rw (none.0, none.1) (quiet_through xs n (λ k lt. h (suc k) (omega arith)) i)

pub in_line_through : (xs rest : List ℕ) (n : ℕ) → n < length xs → length rest ≡ length xs - suc n → ((k : ℕ) → k < n → 13 < get_or xs k 0) → 13 < get_or xs n 0 → newlines_passed xs rest ≡ 0
in_line_through xs rest n lt e h i =
    let same : length xs - length rest ≡ suc n = omega (arith, e) in
    ap (λ k. newlines false (take k xs)) same ∙ quiet_through xs n h i

-- a part by its length
pub passed_by : (xs rest : List ℕ) (n : ℕ) → n ≤ length xs → rest ≡ drop n xs → newlines_passed xs rest ≡ newlines false (take n xs)
passed_by xs rest n le e =
    let same : length xs - length rest ≡ n = omega (arith, ap length e, length-drop n xs) in
    ap (λ k. newlines false (take k xs)) same

by_one : (n m : ℕ) → m ≤ n → suc n - m ≡ suc (n - m)
by_one n m le = omega arith

-- a byte more
pub in_line_more : (xs inner rest : List ℕ) → 0 < length xs → 13 < get_or xs 0 0 → inner ≡ drop 1 xs → length rest ≤ length inner → newlines_passed inner rest ≡ 0 → newlines_passed xs rest ≡ 0
in_line_more [] inner rest some high e le h = absurd (omega arith)
in_line_more (x ∷ xs) inner rest some high e le h =
    let none = high_by x (eqb x 13) (eqb x 10) refl refl high in
    let same : length (x ∷ xs) - length rest ≡ suc (length xs - length rest) = by_one (length xs) (length rest) (omega (arith, ap length e, le)) in
    ap (λ k. newlines false (take k (x ∷ xs))) same
    ∙ rw (none.0, none.1) (subst (λ (l : List ℕ). newlines_passed l rest ≡ 0) e h)

-- the passed bytes don't depend on what follows
passed_on : (xs ys more : List ℕ) → passed (xs ++ more) (ys ++ more) ≡ passed xs ys
passed_on xs ys more =
    let n : length (xs ++ more) - length (ys ++ more) ≡ length xs - length ys = omega (arith, length-append xs more, length-append ys more) in
    ap (λ k. take k (xs ++ more)) n ∙ take-append-le (length xs - length ys) xs more (omega arith)

pub line_on : (line : ℕ) (xs ys more : List ℕ) → line_behind line (xs ++ more) (ys ++ more) ≡ line_behind line xs ys
line_on line xs ys more = ap (λ l. u64_saturate (line + newlines false l)) (passed_on xs ys more)

-- the passed bytes, if they are known
pub passed_is : (xs ys front : List ℕ) → xs ≡ front ++ ys → passed xs ys ≡ front
passed_is xs ys front split =
    let n : length xs - length ys ≡ length front = omega (arith, ap length split, length-append front ys) in
    ap (λ k. take k xs) n ∙ ap (take (length front)) split ∙ take-append_seam front ys

-- there are no more newlines passed than bytes
pub few_passed : (xs ys : List ℕ) → newlines_passed xs ys ≤ length xs
few_passed xs ys = omega (arith, few false (passed xs ys), length-take-le (length xs - length ys) xs (omega arith))

pub line_fits : (line : ℕ) (after_cr : Bool) (xs : List ℕ) → line_past line after_cr xs ≤ 2 ^ 64 - 1
line_fits line after_cr xs = omega arith

-- a line that no newline follows
pub line_none : (line n : ℕ) → line ≤ 2 ^ 64 - 1 → n ≡ 0 → line ≡ u64_saturate (line + n)
line_none line n le none = omega (arith, le, none)

-- the line after one part, and then after another
pub line_more : (line a b c : ℕ) → c ≡ a + b → u64_saturate (u64_saturate (line + a) + b) ≡ u64_saturate (line + c)
line_more line a b c e = omega (arith, e)
