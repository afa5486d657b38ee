-- The attributes of a tag, one after another.
use Rattle.std.proofs.Common.{◌≡◌, ℕ, zero, suc, ◌<◌, ◌≤◌, Bool, true, false, ◌||◌, List, [], ◌∷◌, ◌++◌, cond, eqb, length, drop, refl, sym, ap, ◌∙◌, arith, not, le_refl}
use Rattle.h5_names.specs.AttributeText.{AttributeText, attribute_text, attribute_texts}
use Rattle.h5_names.specs.declared.qualified.Attribute.{Attribute}
use Rattle.h5_markup.specs.Cuts.{is_in, before, from, past}
use Rattle.h5_markup.specs.declared.cut.Class.TheVariants.{Blank, BetweenAttributes, AttributeNameEnd, ValueEnd, DoubleQuote, SingleQuote}
use Rattle.h5_markup.specs.Attributes.{Written, valued, with_value, attribute_at, attribute_of, one_and_more, attributes_up_to, attributes_of, is_named_in, distinct, repeats}
use Rattle.h5_markup.specs.Writing.{WrittenAt}

if_le : (b : Bool) (xs ys : List ℕ) (n : ℕ) → length xs ≤ n → length ys ≤ n → length (cond b xs ys) ≤ n
if_le true xs ys n h k = h
if_le false xs ys n h k = k

from_le : (stop : ℕ → Bool) (xs : List ℕ) → length (from stop xs) ≤ length xs
from_le stop [] = omega arith
from_le stop (x ∷ xs) = let h = from_le stop xs in if_le (stop x) (x ∷ xs) (from stop xs) (length (x ∷ xs)) (omega arith) (omega (arith, from_le stop xs))

drop_le : (xs : List ℕ) → length (drop 1 xs) ≤ length xs
drop_le [] = omega arith
drop_le (x ∷ xs) = omega arith

rest_le : (b : Bool) (v w : Written) (n : ℕ) → length v.rest ≤ n → length w.rest ≤ n → length (cond b v w).rest ≤ n
rest_le true v w n h k = h
rest_le false v w n h k = k

valued_le : (name xs : List ℕ) → length (valued name xs).rest ≤ length xs
valued_le name [] = omega arith
valued_le name (x ∷ xs) =
    rest_le (eqb x 34) _ _ (length (x ∷ xs)) (omega (arith, drop_le (from (is_in DoubleQuote) xs), from_le (is_in DoubleQuote) xs))
    (rest_le (eqb x 39) _ _ (length (x ∷ xs)) (omega (arith, drop_le (from (is_in SingleQuote) xs), from_le (is_in SingleQuote) xs)) (from_le (is_in ValueEnd) (x ∷ xs)))

with_value_le : (name xs : List ℕ) → length (with_value name xs).rest ≤ length xs
with_value_le name [] = omega arith
with_value_le name (x ∷ xs) = rest_le (eqb x 61) _ _ (length (x ∷ xs)) (omega (arith, valued_le name (past Blank xs), from_le (λ y. not (is_in Blank y)) xs)) (omega arith)

attribute_le : (x : ℕ) (xs : List ℕ) → length (attribute_at x xs).rest ≤ length xs
attribute_le x xs = omega (arith, with_value_le (x ∷ before (is_in AttributeNameEnd) xs) (past Blank (from (is_in AttributeNameEnd) xs)), from_le (λ y. not (is_in Blank y)) (from (is_in AttributeNameEnd) xs), from_le (is_in AttributeNameEnd) xs)

one_same : (f g : List ℕ → List AttributeText) (xs : List ℕ) → ((ys : List ℕ) → length ys < length xs → f ys ≡ g ys) → one_and_more f xs ≡ one_and_more g xs
one_same f g [] h = refl
one_same f g (x ∷ xs) h = ap (λ l. attribute_of (attribute_at x xs) ∷ l) (h (attribute_at x xs).rest (omega (arith, attribute_le x xs)))

-- more fuel than bytes changes nothing
enough : (m n : ℕ) (xs : List ℕ) → length xs ≤ m → length xs ≤ n → attributes_up_to m xs ≡ attributes_up_to n xs
enough zero zero xs h k = refl
enough zero (suc n) [] h k = refl
enough (suc m) zero [] h k = refl
enough zero (suc n) (x ∷ xs) h k = absurd (omega arith)
enough (suc m) zero (x ∷ xs) h k = absurd (omega arith)
enough (suc m) (suc n) xs h k = one_same (attributes_up_to m) (attributes_up_to n) (past BetweenAttributes xs) (λ ys lt. enough m n ys (omega (arith, from_le (λ y. not (is_in BetweenAttributes y)) xs)) (omega (arith, from_le (λ y. not (is_in BetweenAttributes y)) xs)))

attributes_by : (n : ℕ) (xs : List ℕ) → length xs ≤ n → attributes_up_to n xs ≡ one_and_more attributes_of (past BetweenAttributes xs)
unfolding attributes_of
attributes_by zero [] h = refl
attributes_by zero (x ∷ xs) h = absurd (omega arith)
attributes_by (suc n) xs h = one_same (attributes_up_to n) (λ ys. attributes_up_to (length ys) ys) (past BetweenAttributes xs) (λ ys lt. enough n (length ys) ys (omega (arith, from_le (λ y. not (is_in BetweenAttributes y)) xs)) (le_refl (length ys)))

attributes_next : (xs : List ℕ) → attributes_of xs ≡ one_and_more attributes_of (past BetweenAttributes xs)
unfolding attributes_of
attributes_next xs = attributes_by (length xs) xs (le_refl (length xs))

pub attributes_none : (xs front : List ℕ) → front ≡ past BetweenAttributes xs → length front ≡ 0 → attributes_of xs ≡ []
attributes_none xs [] e h = attributes_next xs ∙ ap (one_and_more attributes_of) (sym e)
attributes_none xs (x ∷ front) e h = absurd (omega arith)

pub attributes_one : (xs front : List ℕ) (w : Written) → front ≡ past BetweenAttributes xs → WrittenAt front w → attributes_of xs ≡ attribute_of w ∷ attributes_of w.rest
attributes_one xs [] w e h = absurd h
attributes_one xs (x ∷ front) w e h = attributes_next xs ∙ ap (one_and_more attributes_of) (sym e) ∙ ap (λ v. attribute_of v ∷ attributes_of v.rest) (sym h)

pub attributes_shorter : (xs front : List ℕ) (w : Written) → front ≡ past BetweenAttributes xs → WrittenAt front w → length w.rest < length xs
attributes_shorter xs [] w e h = absurd h
attributes_shorter xs (x ∷ front) w e h = omega (arith, ap (λ (v : Written). length v.rest) h, attribute_le x front, ap length e, from_le (λ y. not (is_in BetweenAttributes y)) xs)

pub texts_push : (xs : List Attribute) (x : Attribute) → attribute_texts (xs ++ x ∷ []) ≡ attribute_texts xs ++ attribute_text x ∷ []
texts_push [] x = refl
texts_push (y ∷ xs) x = ap (λ l. attribute_text y ∷ l) (texts_push xs x)

pub or_false : (b c : Bool) → (b || false) ≡ c → b ≡ c
or_false true c h = h
or_false false c h = h
