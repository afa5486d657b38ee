-- Attributes that are written `name="value"`.
use Rattle.std.proofs.Common.{◌≡◌, ℕ, zero, suc, ◌<◌, ◌≤◌, ◌+◌, true, false, List, [], ◌∷◌, eqb, length, take, drop, get_or, refl, ◌∙◌, Some, subst, arith}
use Rattle.h5_markup.specs.Cuts.{is_in}
use Rattle.h5_markup.specs.Ending.{walk}
use Rattle.h5_markup.specs.declared.cut.Class.TheVariants.{AttributeNameEnd}
use Rattle.h5_markup.specs.declared.ending.Inside.TheVariants.{BeforeAttributeName, AttributeName, AttributeValueDoubleQuoted}
use Rattle.h5_markup.proofs.Endings.{walk_along, walk_turn}
use Rattle.h5_markup.proofs.Staying.{walk_stays, in_attribute_name, in_double_quotes, name_begins, never}

pub two_first : (xs : List ℕ) (a b : ℕ) → 2 ≤ length xs → get_or xs 0 0 ≡ a → get_or xs 1 0 ≡ b → xs ≡ a ∷ b ∷ drop 2 xs
two_first [] a b le e f = absurd (omega arith)
two_first (x ∷ []) a b le e f = absurd (omega arith)
two_first (x ∷ y ∷ xs) a b le e f = λ i. e i ∷ f i ∷ xs

name_walk : (xs : List ℕ) (n : ℕ) → 0 < n → n ≤ length xs → ((k : ℕ) → k < n → is_in AttributeNameEnd (get_or xs k 0) ≡ false) → walk BeforeAttributeName (take n xs) ≡ Some AttributeName
name_walk xs zero some le h = absurd (omega arith)
name_walk [] (suc n) some le h = absurd (omega arith)
name_walk (x ∷ xs) (suc n) some le h =
    let first = name_begins x (h 0 (omega arith)) in
    rw (first.0, first.1) (walk_stays AttributeName (is_in AttributeNameEnd) xs n in_attribute_name (λ k lt. h (suc k) (omega arith)))

value_walk : (xs : List ℕ) (n : ℕ) → n < length xs → ((k : ℕ) → k < n → eqb (get_or xs k 0) 34 ≡ false) → eqb (get_or xs n 0) 34 ≡ true → walk AttributeValueDoubleQuoted (take (n + 1) xs) ≡ Some BeforeAttributeName
value_walk xs n lt h e =
    walk_turn AttributeValueDoubleQuoted AttributeValueDoubleQuoted xs n lt (walk_stays AttributeValueDoubleQuoted (λ x. eqb x 34) xs n in_double_quotes h) (never (eqb (get_or xs n 0) 62))
    ∙ rw e refl

-- after such an attribute another may begin
pub quoted_walk : (xs inner : List ℕ) (name value n : ℕ) → 0 < name → name ≤ length xs → ((k : ℕ) → k < name → is_in AttributeNameEnd (get_or xs k 0) ≡ false) → drop name xs ≡ 61 ∷ 34 ∷ inner → value < length inner → ((k : ℕ) → k < value → eqb (get_or inner k 0) 34 ≡ false) → eqb (get_or inner value 0) 34 ≡ true → n ≡ name + value + 3 → walk BeforeAttributeName (take n xs) ≡ Some BeforeAttributeName
quoted_walk xs inner name value n some le names e lt values closes m =
    let same : name + suc (suc (value + 1)) ≡ n = omega arith in
    subst (λ k. walk BeforeAttributeName (take k xs) ≡ Some BeforeAttributeName) same
    (walk_along BeforeAttributeName AttributeName BeforeAttributeName xs name (suc (suc (value + 1))) (name_walk xs name some le names)
    (rw e (value_walk inner value lt values closes)))
