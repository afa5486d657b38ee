-- Adding an attribute.
use Rattle.std.proofs.Common.{◌≡◌, ℕ, Bool, true, false, ◌||◌, if◌then◌else◌, List, [], ◌∷◌, ◌++◌, Option, Some, refl, bytes_eq, codes}
use Rattle.std.specs.List.{list_any}
use Rattle.html_tree_builder.specs.AttributeText.{AttributeText}
use Rattle.h5_page.specs.Attributes.{first_value, is_hiding, or_value_of, said_of, with_attribute}

or_false : (b : Bool) → (b || false) ≡ b
or_false true = refl
or_false false = refl

or_all : (b c d e : Bool) → c ≡ (d || e) → (b || c) ≡ ((b || d) || e)
or_all true c d e h = refl
or_all false c d e h = h

pub any_more : {X : Type 0} (test : X → Bool) (xs : List X) (x : X) → list_any test (xs ++ x ∷ []) ≡ (list_any test xs || test x)
any_more test [] x = or_false (test x)
any_more test (y ∷ ys) x = or_all (test y) (list_any test (ys ++ x ∷ [])) (list_any test ys) (test x) (any_more test ys x)

or_value : (b : Bool) (asked value : List ℕ) (all found : Option (List ℕ)) (a : AttributeText) → all ≡ or_value_of asked found a → (if b then Some value else all) ≡ or_value_of asked (if b then Some value else found) a
or_value true asked value all found a h = refl
or_value false asked value all found a h = h

value_more : (asked : List ℕ) (attributes : List AttributeText) (a : AttributeText) → first_value asked (attributes ++ a ∷ []) ≡ or_value_of asked (first_value asked attributes) a
value_more asked [] a = refl
value_more asked (b ∷ attributes) a =
    or_value (bytes_eq b.name.local asked) asked b.value (first_value asked (attributes ++ a ∷ [])) (first_value asked attributes) a (value_more asked attributes a)

pub one_more : (ns asked : List ℕ) (attributes : List AttributeText) (a : AttributeText) → said_of ns asked (attributes ++ a ∷ []) ≡ with_attribute ns asked (said_of ns asked attributes) a
one_more ns asked attributes a =
    rw (any_more (is_hiding ns) attributes a, any_more (λ (b : AttributeText). bytes_eq b.name.local (codes "reversed")) attributes a, value_more asked attributes a) refl
