-- The names are in order, and a name is after its prefixes.
use Rattle.std.proofs.Common.{◌≡◌, ℕ, zero, suc, ◌<◌, true, false, ◌==◌, refl, sym, ◌∙◌, List, [], ◌∷◌, length, get_or, arith}
use Rattle.std.specs.Prelude.{nat_lt}
use Rattle.std.proofs.lemmas.Bool.{and_parts, cond-true, eq-eqb, eqb-true, false≢true}
use Rattle.std.proofs.lemmas.Bool.Decides.{nat_tests}
use Rattle.h5_tokenizer_spec.specs.References.{Reference}
use Rattle.h5_tokenizer_spec.specs.ReferenceTable.{references}
use Rattle.h5_tokenizer_spec.specs.TableOrder.{are_behind, is_before}
use Rattle.h5_tokenizer_spec.specs.Words.{begins, same}
use Rattle.h5_tokenizer_spec.proofs.TableLaws.{in_order, how_many as length-references}
use Rattle.h5_tokenizer_states.specs.Numbered.{how_many, name_of}

before_trans : (a b c : List ℕ) → is_before a b ≡ true → is_before b c ≡ true → is_before a c ≡ true
before_trans a [] [] h g = absurd (false≢true g)
before_trans [] b (z ∷ c) h g = refl
before_trans [] (y ∷ b) [] h g = absurd (false≢true g)
before_trans (x ∷ a) [] (z ∷ c) h g = absurd (false≢true h)
before_trans (x ∷ a) (y ∷ b) [] h g = absurd (false≢true g)
before_trans (x ∷ a) (y ∷ b) (z ∷ c) h g = grind (arith, nat_tests, before_trans a b c)

pub before_itself : (a : List ℕ) → is_before a a ≡ false
before_itself [] = refl
before_itself (x ∷ a) = cond-true (x == x) (is_before a a) (nat_lt x x) (eq-eqb x x refl) ∙ before_itself a

-- a text is before those that begin with it
pub not_before : (seen name : List ℕ) → begins same seen name ≡ true → is_before name seen ≡ false
not_before [] [] h = refl
not_before [] (x ∷ name) h = refl
not_before (s ∷ seen) [] h = absurd (false≢true h)
not_before (s ∷ seen) (x ∷ name) h =
    let parts = and_parts (s == x) (begins same seen name) h in
    cond-true (x == s) (is_before name seen) (nat_lt x s) (eq-eqb x s (sym (eqb-true s x parts.0))) ∙ not_before seen name parts.1

before_all : (name : List ℕ) (table : List Reference) (k : ℕ) → are_behind name table ≡ true → k < length table → is_before name (get_or table k ([], [])).0 ≡ true
before_all name [] k h lt = absurd (omega arith)
before_all name (r ∷ table) zero h lt = (and_parts (is_before name r.0) (are_behind r.0 table) h).0
before_all name (r ∷ table) (suc k) h lt =
    let parts = and_parts (is_before name r.0) (are_behind r.0 table) h in
    before_trans name r.0 (get_or table k ([], [])).0 parts.0 (before_all r.0 table k parts.1 (omega arith))

in_order_at : (name : List ℕ) (table : List Reference) (i k : ℕ) → are_behind name table ≡ true → i < k → k < length table → is_before (get_or table i ([], [])).0 (get_or table k ([], [])).0 ≡ true
in_order_at name [] i k h lt within = absurd (omega arith)
in_order_at name (r ∷ table) i zero h lt within = absurd (omega arith)
in_order_at name (r ∷ table) zero (suc k) h lt within = before_all r.0 table k (and_parts (is_before name r.0) (are_behind r.0 table) h).1 (omega arith)
in_order_at name (r ∷ table) (suc i) (suc k) h lt within = in_order_at r.0 table i k (and_parts (is_before name r.0) (are_behind r.0 table) h).1 (omega arith) (omega arith)

pub within_list : (k : ℕ) → k < how_many → k < length references
within_list k lt = omega (arith, length-references)

pub names_in_order : (i k : ℕ) → i < k → k < how_many → is_before (name_of i) (name_of k) ≡ true
names_in_order i k lt within = in_order_at [] references i k in_order lt (within_list k within)
