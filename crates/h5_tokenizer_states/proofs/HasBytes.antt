-- A text that has a name's bytes at their indices begins with the name.
use Rattle.std.proofs.Common.{◌≡◌, ℕ, suc, ◌≤◌, true, ◌==◌, refl, sym, List, [], ◌∷◌, length, get_or, arith}
use Rattle.std.proofs.lemmas.Bool.{and_from, eq-eqb}
use Rattle.h5_tokenizer_spec.specs.Words.{begins, same}

-- a text has these bytes from an index on
abbrev pub Has : List ℕ → ℕ → List ℕ → Type 0
Has text k [] = k ≤ length text
Has text k (x ∷ xs) = (get_or text k 0 ≡ x) × Has text (suc k) xs

reaches : (text : List ℕ) (k : ℕ) (xs : List ℕ) → Has text k xs → k ≤ length text
reaches text k [] h = h
reaches text k (x ∷ xs) h = let le : suc k ≤ length text = reaches text (suc k) xs h.1 in omega arith

has_further : (c : ℕ) (text : List ℕ) (k : ℕ) (xs : List ℕ) → Has (c ∷ text) (suc k) xs → Has text k xs
has_further c text k [] h = omega arith
has_further c text k (x ∷ xs) h = (h.0, has_further c text (suc k) xs h.1)

-- a text with a name's bytes begins with the name
pub has_begins : (name text : List ℕ) → Has text 0 name → begins same name text ≡ true
has_begins [] text h = refl
has_begins (x ∷ name) [] h = let le : 1 ≤ 0 = reaches [] 1 name h.1 in absurd (omega arith)
has_begins (x ∷ name) (c ∷ text) h =
    and_from (x == c) (begins same name text) (eq-eqb x c (sym h.0)) (has_begins name text (has_further c text 0 name h.1))
