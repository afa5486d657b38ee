-- Properties of the table of named character references.
use Rattle.std.specs.Prelude.{ℕ, Bool, true, false, List, [], ◌∷◌, ◌==◌, ◌&&◌, ◌||◌, nat_lt, if◌then◌else◌}
use Rattle.std.specs.Char.{is_ascii_alphabetic}
use Rattle.std.specs.List.{list_all}
use Rattle.h5_tokenizer_spec.specs.Signs.{semicolon, is_alphanumeric}
use Rattle.h5_tokenizer_spec.specs.References.{Reference}

-- byte by byte; a text is after its prefixes
abbrev pub is_before : List ℕ → List ℕ → Bool
is_before [] [] = false
is_before [] (y ∷ ys) = true
is_before (x ∷ xs) [] = false
is_before (x ∷ xs) (y ∷ ys) = if x == y then is_before xs ys else nat_lt x y

-- each name is before the next one, so no name appears twice
abbrev pub are_behind : List ℕ → List Reference → Bool
are_behind name [] = true
are_behind name (r ∷ rs) = is_before name r.0 && are_behind r.0 rs

-- letters and digits, and then a semicolon or none
abbrev pub is_further_name : List ℕ → Bool
is_further_name [] = true
is_further_name (x ∷ []) = is_alphanumeric x || x == semicolon
is_further_name (x ∷ y ∷ xs) = is_alphanumeric x && is_further_name (y ∷ xs)

-- a letter, and then the same
abbrev pub is_name : List ℕ → Bool
is_name [] = false
is_name (x ∷ xs) = is_ascii_alphabetic x && is_further_name xs

abbrev pub is_full : List ℕ → Bool
is_full [] = false
is_full (x ∷ xs) = true

-- names whose texts aren't empty
abbrev pub are_references : List Reference → Bool
are_references = list_all (λ r. is_name r.0 && is_full r.1)
