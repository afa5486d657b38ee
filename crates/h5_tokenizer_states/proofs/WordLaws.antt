-- Words that are compared with the prefixes of others.
use Rattle.std.proofs.Common.{◌≡◌, ℕ, List, [], ◌∷◌, refl, ap}
use Rattle.std.specs.Prelude.{◌&&◌, ◌==◌, nat_eq}
use Rattle.std.specs.List.{starts_with}
use Rattle.h5_tokenizer_spec.specs.Words.{begins, same}

-- if case matters, a word begins with this if it starts with it
pub begins_same : (seen word : List ℕ) → begins same seen word ≡ starts_with nat_eq word seen
begins_same [] word = refl
begins_same (x ∷ xs) [] = refl
begins_same (x ∷ xs) (c ∷ word) = ap (λ b. (x == c) && b) (begins_same xs word)
