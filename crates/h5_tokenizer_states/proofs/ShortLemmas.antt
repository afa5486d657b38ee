-- No name is longer than 32 bytes, and so neither are the prefixes of names.
use Rattle.std.proofs.Common.{◌≡◌, ℕ, ◌≤◌, true, leb, refl, List, [], ◌∷◌, ◌==◌, length, inl, inr, arith}
use Rattle.std.specs.List.{list_all}
use Rattle.std.proofs.lemmas.Bool.{and_parts, false≢true, leb-true, or_cases}
use Rattle.h5_tokenizer_spec.specs.References.{Reference, is_beginning}
use Rattle.h5_tokenizer_spec.specs.ReferenceTable.{references}
use Rattle.h5_tokenizer_spec.specs.Words.{begins, same}

pub begins_no_shorter : (seen name : List ℕ) → begins same seen name ≡ true → length seen ≤ length name
begins_no_shorter [] name h = omega arith
begins_no_shorter (s ∷ seen) [] h = absurd (false≢true h)
begins_no_shorter (s ∷ seen) (c ∷ name) h =
    let le : length seen ≤ length name = begins_no_shorter seen name (and_parts (s == c) (begins same seen name) h).1 in
    omega arith
