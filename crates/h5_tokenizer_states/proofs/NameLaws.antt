-- Names are read as they are written, in lower case.
use Rattle.std.proofs.Common.{◌≡◌, ℕ, true, false, List, [], ◌∷◌, ◌==◌, map, refl, ap, ◌∙◌, inl}
use Rattle.std.proofs.lemmas.Bool.{and_parts}
use Rattle.std.specs.Char.{to_ascii_lowercase}
use Rattle.h5_markup.specs.Matching.{No}
use Rattle.h5_markup.specs.Text.{text_of, escape, name_of}
use Rattle.h5_markup.proofs.TextLaws.{one_byte, text_nil}
use Rattle.h5_tokenizer_spec.specs.Signs.{null, equals_sign, is_name_end}
use Rattle.h5_tokenizer_states.specs.Runs.{is_in, are_in}
use Rattle.h5_tokenizer_states.specs.declared.runs.Run.TheVariants as run
use Rattle.h5_tokenizer_states.proofs.RunLaws.{none_of_three, none_of_four}

as_written : (xs : List ℕ) → are_in run.Name xs ≡ true → text_of false xs ≡ xs
as_written [] h = text_nil false
as_written (x ∷ xs) h =
    let all = and_parts (is_in run.Name x) (are_in run.Name xs) h in
    let n = none_of_three (is_name_end x) (x == null) (x == 13) all.0 in
    let none : escape false (x ∷ xs) ≡ No = simp (n.2, n.1) in
    one_byte false x xs (inl none) ∙ ap (λ l. x ∷ l) (as_written xs all.1)

-- a name of such bytes
pub name_is_lowered : (xs : List ℕ) → are_in run.Name xs ≡ true → name_of xs ≡ map to_ascii_lowercase xs
name_is_lowered xs h = ap (map to_ascii_lowercase) (as_written xs h)

-- the bytes allowed in an attribute's name are allowed in a name
pub attribute_name_is_name : (xs : List ℕ) → are_in run.AttributeName xs ≡ true → are_in run.Name xs ≡ true
attribute_name_is_name [] h = refl
attribute_name_is_name (x ∷ xs) h =
    let all = and_parts (is_in run.AttributeName x) (are_in run.AttributeName xs) h in
    let n = none_of_four (is_name_end x) (x == equals_sign) (x == null) (x == 13) all.0 in
    rw (n.0, n.2, n.3) (attribute_name_is_name xs all.1)
