-- Properties of the bytes that were seen when the standard looks ahead.
use Rattle.std.specs.Prelude.{◌≡◌, ℕ, true, List, [], ◌∷◌, ◌++◌, Option, Some, None}
use Rattle.std.specs.List.{list_all}
use Rattle.h5_token.specs.TokenText.{DoctypeText}
use Rattle.h5_tokenizer_spec.specs.States.{BogusComment, BogusDoctype}
use Rattle.h5_tokenizer_spec.specs.Turn.{to}
use Rattle.h5_tokenizer_spec.specs.Signs.{is_alphanumeric}
use Rattle.h5_tokenizer_spec.specs.References.{Reference, Longest}
use Rattle.h5_tokenizer_spec.specs.Machine.{turn}

-- the bogus comment state takes them as they are
abbrev pub AreTakenInComment : List Reference → List ℕ → List ℕ → Type 0
AreTakenInComment table last [] = Unit {0}
AreTakenInComment table last (x ∷ seen) =
    ((comment : List ℕ) → turn table last (BogusComment comment) x ≡ to (BogusComment (comment ++ (x ∷ [])))) × AreTakenInComment table last seen

-- the bogus DOCTYPE state ignores them
abbrev pub AreIgnoredInDoctype : List Reference → List ℕ → List ℕ → Type 0
AreIgnoredInDoctype table last [] = Unit {0}
AreIgnoredInDoctype table last (x ∷ seen) =
    ((doctype : DoctypeText) → turn table last (BogusDoctype doctype) x ≡ to (BogusDoctype doctype)) × AreIgnoredInDoctype table last seen

-- only letters and digits follow the longest name; without a name, all that was seen is letters and digits
abbrev pub LeavesLetters : List ℕ → Option Longest → Type 0
LeavesLetters seen None = list_all is_alphanumeric seen ≡ true
LeavesLetters seen (Some found) = list_all is_alphanumeric found.rest ≡ true
