-- The errors of the input stream itself (HTML standard, section 13.2.3.5, "Preprocessing the input stream"). Text has no
-- surrogates.
use Rattle.std.specs.Prelude.{◌≡◌, ℕ, Bool, true, false, not, List, [], ◌∷◌, ◌++◌, ◌==◌, ◌&&◌, ◌||◌, if◌then◌else◌, encode_utf8}
use Rattle.std.specs.Char.{IsScalar}
use Rattle.h5_tokenizer_spec.specs.declared.errors.ParseError.{ParseError}
use Rattle.h5_tokenizer_spec.specs.declared.errors.ParseError.TheVariants.{ControlCharacterInInputStream, NoncharacterInInputStream}
use Rattle.h5_tokenizer_spec.specs.References.{is_noncharacter, is_control}
use Rattle.h5_tokenizer_spec.specs.Signs.{null}
use Rattle.h5_tokenizer_spec.specs.Spots.{is_inside}

-- of a code point: a noncharacter, or a control other than NULL and ASCII whitespace
abbrev pub character_errors : ℕ → List ParseError
character_errors c =
    if is_noncharacter c then NoncharacterInInputStream ∷ []
    else if is_control c && not (c == null || c == 13) then ControlCharacterInInputStream ∷ []
    else []

-- The errors at the start of an input, whose first byte is new or not: those of the character that begins there.
pub data InputErrors : Bool → List ℕ → List ParseError → Type 0 where
  of_character : {xs : List ℕ} (c : ℕ) (rest : List ℕ) → IsScalar c → xs ≡ encode_utf8 c ++ rest → InputErrors true xs (character_errors c)
  inside : {x : ℕ} {xs : List ℕ} → is_inside x ≡ true → InputErrors true (x ∷ xs) []
  not_new : {xs : List ℕ} → InputErrors false xs []
