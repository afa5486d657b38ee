-- Input that is read without a parse error.
use Rattle.std.specs.Prelude.{◌≡◌, ℕ, Bool, true, List, [], ◌++◌, encode_utf8}
use Rattle.std.specs.Char.{IsScalar}
use Rattle.h5_token.specs.TokenText.{TokenText}
use Rattle.h5_token.specs.Reply.{Reply}
use Rattle.h5_tokenizer_input.specs.Answers.{goes_on}
use Rattle.h5_tokenizer_spec.specs.declared.position.Spot.{Spot}
use Rattle.h5_tokenizer_spec.specs.InputErrors.{character_errors}
use Rattle.h5_tokenizer_spec.specs.References.{Reference}
use Rattle.h5_tokenizer_spec.specs.Reading.{ReaderPlace}
use Rattle.h5_tokenizer_spec.specs.Telling.{Reached, Reaches, at_first, end_errors}

-- A text without errors of the input stream: characters, one after another, none of which is an error.
pub data HasNoInputErrors : List ℕ → Type 0 where
  no_character : HasNoInputErrors []
  a_character : {xs : List ℕ} (c : ℕ) (rest : List ℕ) → IsScalar c → character_errors c ≡ [] → xs ≡ encode_utf8 c ++ rest → HasNoInputErrors rest → HasNoInputErrors xs

module _ (table : List Reference) {M : Type 0} (reply_to : M → TokenText → Reply) (after : M → TokenText → ℕ → M) (foreign : M → Bool) where
  -- An input was read to its end, and no error was reported, not at the end either.
  pub record ReadsWithoutErrors (p : ReaderPlace) (s : Spot) (m : M) (xs : List ℕ) : Type 0 where
    pub reached : Reached M
    pub reaches : Reaches table reply_to after foreign (at_first p s m xs) reached []
    pub all : reached.rest ≡ []
    pub goes_on : goes_on reached.reply ≡ true
    pub none_at_end : end_errors table reached.place ≡ []
