-- Input that is read to its end, with the errors that are reported.
use Rattle.std.specs.Prelude.{◌≡◌, ℕ, Bool, false, List, [], ◌++◌}
use Rattle.h5_token.specs.TokenText.{TokenText}
use Rattle.h5_token.specs.Reply.{Reply}
use Rattle.h5_tokenizer_input.specs.Answers.{refuses}
use Rattle.h5_tokenizer_spec.specs.declared.position.Spot.{Spot}
use Rattle.h5_tokenizer_spec.specs.declared.position.LocatedError.{LocatedError}
use Rattle.h5_tokenizer_spec.specs.References.{Reference}
use Rattle.h5_tokenizer_spec.specs.Reading.{ReaderPlace}
use Rattle.h5_tokenizer_spec.specs.Spots.{position}
use Rattle.h5_tokenizer_spec.specs.Telling.{Reached, Reaches, at_first, told_at_end}

module _ (table : List Reference) {M : Type 0} (reply_to : M → TokenText → Reply) (after : M → TokenText → ℕ → M) (foreign : M → Bool) where
  -- Readings, one after another, with all errors that they report. No token is refused, and no text is held between two.
  pub data Tellings : ReaderPlace → Spot → M → List ℕ → List LocatedError → ReaderPlace → Spot → M → List ℕ → Type 0 where
    no_telling : {p : ReaderPlace} {s : Spot} {m : M} {xs : List ℕ} → Tellings p s m xs [] p s m xs
    more_telling : {p q : ReaderPlace} {s t : Spot} {m n : M} {xs ys : List ℕ} {told errors : List LocatedError} {r : Reached M}
        → Tellings p s m xs told q t n ys → Reaches table reply_to after foreign (at_first q t n ys) r errors → refuses r.reply ≡ false → r.text ≡ []
        → Tellings p s m xs (told ++ errors) r.place r.spot r.meaning r.rest

  -- an input was read to its end, and these errors were reported, including those of the end
  pub record TellsToEnd (p : ReaderPlace) (s : Spot) (m : M) (xs : List ℕ) (told : List LocatedError) : Type 0 where
    pub errors : List LocatedError
    pub place : ReaderPlace
    pub spot : Spot
    pub meaning : M
    pub tellings : Tellings p s m xs errors place spot meaning []
    pub told_are : told ≡ errors ++ told_at_end table place (position place.line spot)
