-- A parser of bytes, and its calls.
use Rattle.std.specs.Prelude.{◌≡◌, ℕ, Bool, List, [], ◌∷◌, Option, Some, None}
use Rattle.h5_encodings.specs.declared.sniffing.EncodingOpts.{EncodingOpts}
use Rattle.h5_driver.specs.Parsing.{Parsing, Processed}
use Rattle.h5_driver.specs.declared.reader.Reader.{Ghosts}
use Rattle.h5_bytes.specs.declared.stage.Stage.{Stage}
use Rattle.h5_bytes.specs.Texts.{Takes}

-- its parser, what is known about the encoding apart from the bytes, its stage, and whether it has failed
pub record ParsingPage (R : Type 0) : Type 0 where
  pub parser : Parsing R
  pub opts : EncodingOpts
  pub stage : Stage
  pub failed : Bool

module _ {R S H O : Type 0} (reader : Ghosts R S H O) where
  -- a parser of text took a chunk of text, if there is one, and else nothing
  abbrev pub IsHanded : Option (List ℕ) → Parsing R → Parsing R → Type 0
  IsHanded None old new = new ≡ old
  IsHanded (Some text) old new = Processed reader text old new

  -- a chunk was taken: the decided part of its text was taken as a chunk of text
  pub record ProcessedBytes (bytes : List ℕ) (old new : ParsingPage R) : Type 0 where
    pub piece : Option (List ℕ)
    pub opts : new.opts ≡ old.opts
    pub takes : Takes old.opts old.stage bytes piece new.stage
    pub handed : IsHanded piece old.parser new.parser

  -- chunks were taken, one after another
  abbrev pub ProcessedAllBytes : List (List ℕ) → ParsingPage R → ParsingPage R → Type 0
  ProcessedAllBytes [] old new = old ≡ new
  ProcessedAllBytes (bytes ∷ chunks) old new = (now : ParsingPage R) × (ProcessedBytes bytes old now × ProcessedAllBytes chunks now new)
