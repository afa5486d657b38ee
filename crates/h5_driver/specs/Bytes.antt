-- A parser of bytes, and its calls.
use Rattle.std.specs.Prelude.{◌≡◌, ℕ, List, [], ◌∷◌, ◌++◌}
use Rattle.h5_tokenizer_input.specs.Decoding.{IsDecoded, Decodes}
use Rattle.h5_driver.specs.Parsing.{Parsing, Processed, text_of, view_of}
use Rattle.h5_driver.specs.Reading.{Advances}
use Rattle.h5_driver.specs.declared.reader.Reader.{Ghosts}

-- its parser, and the bytes of an unfinished character
pub record ParsingBytes (R : Type 0) : Type 0 where
  pub parser : Parsing R
  pub unfinished : List ℕ

module _ {R S H O : Type 0} (reader : Ghosts R S H O) where
  -- a chunk was taken: the decided part of its text was taken as a chunk of text
  pub record ProcessedBytes (bytes : List ℕ) (old new : ParsingBytes R) : Type 0 where
    pub text : List ℕ
    pub decoded : IsDecoded (old.unfinished ++ bytes) text new.unfinished
    pub processed : Processed reader text old.parser new.parser

  -- chunks were taken, one after another
  abbrev pub ProcessedAllBytes : List (List ℕ) → ParsingBytes R → ParsingBytes R → Type 0
  ProcessedAllBytes [] old new = old ≡ new
  ProcessedAllBytes (bytes ∷ chunks) old new = (now : ParsingBytes R) × (ProcessedBytes bytes old now × ProcessedAllBytes chunks now new)

  -- bytes were taken, split in any way: their text was read, up to what waits and an unfinished character
  pub record AdvancesBytes (bytes : List ℕ) (old new : ParsingBytes R) : Type 0 where
    pub text : List ℕ
    pub decodes : Decodes (old.unfinished ++ bytes) text new.unfinished
    pub advances : Advances reader.Readings (text_of reader old.parser) (view_of reader old.parser) (old.parser.waiting ++ text) (text_of reader new.parser) (view_of reader new.parser) new.parser.waiting
