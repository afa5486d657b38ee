-- A parser, and its calls.
use Rattle.std.specs.Prelude.{◌≡◌, ℕ, Bool, false, List, [], ◌∷◌, ◌++◌}
use Rattle.h5_builder_spec.specs.Run.{View}
use Rattle.h5_tokenizer_input.specs.declared.stage.Stage.TheVariants.{Reading}
use Rattle.h5_driver.specs.Reading.{Advances}
use Rattle.h5_driver.specs.inner.Working.{IsWorking}
use Rattle.h5_driver.specs.declared.reader.Reader.{Ghosts}

-- its tokenizer, the waiting text, and whether it has failed
pub record Parsing (R : Type 0) : Type 0 where
  pub tokenizer : R
  pub waiting : List ℕ
  pub failed : Bool

-- chunks, concatenated
abbrev pub joined : List (List ℕ) → List ℕ
joined [] = []
joined (t ∷ ts) = t ++ joined ts

module _ {R S H O : Type 0} (reader : Ghosts R S H O) where
  -- the tokenizer without its builder, and the builder's meaning
  abbrev pub text_of : Parsing R → reader.Text
  text_of p = reader.text p.tokenizer

  abbrev pub view_of : Parsing R → View
  view_of p = (reader.building p.tokenizer).view

  -- the invariant of a parser: unless it has failed, the tokenizer reads, and the builder takes its tokens
  pub record IsParsing (p : Parsing R) : Type 0 where
    pub reading : p.failed ≡ false → reader.stage (text_of p) ≡ Reading
    pub works : p.failed ≡ false → IsWorking reader.IsRaw (text_of p) (view_of p)

  -- a chunk was taken by a parser whose builder worked: the waiting text and the chunk were read, as far as that is decided
  pub record Processed (text : List ℕ) (old new : Parsing R) : Type 0 where
    pub worked : IsWorking reader.IsRaw (text_of old) (view_of old)
    pub advances : Advances reader.Readings (text_of old) (view_of old) (old.waiting ++ text) (text_of new) (view_of new) []
    pub undecided : reader.IsUndecided (text_of new) (view_of new)
    pub none_waits : new.waiting ≡ []

  -- chunks were taken, one after another
  abbrev pub ProcessedAll : List (List ℕ) → Parsing R → Parsing R → Type 0
  ProcessedAll [] old new = old ≡ new
  ProcessedAll (text ∷ texts) old new = (now : Parsing R) × (Processed text old now × ProcessedAll texts now new)
