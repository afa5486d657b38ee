-- A tokenizer between two calls.
use Rattle.std.specs.Prelude.{Bool}
use Rattle.h5_tokenizer_input.specs.declared.stage.Stage.{Stage}
use Rattle.h5_tokenizer_spec.specs.Reading.{ReaderPlace}

-- true if a byte order mark may still come, the place, and whether it has ended or failed; no input is buffered
pub record ReaderText : Type 0 where
  pub at_start : Bool
  pub place : ReaderPlace
  pub stage : Stage
