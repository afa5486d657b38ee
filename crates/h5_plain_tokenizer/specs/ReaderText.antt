-- A tokenizer without its sink, with texts as lists of bytes.
use Rattle.std.specs.Prelude.{ℕ, List}
use Rattle.h5_tokenizer_input.specs.declared.stage.Stage.{Stage}
use Rattle.h5_plain_tokenizer.specs.Front.{ReaderPlace}

-- its place, its undecided input, and whether it has ended or failed
pub record ReaderText : Type 0 where
  pub place : ReaderPlace
  pub held : List ℕ
  pub stage : Stage
