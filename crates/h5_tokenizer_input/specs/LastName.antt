-- The name of the last start tag.
use Rattle.std.specs.Prelude.{ℕ, List, string_bytes}
use Rattle.h5_tokenizer_input.specs.declared.last_name.Origin.{Origin}
use Rattle.h5_tokenizer_input.specs.declared.last_name.Origin.TheVariants as origin

abbrev pub last_text : Origin → List ℕ
last_text (origin.Given text) = string_bytes text
last_text (origin.Read name) = name
