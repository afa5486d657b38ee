-- What a new parser over the plain tokenizer makes from a whole text.
use Rattle.std.specs.Prelude.{ℕ, Bool, List}
use Rattle.h5_names.specs.AttributeText.{AttributeText}
use Rattle.h5_names.specs.declared.qualified.QualName.{QualName}
use Rattle.h5_interface.specs.Seen.{Seen}
use Rattle.h5_interface.specs.SinkChoices.{SinkChoices}
use Rattle.h5_driver.specs.PlainReader.{Reads, first}
use Rattle.h5_driver.specs.WholeTexts.{ParsesDocumentBy, ParsesFragmentBy}
use Rattle.h5_driver.specs.declared.options.ParseOpts.{ParseOpts}

-- the text of a document, into a sink
abbrev pub ParsesDocument : SinkChoices → Seen → ParseOpts → List ℕ → Seen → Type 0
ParsesDocument choices seen opts text told = ParsesDocumentBy (Reads choices) first choices seen opts text told

-- the text of a fragment, in a context that is created with this name and these attributes
abbrev pub ParsesFragment : SinkChoices → Seen → ParseOpts → QualName → List AttributeText → (allows_scripting : Bool) → List ℕ → Seen → Type 0
ParsesFragment choices seen opts name attrs allows_scripting text told = ParsesFragmentBy (Reads choices) first choices seen opts name attrs allows_scripting text told
