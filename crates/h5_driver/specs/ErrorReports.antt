-- The errors that an error-reporting tokenizer over a builder reports, and the tree that is built.
use Rattle.std.specs.Prelude.{◌≡◌, ℕ, Bool, List, [], Ok}
use Rattle.h5_token.specs.TokenText.{TokenText}
use Rattle.h5_interface.specs.Seen.{Seen}
use Rattle.h5_interface.specs.SinkChoices.{SinkChoices}
use Rattle.h5_builder_spec.specs.Run.{View}
use Rattle.h5_tokenizer_input.specs.Options.{default_options as of_reader}
use Rattle.h5_tokenizer_spec.specs.declared.position.LocatedError.{LocatedError}
use Rattle.h5_tokenizer_spec.specs.declared.position.Spot.{Spot}
use Rattle.h5_tokenizer_spec.specs.End.{Closes}
use Rattle.h5_tokenizer_spec.specs.Reading.{ReaderPlace}
use Rattle.h5_tokenizer_spec.specs.ReferenceTable.{references}
use Rattle.h5_tokenizer_spec.specs.Whole.{ReadsToEnd}
use Rattle.h5_tokenizer_spec.specs.WholeTelling.{Tellings, TellsToEnd}
use Rattle.h5_tokenizer_spec.specs.WithoutErrors.{HasNoInputErrors}
use Rattle.h5_standard_tokenizer.specs.Options.{first_place}
use Rattle.h5_builder_laws.specs.Plain.{PlainDocument}
use Rattle.h5_builder_laws.specs.Rebuilding.{HoldsDocument, with_scripting}
use Rattle.h5_round_trip.specs.Readable.{IsReadableDocument}
use Rattle.h5_round_trip.specs.Written.{written_of}
use Rattle.h5_tree_builder.specs.Builder.{first_building}
use Rattle.h5_driver.specs.inner.Working.{IsReady}
use Rattle.h5_driver.specs.BuilderSink.{after, ended, foreign, replies}

module _ (choices : SinkChoices) where
  -- a text is read to its end in some chunks, and these errors are reported
  abbrev pub TellsOver : ReaderPlace → Spot → View → List ℕ → List LocatedError → Type 0
  TellsOver = TellsToEnd references (replies choices) (after choices) foreign

  -- from a builder that is ready, a text has one list of errors, in whatever chunks it is read
  abbrev pub TextsHaveOneList : Type 0
  TextsHaveOneList = (p : ReaderPlace) (s : Spot) (v : View) (text : List ℕ) (told others : List LocatedError) → IsReady v → TellsOver p s v text told → TellsOver p s v text others → told ≡ others

  -- the text of a readable plain document has none, if none of its characters is an error: from a new tokenizer and a new builder, with
  -- default options, with or without scripting, over a sink that holds only its document
  abbrev pub DocumentsHaveNone : Type 0
  DocumentsHaveNone = (d : PlainDocument) (scripting : Bool) (seen : Seen) (s : Spot) (told : List LocatedError) → HoldsDocument seen.forest → IsReadableDocument d → HasNoInputErrors (written_of d)
      → TellsOver (first_place of_reader) s (first_building seen (with_scripting scripting)).view (written_of d) told → told ≡ []

  -- a text that is read with its errors, and then the end, leaves what the same text read without them leaves
  abbrev pub BuildsTheSame : Type 0
  BuildsTheSame = (p q : ReaderPlace) (s t : Spot) (v w n o : View) (text : List ℕ) (told : List LocatedError) (tokens : List TokenText) → IsReady v
      → Tellings references (replies choices) (after choices) foreign p s v text told q t w [] → Closes (replies choices) (after choices) (ended choices) references q w n (Ok tt)
      → ReadsToEnd references (replies choices) (after choices) foreign (ended choices) p v text tokens o → n ≡ o
