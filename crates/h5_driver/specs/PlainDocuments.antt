-- What a parser makes from the text of a plain document.
use Rattle.std.specs.Prelude.{◌≡◌, ℕ, Bool, List, []}
use Rattle.h5_interface.specs.Forest.{IsForest}
use Rattle.h5_interface.specs.Seen.{Seen}
use Rattle.h5_interface.specs.declared.marks.QuirksMode.TheVariants.{NoQuirks}
use Rattle.h5_builder_spec.specs.Run.{View}
use Rattle.h5_tokenizer_input.specs.Options.{default_options as of_reader}
use Rattle.h5_tokenizer_input.specs.declared.options.TokenizerOpts.{TokenizerOpts}
use Rattle.h5_builder_laws.specs.Plain.{PlainDocument}
use Rattle.h5_builder_laws.specs.Rebuilding.{DocumentStands, HoldsDocument, with_scripting}
use Rattle.h5_tree_builder.specs.Builder.{first_building}
use Rattle.h5_round_trip.specs.Readable.{IsReadableDocument}
use Rattle.h5_round_trip.specs.Written.{written_of}

-- the tokenizer and the builder of a new parser of documents with default options, with or without scripting, over a sink that
-- shows this, and the waiting text
pub record IsNew {T : Type 0} (first : TokenizerOpts → T) (r : T) (v : View) (waiting : List ℕ) (seen : Seen) : Type 0 where
  pub reader : r ≡ first of_reader
  pub scripting : Bool
  pub builder : v ≡ (first_building seen (with_scripting scripting)).view
  pub none_waits : waiting ≡ []

-- the document is what a sink shows, which is a forest, in no-quirks mode
pub record ComesBack (told : Seen) (d : PlainDocument) : Type 0 where
  pub is_forest : IsForest told.forest
  pub stands : DocumentStands told.forest d
  pub quirks : told.quirks ≡ NoQuirks

-- this holds if such a parser, over a sink that holds only its document, takes the text of a readable document
abbrev pub BringsBack : {T : Type 0} → (TokenizerOpts → T) → T → View → (waiting text : List ℕ) → (told : Seen) → Type 0
BringsBack first r v waiting text told =
    (d : PlainDocument) (seen : Seen) → IsNew first r v waiting seen → HoldsDocument seen.forest → IsReadableDocument d → text ≡ written_of d → ComesBack told d
