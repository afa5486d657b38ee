-- What a new parser makes from a whole text, for any tokenizer.
use Rattle.std.specs.Prelude.{ℕ, Bool, List}
use Rattle.h5_names.specs.AttributeText.{AttributeText}
use Rattle.h5_names.specs.declared.qualified.QualName.{QualName}
use Rattle.h5_token.specs.TokenText.{TokenText}
use Rattle.h5_interface.specs.Seen.{Seen}
use Rattle.h5_interface.specs.SinkChoices.{SinkChoices}
use Rattle.h5_builder_spec.specs.Run.{View}
use Rattle.h5_tokenizer_input.specs.declared.options.TokenizerOpts.{TokenizerOpts}
use Rattle.h5_tree_builder.specs.Builder.{first_building}
use Rattle.h5_driver.specs.Fragments.{first_in_new, opts_in_context}
use Rattle.h5_driver.specs.Reading.{Parses}
use Rattle.h5_driver.specs.declared.options.ParseOpts.{ParseOpts}

module _ {T : Type 0} (Reads : T → View → List ℕ → List TokenText → View → Type 0) (first : TokenizerOpts → T) (choices : SinkChoices) (seen : Seen) (opts : ParseOpts) where
  -- the text of a document, into a sink that shows this
  abbrev pub ParsesDocumentBy : List ℕ → Seen → Type 0
  ParsesDocumentBy text told = Parses Reads choices (first opts.tokenizer) (first_building seen opts.tree_builder).view text told

  -- the text of a fragment, in a context that is created with this name and these attributes
  unfoldable pub ParsesFragmentBy : QualName → List AttributeText → (allows_scripting : Bool) → List ℕ → Seen → Type 0
  ParsesFragmentBy name attrs allows_scripting text told =
      let view = (first_in_new choices seen name attrs opts.tree_builder).view in
      Parses Reads choices (first (opts_in_context allows_scripting view.world opts.tokenizer)) view text told
