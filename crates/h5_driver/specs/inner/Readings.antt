-- What both tokenizers have in common as readers of a text.
use Rattle.std.specs.Prelude.{◌≡◌, ℕ, true, false, List, [], ◌++◌}
use Rattle.h5_token.specs.Joins.{join}
use Rattle.h5_token.specs.TokenText.{TokenText}
use Rattle.h5_token.specs.declared.states.State.TheVariants.{Data}
use Rattle.h5_interface.specs.SinkChoices.{SinkChoices}
use Rattle.h5_builder_spec.specs.Run.{View, after_all}
use Rattle.h5_tokenizer_input.specs.Options.{beginning_in, default_options}
use Rattle.h5_tokenizer_input.specs.declared.options.TokenizerOpts.{TokenizerOpts}
use Rattle.h5_standard_tokenizer.specs.Mark.{behind_mark}
use Rattle.h5_builder_laws.specs.Plain.{Flow, IsPlain, Nodes, PlainDocument, document_tokens, fragment_tokens, nothing_open}
use Rattle.h5_round_trip.specs.Answers.{Answers}
use Rattle.h5_round_trip.specs.Fragment.{AnswersCuts}
use Rattle.h5_round_trip.specs.Readable.{CanBeRead, IsReadableDocument}
use Rattle.h5_round_trip.specs.Written.{written_fragment, written_of}
use Rattle.h5_driver.specs.BuilderSink.{after, ended, replies}
use Rattle.h5_driver.specs.inner.Working.{IsReady}

-- Properties of readings over a builder. They include the empty one; whatever follows an input, it is read in the same way; and
-- a reading goes on where another stopped, also to the end. The meaning at the end is what the run of the tokens leaves, and it
-- is equal for all lists of tokens that read a text. The text of a plain document is read by its tokens, and so is that of a
-- fragment, from the data state, except that a text may be split in two.
pub record AreReadings {T : Type 0} (choices : SinkChoices) (first : TokenizerOpts → T) (Readings : T → View → List ℕ → List TokenText → T → View → List ℕ → Type 0) (Reads : T → View → List ℕ → List TokenText → View → Type 0) : Type 0 where
  pub nothing : (r : T) (v : View) (xs : List ℕ) → Readings r v xs [] r v xs
  pub followed : (r s : T) (v w : View) (xs ys : List ℕ) (ts : List TokenText) (more : List ℕ) → Readings r v xs ts s w ys → Readings r v (xs ++ more) ts s w (ys ++ more)
  pub chained : (r s t : T) (v w x : View) (xs ys zs : List ℕ) (ts us : List TokenText) → Readings r v xs ts s w ys → Readings s w ys us t x zs → Readings r v xs (ts ++ us) t x zs
  pub to_end : (r s : T) (v w n : View) (xs ys : List ℕ) (ts us : List TokenText) → Readings r v xs ts s w ys → Reads s w ys us n → Reads r v xs (ts ++ us) n
  pub runs : (r : T) (v n : View) (xs : List ℕ) (ts : List TokenText) → Reads r v xs ts n → n ≡ ended choices (after_all choices ts v)
  pub agree : (r : T) (v n o : View) (xs : List ℕ) (ts us : List TokenText) → IsReady v → Reads r v xs ts n → Reads r v xs us o → n ≡ o
  pub documents : (d : PlainDocument) (v : View) → IsReadableDocument d → Answers (replies choices) (after choices) v (document_tokens d) → (n : View) × Reads (first default_options) v (written_of d) (document_tokens d) n
  pub fragments : (nodes : Nodes) (v : View) → IsPlain true (Flow false nothing_open) nodes → CanBeRead nodes → behind_mark true (written_fragment nodes) ≡ written_fragment nodes
      → AnswersCuts (replies choices) → Answers (replies choices) (after choices) v (fragment_tokens nodes)
      → (tokens : List TokenText) × ((join tokens ≡ join (fragment_tokens nodes)) × ((n : View) × Reads (first (beginning_in Data default_options)) v (written_fragment nodes) tokens n))
