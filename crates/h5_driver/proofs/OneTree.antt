-- A text has one tree.
use Rattle.std.proofs.Common.{◌≡◌, ◌++◌, ℕ, Bool, List, [], sym, subst, ◌∙◌}
use Rattle.h5_names.specs.AttributeText.{AttributeText}
use Rattle.h5_names.specs.declared.qualified.QualName.{QualName}
use Rattle.h5_token.specs.TokenText.{TokenText}
use Rattle.h5_interface.specs.Seen.{Seen}
use Rattle.h5_interface.specs.SinkChoices.{SinkChoices}
use Rattle.h5_builder_spec.specs.Run.{View}
use Rattle.h5_tree_builder.specs.Builder.{Building}
use Rattle.h5_tokenizer_input.specs.declared.options.TokenizerOpts.{TokenizerOpts}
use Rattle.h5_driver.specs.Fragments.{first_in_new, opts_in_context}
use Rattle.h5_driver.specs.Reading.{Parses}
use Rattle.h5_driver.specs.WholeTexts.{ParsesFragmentBy}
use Rattle.h5_driver.specs.declared.options.ParseOpts.{ParseOpts}

module _ {T : Type 0} {Reads : T → View → List ℕ → List TokenText → View → Type 0} (choices : SinkChoices) where
  pub one_tree : (r : T) (v : View) (text : List ℕ) (a b : Seen) → Parses Reads choices r v text a → Parses Reads choices r v text b → (a.forest ≡ b.forest) × (a.quirks ≡ b.quirks)
  one_tree r v text a b h k =
      let one = (h.any h.tokens _ h.reads).1 in
      let other = (k.any h.tokens _ h.reads).1 in
      (one.0 ∙ sym other.0, one.1 ∙ sym other.1)

module _ {T : Type 0} (Reads : T → View → List ℕ → List TokenText → View → Type 0) (first : TokenizerOpts → T) (choices : SinkChoices) (seen : Seen) (opts : ParseOpts) (name : QualName) (attrs : List AttributeText) (allows_scripting : Bool) where
  pub one_fragment : (text : List ℕ) (a b : Seen) → ParsesFragmentBy Reads first choices seen opts name attrs allows_scripting text a → ParsesFragmentBy Reads first choices seen opts name attrs allows_scripting text b → (a.forest ≡ b.forest) × (a.quirks ≡ b.quirks)
  unfolding ParsesFragmentBy
  one_fragment text a b h k =
      let v = (first_in_new choices seen name attrs opts.tree_builder).view in
      one_tree choices (first (opts_in_context allows_scripting v.world opts.tokenizer)) v text a b h k

  -- what a new parser of a fragment makes from a text
  pub fragment_parsed : (r : T) (b : Building) (waiting text : List ℕ) (told : Seen) → b ≡ first_in_new choices seen name attrs opts.tree_builder → r ≡ first (opts_in_context allows_scripting b.view.world opts.tokenizer) → waiting ≡ []
      → Parses Reads choices r b.view (waiting ++ text) told → ParsesFragmentBy Reads first choices seen opts name attrs allows_scripting text told
  unfolding ParsesFragmentBy
  fragment_parsed r b waiting text told e at none h =
      subst (λ (c : Building). Parses Reads choices (first (opts_in_context allows_scripting c.view.world opts.tokenizer)) c.view text told) e
      (subst (λ s. Parses Reads choices s b.view text told) at (subst (λ xs. Parses Reads choices r b.view (xs ++ text) told) none h))
