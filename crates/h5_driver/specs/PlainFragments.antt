-- What a parser makes from the text of a plain fragment.
use Rattle.std.specs.Prelude.{◌≡◌, ℕ, Bool, true, false, List, [], ◌∷◌, codes}
use Rattle.h5_names.specs.AttributeText.{AttributeText}
use Rattle.h5_names.specs.declared.qualified.QualName.{QualName}
use Rattle.h5_token.specs.TokenText.{TokenText}
use Rattle.h5_token.specs.declared.states.State.TheVariants.{Data}
use Rattle.h5_interface.specs.Forest.{ChildNode, DocumentNode, ElementNode, Forest, IsForest, children_of}
use Rattle.h5_interface.specs.NewElement.{is_html_template}
use Rattle.h5_interface.specs.Seen.{Seen}
use Rattle.h5_interface.specs.SinkChoices.{SinkChoices}
use Rattle.h5_tables.specs.declared.modes.InsertionMode.TheVariants.{InBody}
use Rattle.h5_tokenizer_input.specs.declared.options.TokenizerOpts.{TokenizerOpts}
use Rattle.h5_builder_spec.specs.Run.{View}
use Rattle.h5_builder_spec.specs.reset.Situation.{Situation}
use Rattle.h5_builder_spec.specs.reset.Roles.{is_html_element, role_of}
use Rattle.h5_builder_spec.specs.reset.ResetByRoles.{decide_root}
use Rattle.h5_builder_spec.specs.formatting.FormattingNames.{html_name}
use Rattle.h5_standard_tokenizer.specs.Mark.{behind_mark}
use Rattle.h5_tree_builder.specs.Fragment.{context_modes, state_in_context}
use Rattle.h5_builder_laws.specs.Plain.{Flow, IsPlain, Nodes, nothing_open}
use Rattle.h5_builder_laws.specs.Rebuilding.{HoldsDocument, Looks, Stands}
use Rattle.h5_round_trip.specs.Readable.{CanBeRead}
use Rattle.h5_round_trip.specs.Written.{written_fragment}
use Rattle.h5_driver.specs.Options.{options_with}
use Rattle.h5_driver.specs.StandardReader.{Reads, first}
use Rattle.h5_driver.specs.WholeTexts.{ParsesFragmentBy}

-- the name of an HTML element other than `template` in whose context the mode is "in body" and the state is the data state, for
-- example `div`, `body`, `span` and `li`
pub record IsBodyContext (name : QualName) : Type 0 where
  pub of_html : is_html_element name ≡ true
  pub is_ordinary : (s : Situation) → decide_root s (role_of name) ≡ InBody
  pub is_data : (allows_scripting : Bool) → state_in_context allows_scripting name ≡ Data
  pub no_template : is_html_template name ≡ false
  pub no_modes : context_modes name ≡ []

-- a fragment is the children of the root, which is the document's only child
pub record FragmentStands (f : Forest) (nodes : Nodes) : Type 0 where
  pub is_forest : IsForest f
  pub root : ℕ
  pub document : Looks f f.document DocumentNode [] (ChildNode root ∷ [])
  pub is_root : Looks f root (ElementNode (html_name (codes "html"))) [] (children_of f root)
  pub stands : Stands f (children_of f root) nodes

-- the text of a readable fragment, which doesn't begin with U+FEFF
pub record IsFragmentText (nodes : Nodes) (text : List ℕ) : Type 0 where
  pub plain : IsPlain true (Flow false nothing_open) nodes
  pub readable : CanBeRead nodes
  pub written : text ≡ written_fragment nodes
  pub unmarked : behind_mark true text ≡ text

-- this holds if a parser of fragments with default options, with or without scripting, over a sink that holds only its document,
-- takes such a text, in such a context
abbrev pub FragmentsComeBackBy : {T : Type 0} → (T → View → List ℕ → List TokenText → View → Type 0) → (TokenizerOpts → T) → SinkChoices → Type 0
FragmentsComeBackBy Reads first choices =
    (seen told : Seen) (name : QualName) (attrs : List AttributeText) (scripting allows_scripting : Bool) (nodes : Nodes) (text : List ℕ)
    → HoldsDocument seen.forest → IsBodyContext name → IsFragmentText nodes text
    → ParsesFragmentBy Reads first choices seen (options_with scripting) name attrs allows_scripting text told → FragmentStands told.forest nodes

-- by the standard tokenizer
abbrev pub FragmentsComeBack : SinkChoices → Type 0
FragmentsComeBack choices = FragmentsComeBackBy (Reads choices) first choices
