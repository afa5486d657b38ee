-- A new builder of a fragment (HTML standard, section 13.4, "Parsing HTML fragments").
use Rattle.std.specs.Prelude.{ℕ, Bool, false, ◌&&◌, if◌then◌else◌, List, [], ◌∷◌, Option, Some, codes}
use Rattle.h5_names.specs.AttributeText.{is_same_text}
use Rattle.h5_names.specs.declared.qualified.QualName.{QualName}
use Rattle.h5_token.specs.declared.states.RawKind.TheVariants.{Rcdata, Rawtext, ScriptData}
use Rattle.h5_token.specs.declared.states.State.{State}
use Rattle.h5_token.specs.declared.states.State.TheVariants.{Data, Plaintext, RawData}
use Rattle.h5_interface.specs.Seen.{Seen}
use Rattle.h5_interface.specs.SinkChoices.{SinkChoices}
use Rattle.h5_tables.specs.TagSets.{html_namespace, is_html_named, is_one_of}
use Rattle.h5_tables.specs.declared.modes.InsertionMode.{InsertionMode}
use Rattle.h5_tables.specs.declared.modes.InsertionMode.TheVariants.{InTemplate}
use Rattle.h5_tables.specs.declared.options.TreeBuilderOpts.{TreeBuilderOpts}
use Rattle.h5_builder_spec.specs.Changes.{create_root, set_mode}
use Rattle.h5_builder_spec.specs.reset.Reset.{reset_mode}
use Rattle.h5_builder_spec.specs.World.{World, name_in}
use Rattle.h5_tree_builder.specs.Builder.{Building, first_world}

-- the template insertion modes: "in template" if the context is a template
abbrev pub context_modes : QualName → List InsertionMode
context_modes name = if is_html_named (codes "template") name then InTemplate ∷ [] else []

-- a builder with a context and a form element, before the root is made
abbrev pub context_world : Seen → (context : ℕ) → Option ℕ → TreeBuilderOpts → World
context_world seen context form opts =
    record (first_world seen opts) { template_modes = context_modes (name_in seen.forest context); form = form; context = Some context }

-- the root is created, as the document's last child, and the insertion mode is reset
abbrev pub rooted_world : SinkChoices → Seen → (context : ℕ) → Option ℕ → TreeBuilderOpts → World
rooted_world choices seen context form opts = create_root choices [] (context_world seen context form opts)

abbrev pub fragment_world : SinkChoices → Seen → (context : ℕ) → Option ℕ → TreeBuilderOpts → World
fragment_world choices seen context form opts =
    let w = rooted_world choices seen context form opts in set_mode (reset_mode w) w

abbrev pub first_fragment : SinkChoices → Seen → (context : ℕ) → Option ℕ → TreeBuilderOpts → Building
first_fragment choices seen context form opts = record {
  view = record { world = fragment_world choices seen context form opts; ended = false; failed = false };
  turns = 0;
  errors = seen.errors;
}

-- the tokenizer's state at the start of a fragment, by the local name of its context
unfoldable pub rawtext_context_names : List (List ℕ)
rawtext_context_names = codes "style" ∷ codes "xmp" ∷ codes "iframe" ∷ codes "noembed" ∷ codes "noframes" ∷ []

unfoldable pub rcdata_context_names : List (List ℕ)
rcdata_context_names = codes "title" ∷ codes "textarea" ∷ []

unfoldable pub state_of_local : Bool → List ℕ → State
state_of_local scripting l =
    if is_one_of rcdata_context_names l then RawData Rcdata
    else (if is_one_of rawtext_context_names l then RawData Rawtext
    else (if is_same_text l (codes "script") then RawData ScriptData
    else (if is_same_text l (codes "noscript") && scripting then RawData Rawtext
    else (if is_same_text l (codes "plaintext") then Plaintext else Data))))

-- for an element of another namespace it is the data state
abbrev pub state_in_context : Bool → QualName → State
state_in_context scripting name = if is_same_text name.ns html_namespace then state_of_local scripting name.local else Data

abbrev pub state_by_context : Bool → World → Option ℕ → State
state_by_context scripting w (Some context) = state_in_context scripting (name_in w.forest context)
state_by_context scripting w _ = Data
