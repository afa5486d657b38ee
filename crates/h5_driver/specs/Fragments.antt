-- The initial builder and tokenizer of a fragment (HTML standard, section 13.4).
use Rattle.std.specs.Prelude.{Bool, false, List, None}
use Rattle.h5_names.specs.AttributeText.{AttributeText}
use Rattle.h5_names.specs.declared.qualified.QualName.{QualName}
use Rattle.h5_interface.specs.NewElement.{flags_of}
use Rattle.h5_interface.specs.Seen.{Seen, after_create_element}
use Rattle.h5_interface.specs.SinkChoices.{SinkChoices}
use Rattle.h5_tables.specs.declared.options.TreeBuilderOpts.{TreeBuilderOpts}
use Rattle.h5_builder_spec.specs.World.{World}
use Rattle.h5_tokenizer_input.specs.Options.{beginning_in}
use Rattle.h5_tokenizer_input.specs.declared.options.TokenizerOpts.{TokenizerOpts}
use Rattle.h5_tree_builder.specs.Builder.{Building}
use Rattle.h5_tree_builder.specs.Fragment.{first_fragment, state_by_context}

-- a builder whose context was created for it, with this name and these attributes, and which has no form element
unfoldable pub first_in_new : SinkChoices → Seen → QualName → List AttributeText → TreeBuilderOpts → Building
first_in_new choices seen name attrs opts =
    first_fragment choices (after_create_element choices name attrs (flags_of name attrs false) seen) (choices.fresh seen.forest) None opts

-- the tokenizer's options, with the state that a builder's context sets
abbrev pub opts_in_context : (allows_scripting : Bool) → World → TokenizerOpts → TokenizerOpts
opts_in_context allows_scripting w opts = beginning_in (state_by_context allows_scripting w w.context) opts
