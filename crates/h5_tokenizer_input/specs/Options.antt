-- Options of a tokenizer, with texts as lists of bytes.
use Rattle.std.specs.Prelude.{ℕ, Bool, true, false, List, Option, None, Some, string_bytes}
use Rattle.std.specs.Option.{option_map}
use Rattle.h5_token.specs.declared.states.State.{State}
use Rattle.h5_tokenizer_input.specs.declared.options.TokenizerOpts.{TokenizerOpts}

pub record OptionsText : Type 0 where
  pub exact_errors : Bool
  pub discard_bom : Bool
  pub initial_state : Option State
  pub last_start_tag_name : Option (List ℕ)

abbrev pub options_text : TokenizerOpts → OptionsText
options_text o = record {
  exact_errors = o.exact_errors;
  discard_bom = o.discard_bom;
  initial_state = o.initial_state;
  last_start_tag_name = option_map string_bytes o.last_start_tag_name;
}

abbrev pub default_options : TokenizerOpts
default_options = record { exact_errors = false; discard_bom = true; initial_state = None; last_start_tag_name = None }

-- the options with this initial state
abbrev pub beginning_in : State → TokenizerOpts → TokenizerOpts
beginning_in state opts = record opts { initial_state = Some state }
