-- Options, and the first place of a tokenizer.
use Rattle.std.specs.Prelude.{[], false, Option, Some, None, string_bytes}
use Rattle.std.specs.Option.{option_map, unwrap_or}
use Rattle.h5_token.specs.declared.states.State.{State}
use Rattle.h5_token.specs.declared.states.State.TheVariants as state
use Rattle.h5_tokenizer_input.specs.declared.options.TokenizerOpts.{TokenizerOpts}
use Rattle.h5_tokenizer_spec.specs.declared.kinds.TextKind.{TextKind}
use Rattle.h5_tokenizer_spec.specs.declared.kinds.TextKind.TheVariants.{Data, Plaintext}
use Rattle.h5_tokenizer_spec.specs.States.{Text}
use Rattle.h5_tokenizer_spec.specs.Reading.{ReaderPlace, raw_text}

abbrev pub text_of : Option State → TextKind
text_of None = Data
text_of (Some state.Data) = Data
text_of (Some (state.RawData kind)) = raw_text kind
text_of (Some state.Plaintext) = Plaintext

abbrev pub first_place : TokenizerOpts → ReaderPlace
first_place o = record {
  state = Text (text_of o.initial_state);
  last = unwrap_or (option_map string_bytes o.last_start_tag_name) [];
  after_return = false;
  line = 1;
  began = 1;
}
