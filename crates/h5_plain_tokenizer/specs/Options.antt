-- Options, and the first place of a tokenizer.
use Rattle.std.specs.Prelude.{[], Option, Some, None, string_bytes}
use Rattle.std.specs.Option.{option_map, unwrap_or}
use Rattle.h5_token.specs.declared.states.State.{State}
use Rattle.h5_token.specs.declared.states.State.TheVariants as state
use Rattle.h5_tokenizer_input.specs.declared.options.TokenizerOpts.{TokenizerOpts}
use Rattle.h5_plain_tokenizer.specs.Front.{ReaderPlace}
use Rattle.h5_plain_tokenizer.specs.declared.front.Mode.{Mode}
use Rattle.h5_plain_tokenizer.specs.declared.front.Mode.TheVariants.{Data, RawData, Plaintext}

abbrev pub mode_of : Option State → Mode
mode_of None = Data
mode_of (Some state.Data) = Data
mode_of (Some (state.RawData kind)) = RawData kind
mode_of (Some state.Plaintext) = Plaintext

abbrev pub first_place : TokenizerOpts → ReaderPlace
first_place o = record {
  at_start = o.discard_bom;
  mode = mode_of o.initial_state;
  last = unwrap_or (option_map string_bytes o.last_start_tag_name) [];
  line = 1;
}
