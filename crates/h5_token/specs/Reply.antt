-- Replies to tokens, independent of where their texts are in memory.
use Rattle.std.specs.Prelude.{◌≡◌, ℕ, List, Result, Ok, Err, string_bytes}
use Rattle.h5_token.specs.declared.fault.BuildFault.{BuildFault}
use Rattle.h5_token.specs.declared.fault.BuildFault.TheVariants.{Memory, AfterEnd, NotInText, Failed}
use Rattle.h5_token.specs.declared.sink.TokenSinkResult.{TokenSinkResult}
use Rattle.h5_token.specs.declared.sink.TokenSinkResult.TheVariants.{Continue, Script, Plaintext, RawData, EncodingIndicator}
use Rattle.h5_token.specs.declared.states.RawKind.{RawKind}

pub data Reply : Type 0 where
  Continues : Reply
  RunsScript : (node : ℕ) → Reply
  TurnsPlain : Reply
  TurnsRaw : (kind : RawKind) → Reply
  Indicates : (encoding : List ℕ) → Reply
  Refuses : (fault : BuildFault) → Reply

-- a reply, with each handle as the node that it names
abbrev pub reply : {H : Type 0} → (H → ℕ) → TokenSinkResult H → Reply
reply node Continue = Continues
reply node (Script handle) = RunsScript (node handle)
reply node Plaintext = TurnsPlain
reply node (RawData kind) = TurnsRaw kind
reply node (EncodingIndicator encoding) = Indicates (string_bytes encoding)

-- this is the reply, unless an allocation failed
abbrev pub Answers : {H : Type 0} → (H → ℕ) → Result (TokenSinkResult H) BuildFault → Reply → Type 0
Answers node (Ok answer) r = r ≡ reply node answer
Answers node (Err Memory) r = Unit {0}
Answers node (Err AfterEnd) r = r ≡ Refuses AfterEnd
Answers node (Err NotInText) r = r ≡ Refuses NotInText
Answers node (Err Failed) r = r ≡ Refuses Failed
