-- Replies that stop a tokenizer.
use Rattle.std.specs.Prelude.{◌≡◌, ℕ, true, Option, Some, None, string_bytes}
use Rattle.h5_token.specs.Reply.{Reply, RunsScript, Indicates}
use Rattle.h5_tokenizer_input.specs.Answers.{goes_on}
use Rattle.h5_tokenizer_input.specs.declared.stop.Stop.{Stop}
use Rattle.h5_tokenizer_input.specs.declared.stop.Stop.TheVariants as stop
use Rattle.h5_tokenizer_input.specs.declared.result.TokenizerResult.{TokenizerResult}
use Rattle.h5_tokenizer_input.specs.declared.result.TokenizerResult.TheVariants as result

-- the result of `feed` for what stops the tokenizer
abbrev pub result_of : {H : Type 0} → Stop H → TokenizerResult H
result_of (stop.Script handle) = result.Script handle
result_of (stop.EncodingIndicator encoding) = result.EncodingIndicator encoding

-- the reply for what stops the tokenizer
abbrev pub stops_as : {H : Type 0} → (H → ℕ) → Stop H → Reply
stops_as node (stop.Script handle) = RunsScript (node handle)
stops_as node (stop.EncodingIndicator encoding) = Indicates (string_bytes encoding)

abbrev pub AnswersAs : {H : Type 0} → (H → ℕ) → Option (Stop H) → Reply → Type 0
AnswersAs node None reply = goes_on reply ≡ true
AnswersAs node (Some s) reply = reply ≡ stops_as node s
