-- Replies of a token sink, by their effect on the tokenizer.
use Rattle.std.specs.Prelude.{Bool, true, false}
use Rattle.h5_token.specs.Reply.{Reply, Continues, RunsScript, TurnsPlain, TurnsRaw, Indicates, Refuses}

-- true if tokenization goes on after a reply
abbrev pub goes_on : Reply → Bool
goes_on Continues = true
goes_on (RunsScript node) = false
goes_on TurnsPlain = true
goes_on (TurnsRaw kind) = true
goes_on (Indicates encoding) = false
goes_on (Refuses fault) = false

abbrev pub refuses : Reply → Bool
refuses Continues = false
refuses (RunsScript node) = false
refuses TurnsPlain = false
refuses (TurnsRaw kind) = false
refuses (Indicates encoding) = false
refuses (Refuses fault) = true
