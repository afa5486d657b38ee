-- Replies after which tokenization goes on.
use Rattle.std.proofs.Common.{◌≡◌, true, false, refl}
use Rattle.std.proofs.lemmas.Bool.{false≢true}
use Rattle.h5_token.specs.Reply.{Reply, Continues, RunsScript, TurnsPlain, TurnsRaw, Indicates, Refuses}
use Rattle.h5_tokenizer_input.specs.Answers.{goes_on, refuses}

pub unrefused : (reply : Reply) → goes_on reply ≡ true → refuses reply ≡ false
unrefused Continues h = refl
unrefused (RunsScript node) h = refl
unrefused TurnsPlain h = refl
unrefused (TurnsRaw kind) h = refl
unrefused (Indicates encoding) h = refl
unrefused (Refuses fault) h = absurd (false≢true h)
