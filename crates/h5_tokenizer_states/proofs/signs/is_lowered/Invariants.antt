use Rattle.std.proofs.Common.{◌≡◌, ℕ, ◌<◌, length, get_or}
use Rattle.std.specs.Char.{to_ascii_lowercase}
use Rattle.h5_tokenizer_states.proofs.signs.is_lowered.Given as goal

abbrev pub invariant-loop-i : goal.invariant-loop-i
invariant-loop-i l = (length l.text ≡ length l.written) × ((k : ℕ) → k < l.i → get_or l.text k 0 ≡ to_ascii_lowercase (get_or l.written k 0))
