use Rattle.std.proofs.Common.{ℕ, ◌<◌, get_or}
use Rattle.h5_tokenizer_input.proofs.lines.first_low.Given as goal

abbrev pub invariant-loop-i : goal.invariant-loop-i
invariant-loop-i l = (k : ℕ) → k < l.i → 13 < get_or l.bytes k 0
