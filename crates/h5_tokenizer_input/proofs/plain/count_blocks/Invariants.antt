use Rattle.std.proofs.Common.{◌≡◌, ℕ, false, true, ◌<◌, ◌≤◌, ◌-◌, length, get_or, take}
use Rattle.h5_markup.specs.Plain.{is_plain}
use Rattle.h5_tokenizer_input.specs.Lines.{newlines}
use Rattle.h5_tokenizer_input.proofs.plain.count_blocks.Given as goal

abbrev pub invariant-loop-n : goal.invariant-loop-n
invariant-loop-n l = record {
  within : l.n ≤ length l.bytes;
  plain : (k : ℕ) → k < l.n → is_plain (get_or l.bytes k 0) ≡ true;
  few : l.lines ≤ l.n;
  counted : l.lines ≡ newlines false (take l.n l.bytes);
}

abbrev pub decreases-loop-n : goal.decreases-loop-n
decreases-loop-n l = length l.bytes - l.n
