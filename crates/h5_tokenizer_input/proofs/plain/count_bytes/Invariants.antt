use Rattle.std.proofs.Common.{◌≡◌, ◌<◌, ◌≤◌, ℕ, false, true, get_or, take}
use Rattle.h5_markup.specs.Plain.{is_plain}
use Rattle.h5_tokenizer_input.specs.Lines.{newlines}
use Rattle.h5_tokenizer_input.proofs.plain.count_bytes.Given as goal

abbrev pub invariant-loop-i : goal.invariant-loop-i
invariant-loop-i l = record {
  plain : (k : ℕ) → k < l.i → is_plain (get_or l.bytes k 0) ≡ true;
  few : l.lines ≤ l.i;
  counted : l.lines ≡ newlines false (take l.i l.bytes);
}
