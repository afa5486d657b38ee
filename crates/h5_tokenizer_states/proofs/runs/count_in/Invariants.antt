use Rattle.std.proofs.Common.{◌≡◌, ◌≤◌, true, false, take}
use Rattle.h5_tokenizer_input.specs.Lines.{newlines}
use Rattle.h5_tokenizer_states.specs.Runs.{are_in}
use Rattle.h5_tokenizer_states.proofs.runs.count_in.Given as goal

abbrev pub invariant-loop-i : goal.invariant-loop-i
invariant-loop-i l = record {
  taken : are_in l.run (take l.i l.bytes) ≡ true;
  few : l.lines ≤ l.i;
  counted : l.lines ≡ newlines false (take l.i l.bytes);
}
