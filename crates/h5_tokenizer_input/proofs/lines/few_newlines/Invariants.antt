use Rattle.std.proofs.Common.{◌≡◌, ◌+◌, ◌≤◌, drop}
use Rattle.h5_tokenizer_input.specs.Lines.{newlines}
use Rattle.h5_tokenizer_input.proofs.lines.few_newlines.Given as goal

abbrev pub invariant-loop-b : goal.invariant-loop-b
invariant-loop-b l = record {
  few : l.count ≤ l.b-index;
  counted : l.count + newlines l.after_cr (drop l.b-index l.bytes) ≡ newlines l.behind_cr l.bytes;
}
