use Rattle.std.proofs.Common.{◌≡◌, ◌≤◌, length, drop}
use Rattle.h5_markup.specs.Matching.{word}
use Rattle.h5_markup.proofs.needle.compare.Given as goal

abbrev pub invariant-loop-i : goal.invariant-loop-i
invariant-loop-i l = record {
  within : l.i ≤ length l.text;
  same : word l.needle l.text ≡ word (drop l.i l.needle) (drop l.i l.text);
}
