use Rattle.std.proofs.Common.{◌≡◌, ℕ, true, ◌<◌, ◌≤◌, get_or}
use Rattle.h5_markup.specs.Plain.{is_plain}
use Rattle.h5_markup.proofs.plain.are_plain.Given as goal

abbrev pub invariant-loop-b : goal.invariant-loop-b
invariant-loop-b l = record {
  few : l.others ≤ l.b-index;
  plain : l.others ≡ 0 → (k : ℕ) → k < l.b-index → is_plain (get_or l.bytes k 0) ≡ true;
}
