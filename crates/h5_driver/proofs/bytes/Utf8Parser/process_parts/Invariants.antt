use Rattle.std.proofs.Common.{◌≡◌, ◌++◌, ℕ, List, length}
use Rattle.h5_driver.specs.Bytes.{AdvancesBytes}
use Rattle.h5_driver.proofs.bytes.Utf8Parser.process_parts.Given as goal

abbrev pub invariant-parts : goal.invariant-parts
invariant-parts g l = record {
  flag : l.self.parser.failed ≡ l.fn.self.parser.failed;
  advances : (taken : List ℕ) × (AdvancesBytes g.R.Reader taken l.fn.self l.self × (taken ++ l.left ≡ l.fn.bytes));
}

abbrev pub decreases-parts : goal.decreases-parts
decreases-parts g l = length l.left
