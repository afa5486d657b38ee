use Rattle.std.proofs.Common.{◌≡◌, ◌<◌, ℕ, false, true, get_or}
use Rattle.std.specs.Char.{is_ascii_alphabetic}
use Rattle.h5_markup.specs.Cuts.{is_in}
use Rattle.h5_markup.specs.declared.cut.Class.TheVariants.{NameEnd}
use Rattle.h5_markup.proofs.bare.bare_name.Given as goal

abbrev pub invariant-loop-i : goal.invariant-loop-i
invariant-loop-i l = record {
  passed : (k : ℕ) → k < l.i → is_in NameEnd (get_or l.bytes k 0) ≡ false;
  high : (k : ℕ) → k < l.i → 13 < get_or l.bytes k 0;
  starts : 0 < l.i → is_ascii_alphabetic (get_or l.bytes 0 0) ≡ true;
}
