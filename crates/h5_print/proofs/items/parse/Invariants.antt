use Rattle.std.proofs.Common.{◌≡◌, ◌+◌, ◌==◌, drop, length}
use Rattle.std.specs.List.{slice_split}
use Rattle.h5_print.specs.Items.{item_texts, items_from, items_of}
use Rattle.h5_print.proofs.items.parse.Given as goal

abbrev pub invariant-loop-line : goal.invariant-loop-line
invariant-loop-line l = record {
  number : l.number ≡ length l.yielded;
  read : items_from (l.number + 1) (item_texts l.items.items) (drop l.number (slice_split (λ c. c == 10) l.text)) ≡ items_of l.text;
}
