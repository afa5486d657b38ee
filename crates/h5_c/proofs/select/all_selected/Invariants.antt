use Rattle.std.proofs.Common.{◌≡◌, length, take}
use Rattle.h5_c.specs.Selecting.{AreAllAsked, all_asked_in}
use Rattle.h5_c.proofs.select.all_selected.Given as goal

abbrev pub invariant-loop-text : goal.invariant-loop-text
invariant-loop-text l = record {
  number : l.number ≡ length l.yielded;
  put : AreAllAsked l.tree.view.block.now l.node (take l.number (all_asked_in l.texts)) l.bytes.items;
}
