use Rattle.std.proofs.Common.{[], string_bytes}
use Rattle.h5_print.specs.Frames.{AreHeld, GoesOn}
use Rattle.h5_print.proofs.tree.print_tree.Given as goal

abbrev pub invariant-frames : goal.invariant-frames
invariant-frames l = record {
  held : AreHeld l.arena l.stack.items;
  goes_on : GoesOn l.arena l.initial.stack.items [] l.stack.items (string_bytes l.out);
}
