use Rattle.std.proofs.Common.{take}
use Rattle.h5_builder_state.specs.Keys.{IsIndexOf}
use Rattle.h5_builder_state.proofs.index.Index.of.Given as goal

abbrev pub invariant-loop-entry : goal.invariant-loop-entry
invariant-loop-entry g l = IsIndexOf l.index (take l.entry-index l.entries.items)
