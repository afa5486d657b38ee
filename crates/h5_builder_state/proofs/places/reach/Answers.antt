use Rattle.std.proofs.Common.{arith}
use Rattle.h5_builder_state.proofs.PlaceLaws.{grown}
use Rattle.h5_builder_state.proofs.places.reach.Goals as goal

pub returns-in_ok-resize-clause-same : goal.returns-in_ok-resize-clause-same
returns-in_ok-resize-clause-same c =
    grown c.args.table.now.items c.resize.new.self.items _ _ (omega (arith, c.if-len-count.true, c.len.ensures, c.args.table.now.ok.0)) c.in_ok-resize.ensures.items
