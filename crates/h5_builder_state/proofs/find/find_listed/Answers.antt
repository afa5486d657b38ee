use Rattle.std.proofs.Common.{sym}
use Rattle.h5_builder_spec.proofs.entries.PairLaws.{is_in_telling}
use Rattle.h5_builder_state.specs.Steps.{world_of}
use Rattle.h5_builder_state.proofs.find.find_listed.Goals as goal

pub returns-in-Some-clause-found : goal.returns-in-Some-clause-found
returns-in-Some-clause-found g c =
    let n = g.S.TreeSink.node c.args.listed.now.handle in
    sym (is_in_telling n (world_of g.S.TreeSink c.args.sink.now c.args.state.now).stack c.in-Some.ensures.place.is_open)
