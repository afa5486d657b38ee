use Rattle.h5_builder_state.specs.Stamps.{stamps_of}
use Rattle.h5_builder_state.proofs.StampLaws.{above_none}
use Rattle.h5_builder_state.proofs.find.find_open.Goals as goal

pub find_since-requires-clause-above : goal.find_since-requires-clause-above
find_since-requires-clause-above g c = above_none (g.S.TreeSink.node c.args.handle.now) (stamps_of g.S.TreeSink.node c.args.state.now.open_elems)
