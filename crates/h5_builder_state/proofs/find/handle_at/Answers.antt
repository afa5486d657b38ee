use Rattle.std.proofs.Common.{arith}
use Rattle.h5_builder_state.specs.View.{elements_of, open_node, world}
use Rattle.h5_builder_state.proofs.AttributeLaws.{open_length}
use Rattle.h5_builder_state.proofs.StackLaws.{seen_at}
use Rattle.h5_builder_state.proofs.find.handle_at.Goals as goal

pub returns-clause-open : goal.returns-clause-open
unfolding world
returns-clause-open g c =
    let items = elements_of c.args.state.now in
    seen_at (open_node g.S.TreeSink.node) items c.args.place c.get.result.now (omega (arith, c.requires, open_length (open_node g.S.TreeSink.node) items)) c.get.ensures
