use Rattle.std.proofs.Common.{arith, length, ◌<◌}
use borrow.Author.Tests.{ltb-true}
use Rattle.h5_builder_state.specs.View.{elements_of, open_node, stack_under, world}
use Rattle.h5_builder_state.proofs.AttributeLaws.{open_length}
use Rattle.h5_builder_state.proofs.StampLaws.{not_below}
use Rattle.h5_builder_state.proofs.find.is_lower.Goals as goal

pub returns : goal.returns
unfolding world stack_under
returns g c = λ n above low.
    let items = elements_of c.args.state.now in
    let inside : c.args.place < length items = omega (arith, c.requires, open_length (open_node g.S.TreeSink.node) items) in
    not_below g.S.TreeSink.node items c.args.place n c.args.since c.get.result.now inside c.get.ensures (ltb-true c.get.result.now.stamp c.args.since low) above
