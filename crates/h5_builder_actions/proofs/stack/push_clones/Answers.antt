use Rattle.std.proofs.Common.{◌-◌, arith}
use Rattle.h5_builder_actions.proofs.NodeLaws.{handle_in}
use Rattle.h5_builder_actions.proofs.stack.push_clones.Goals as goal

pub clone_handle-requires : goal.clone_handle-requires
clone_handle-requires g c =
    let node = g.S.TreeSink.node in
    let x = c.index.result.now in
    c.requires (node x) (handle_in node c.args.clones.now.items (c.down.left - 1) x (omega (arith, c.down-test.true, c.down.invariant.left)) c.index.ensures)
