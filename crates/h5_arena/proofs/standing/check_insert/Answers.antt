use Rattle.std.proofs.Common.{arith, refl}
use Rattle.h5_arena.proofs.NodeWrites.{parent_within, within_is_node}
use Rattle.h5_arena.proofs.standing.check_insert.Goals as goal

pub check_below-requires-clause-parent : goal.check_below-requires-clause-parent
check_below-requires-clause-parent c = parent_within c.args.nodes.now c.in-Some.parent.index c.args.sibling.index c.requires c.in-Some.ensures.child.parent

pub returns-in-None-clause-told : goal.returns-in-None-clause-told
returns-in-None-clause-told c =
    (within_is_node c.args.nodes.now c.args.sibling.index (omega arith), c.if-not-is_there.ensures.there refl, c.in-None.ensures.no_child)
