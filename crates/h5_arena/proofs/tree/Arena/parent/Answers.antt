use Rattle.h5_arena.proofs.CallConditions.{child_of, no_child}
use Rattle.h5_arena.proofs.tree.Arena.parent.Goals as goal

pub returns-clause-child : goal.returns-clause-child
returns-clause-child c = child_of c.args.self.now c.args.id c.child_parent.result c.child_parent.ensures.parent

pub returns-clause-no_child : goal.returns-clause-no_child
returns-clause-no_child c = no_child c.args.self.now c.args.id c.child_parent.result c.child_parent.ensures.parent
