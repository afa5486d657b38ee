use Rattle.std.proofs.Common.{refl}
use Rattle.h5_arena.proofs.ChildViews.{inserted_node}
use Rattle.h5_arena.proofs.children.insert_node.Goals as goal

pub returns-clause-ok : goal.returns-clause-ok
returns-clause-ok c = λ s g one. inserted_node c.args.children.now.items _ c.args.at c.args.id.index s _ c.in_ok-insert.ensures.items refl c.requires.parted g one
