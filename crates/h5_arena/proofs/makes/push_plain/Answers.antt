use Rattle.std.proofs.Common.{◌∙◌, ◌++◌, ◌∷◌, [], ap}
use Rattle.h5_arena.specs.ArenaModel.{forest_in, node_views}
use Rattle.h5_arena.proofs.MakeLaws.{push_is, views_pushed}
use Rattle.h5_arena.proofs.makes.push_plain.Goals as goal

pub returns-clause-ok : goal.returns-clause-ok
returns-clause-ok c = ap forest_in c.in_ok-push.ensures.items ∙ push_is c.args.nodes.now.items _ _ c.in_ok-node.ensures

pub returns-clause-pushed : goal.returns-clause-pushed
returns-clause-pushed c = ap node_views c.in_ok-push.ensures.items ∙ views_pushed c.args.nodes.now.items _ ∙ ap (λ v. node_views c.args.nodes.now.items ++ v ∷ []) c.in_ok-node.ensures
