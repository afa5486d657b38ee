use Rattle.std.proofs.Common.{◌∙◌, Some, ap, subst, sym}
use Rattle.h5_interface.specs.Forest.{IsForest}
use Rattle.h5_arena.specs.ArenaModel.{ArenaView, forest_seen}
use Rattle.h5_arena.proofs.HeldLaws.{parent_held, node_told}
use Rattle.h5_arena.proofs.tree.Arena.child_parent.Goals as goal

pub returns-in_default-clause-held : goal.returns-in_default-clause-held
returns-in_default-clause-held c =
    let a = c.args.self.now in
    let forest = subst (λ (a : ArenaView). IsForest (forest_seen a)) c.self.view_is c.self.invariant.is_forest in
    let nodes = ap (λ (a : ArenaView). a.nodes) c.self.view_is in
    let told = node_told (λ d. d.parent) a c.self.inside.nodes.items c.args.id c.index-node.result.now nodes c.requires c.index-node.ensures ∙ ap Some (sym c.node.ensures) in
    parent_held a c.args.id c.node.result forest told
