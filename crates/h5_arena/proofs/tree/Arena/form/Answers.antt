use Rattle.std.proofs.Common.{◌∙◌, Some, ap, subst, sym}
use Rattle.h5_interface.specs.Forest.{IsForest}
use Rattle.h5_arena.specs.ArenaModel.{ArenaView, HoldsOwners, forest_seen}
use Rattle.h5_arena.proofs.HeldLaws.{form_held, node_told}
use Rattle.h5_arena.proofs.tree.Arena.form.Goals as goal

pub returns-clause-held : goal.returns-clause-held
returns-clause-held c =
    let a = c.args.self.now in
    let forest = subst (λ (a : ArenaView). IsForest (forest_seen a)) c.self.view_is c.self.invariant.is_forest in
    let owners = subst (λ (a : ArenaView). HoldsOwners (forest_seen a)) c.self.view_is c.self.invariant.notes.owners in
    let nodes = ap (λ (a : ArenaView). a.nodes) c.self.view_is in
    let told = node_told (λ d. d.marks.form) a c.self.inside.nodes.items c.args.id c.index.result.now nodes c.requires c.index.ensures ∙ ap Some (sym c.node.ensures) in
    form_held a c.args.id c.node.result forest owners told
