use Rattle.std.proofs.Common.{subst, sym}
use Rattle.h5_interface.specs.Forest.{IsForest}
use Rattle.h5_arena.specs.ArenaModel.{ArenaView, forest_seen}
use Rattle.h5_arena.specs.OpenNodes.{AreNodes}
use Rattle.h5_arena.proofs.NodeCallLaws.{shown_are_nodes}
use Rattle.h5_arena.proofs.walk.walk_below.Goals as goal

pub walk_open-requires : goal.walk_open-requires
walk_open-requires g c =
    let f = forest_seen c.args.arena.now in
    let forest = subst (λ (a : ArenaView). IsForest (forest_seen a)) c.arena.view_is c.arena.invariant.is_forest in
    subst (AreNodes f) (sym c.shown_children-rest.ensures) (shown_are_nodes f c.args.id.index forest)
