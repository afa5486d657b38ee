use Rattle.std.proofs.Common.{subst, sym}
use Rattle.h5_interface.specs.Forest.{IsForest}
use Rattle.h5_serialize.proofs.WalkSteps.{walk_join}
use Rattle.h5_arena.specs.ArenaModel.{ArenaView, forest_seen}
use Rattle.h5_arena.specs.OpenNodes.{AreNodes, calls_left}
use Rattle.h5_arena.proofs.NodeCallLaws.{shown_are_nodes}
use Rattle.h5_arena.proofs.walk.walk_node.Goals as goal

pub walk_open-requires : goal.walk_open-requires
walk_open-requires g c =
    let f = forest_seen c.args.arena.now in
    let forest = subst (λ (a : ArenaView). IsForest (forest_seen a)) c.arena.view_is c.arena.invariant.is_forest in
    let shown = rw c.in-Some.is at c.in_ok-opened.ensures.opened in
    subst (AreNodes f) (sym shown) (shown_are_nodes f c.args.id.index forest)

pub returns-in-Some : goal.returns-in-Some
returns-in-Some g c =
    let begun = rw c.in-Some.is at c.in_ok-opened.ensures.calls in
    rw begun.1 (walk_join g.S.Serializer.answer g.S.Serializer.after g.S.Serializer.writes g.S.Serializer.breaks (calls_left (forest_seen c.args.arena.now) c.in-Some.opened) _ _ _ begun.2 c.walk_open.ensures)
