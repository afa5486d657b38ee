use Rattle.std.proofs.Common.{◌∙◌, ap, sym}
use Rattle.std.specs.Option.{option_map}
use Rattle.h5_arena.specs.ArenaModel.{child_views, forest_seen}
use Rattle.h5_tree_block.specs.Columns.{ids_among}
use Rattle.h5_tree_block.specs.Ids.{lent}
use Rattle.h5_tree_block.proofs.IdLaws.{met, none_met, passed}
use Rattle.h5_tree_block.proofs.of_arena.ids_among.Goals as goal

pub returns-in-Some : goal.returns-in-Some
returns-in-Some c =
    let f = forest_seen c.args.arena.now in
    let all = ids_among f (child_views c.args.children.now) in
    met f c.args.children.now c.loop-child.child-index c.child-item.result all (lent c.in-Some.ids) c.loop-child-test.true c.child-item.is (sym c.ids_of_child.ensures ∙ ap (option_map lent) c.in-Some.is) c.loop-child.invariant

pub loop-child-preserved : goal.loop-child-preserved
loop-child-preserved c =
    let f = forest_seen c.args.arena.now in
    let all = ids_among f (child_views c.args.children.now) in
    passed f c.args.children.now c.loop-child.child-index c.child-item.result all c.loop-child-test.true c.child-item.is (sym c.ids_of_child.ensures ∙ ap (option_map lent) c.in_default.is) c.loop-child.invariant

pub returns : goal.returns
returns c = none_met (forest_seen c.args.arena.now) c.args.children.now c.loop-child.child-index _ c.loop-child-test.false c.loop-child.invariant
