use Rattle.std.proofs.Common.{◌<◌, ◌≤◌, ◌∙◌, ap, arith, length}
use Rattle.std.specs.Prelude.{None, Some}
use Rattle.std.proofs.lemmas.List.{length-map}
use Rattle.h5_arena.specs.ArenaModel.{child_view, child_views, forest_in}
use Rattle.h5_arena.proofs.ChildTexts.{has_at}
use Rattle.h5_arena.proofs.ChildViews.{child_at}
use Rattle.h5_arena.proofs.MoveLaws.{adopts_all, kept_length}
use Rattle.h5_arena.proofs.TextEditLaws.{one_let_go}
use Rattle.h5_arena.proofs.edit_text.let_all_go.Goals as goal

pub let_go-requires : goal.let_go-requires
let_go-requires c = λ n e.
    let held = c.requires n (has_at n (child_views c.args.children.now) c.loop-child.child-index (child_at c.args.children.now c.loop-child.child-index c.child-item.result c.loop-child-test.true c.child-item.is ∙ ap (λ x. Some x) e)) in
    let same = kept_length c.args.nodes.now.items c.loop-child.nodes.items _ None c.loop-child.invariant in
    omega (arith, held, same)

pub loop-child-preserved : goal.loop-child-preserved
loop-child-preserved c =
    let within : c.loop-child.child-index < length (child_views c.args.children.now) = simp length-map c.loop-child-test.true in
    one_let_go (forest_in c.args.nodes.now.items) (forest_in c.loop-child.nodes.items) (forest_in c.let_go.new.nodes.items) (child_views c.args.children.now) c.loop-child.child-index (child_view c.child-item.result) within
    (child_at c.args.children.now c.loop-child.child-index c.child-item.result c.loop-child-test.true c.child-item.is) c.loop-child.invariant c.let_go.ensures

pub returns : goal.returns
returns c =
    let past : length (child_views c.args.children.now) ≤ c.loop-child.child-index = simp length-map c.loop-child-test.false in
    adopts_all (forest_in c.args.nodes.now.items) (forest_in c.loop-child.nodes.items) (child_views c.args.children.now) None c.loop-child.child-index past c.loop-child.invariant
