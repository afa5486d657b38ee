use Rattle.std.proofs.Common.{◌-◌, ◌<◌, ◌≤◌, arith, drop, length, refl}
use Rattle.std.specs.Prelude.{Some}
use Rattle.std.proofs.lemmas.List.{length-drop}
use Rattle.h5_interface.specs.Forest.{children_of}
use Rattle.h5_arena.specs.ArenaModel.{forest_in}
use Rattle.h5_arena.proofs.MoveLaws.{adopts_all, adopts_none, adopts_one, children_length, kept_children, kept_length}
use Rattle.h5_arena.proofs.moves.adopt_children.Goals as goal

pub loop-i-init : goal.loop-i-init
loop-i-init c =
    adopts_none (forest_in c.args.nodes.now.items) (forest_in c.args.nodes.now.items) (drop c.args.start (children_of (forest_in c.args.nodes.now.items) c.args.parent.index)) (Some c.args.parent.index) (c.args.start - c.args.start) refl (omega arith)

pub adopt_child-requires-clause-within : goal.adopt_child-requires-clause-within
adopt_child-requires-clause-within c =
    let there : c.args.parent.index < length c.args.nodes.now.items = omega arith in
    let all = children_length c.args.nodes.now.items c.args.parent.index c.index.result.now there c.index.ensures in
    rw (kept_children (forest_in c.args.nodes.now.items) (forest_in c.loop-i.nodes.items) _ (Some c.args.parent.index) c.args.parent.index c.loop-i.invariant) (omega (arith, all))

pub adopt_child-requires-clause-held : goal.adopt_child-requires-clause-held
adopt_child-requires-clause-held c = λ n h.
    let h' = (rw (kept_children (forest_in c.args.nodes.now.items) (forest_in c.loop-i.nodes.items) _ (Some c.args.parent.index) c.args.parent.index c.loop-i.invariant) at h) in
    let within = c.requires.held n h' in
    let same = kept_length c.args.nodes.now.items c.loop-i.nodes.items _ (Some c.args.parent.index) c.loop-i.invariant in
    omega (arith, within, same)

pub loop-i-preserved : goal.loop-i-preserved
loop-i-preserved c =
    let there : c.args.parent.index < length c.args.nodes.now.items = omega arith in
    let all = children_length c.args.nodes.now.items c.args.parent.index c.index.result.now there c.index.ensures in
    adopts_one (forest_in c.args.nodes.now.items) (forest_in c.loop-i.nodes.items) _ (children_of (forest_in c.args.nodes.now.items) c.args.parent.index) c.args.parent.index c.args.start c.loop-i.i (omega arith) (omega (arith, all)) refl
    c.loop-i.invariant c.adopt_child.ensures

pub returns : goal.returns
returns c =
    let there : c.args.parent.index < length c.args.nodes.now.items = omega arith in
    let all = children_length c.args.nodes.now.items c.args.parent.index c.index.result.now there c.index.ensures in
    let rest = length-drop c.args.start (children_of (forest_in c.args.nodes.now.items) c.args.parent.index) in
    let past : length (drop c.args.start (children_of (forest_in c.args.nodes.now.items) c.args.parent.index)) ≤ c.loop-i.i - c.args.start = grind (arith, all, rest) in
    adopts_all (forest_in c.args.nodes.now.items) (forest_in c.loop-i.nodes.items) (drop c.args.start (children_of (forest_in c.args.nodes.now.items) c.args.parent.index)) (Some c.args.parent.index) (c.loop-i.i - c.args.start) past c.loop-i.invariant
