use Rattle.std.proofs.Common.{◌≡◌, ◌∙◌, ◌<◌, arith, refl, sym, rules}
use Rattle.h5_tree_block.specs.Block.{nodes_in}
use Rattle.h5_c.proofs.NameWalks.{begun, found, none_left, passed}
use Rattle.h5_c.proofs.by_name.next_named.Goals as goal

pub loop-next-init : goal.loop-next-init
loop-next-init c = refl

pub returns-then-is_element_named : goal.returns-then-is_element_named
returns-then-is_element_named c =
    let b = c.args.view.now.block.now in
    let local = c.args.local.now in
    let inside : c.args.node < nodes_in b = omega (arith, c.if-node-node_count.false, c.node_count.ensures) in
    let before : c.loop-next.next < nodes_in b = omega (arith, c.loop-next-test.true, c.node_count-next-end.ensures) in
    sym (begun b local c.args.node inside ∙ (sym c.loop-next.invariant ∙ found b local (nodes_in b) c.loop-next.next before (sym c.is_element_named.ensures ∙ c.if-is_element_named.true)))

pub loop-next-preserved : goal.loop-next-preserved
loop-next-preserved c =
    let b = c.args.view.now.block.now in
    let local = c.args.local.now in
    let before : c.loop-next.next < nodes_in b = omega (arith, c.loop-next-test.true, c.node_count-next-end.ensures) in
    sym (passed b local (nodes_in b) c.loop-next.next before (sym c.is_element_named.ensures ∙ c.if-is_element_named.false)) ∙ c.loop-next.invariant

pub returns : goal.returns
returns c =
    let b = c.args.view.now.block.now in
    let local = c.args.local.now in
    let inside : c.args.node < nodes_in b = omega (arith, c.if-node-node_count.false, c.node_count.ensures) in
    sym (begun b local c.args.node inside ∙ (sym c.loop-next.invariant ∙ none_left b local (nodes_in b) c.loop-next.next (omega (arith, c.loop-next-test.false, c.node_count-next-end.ensures))))
