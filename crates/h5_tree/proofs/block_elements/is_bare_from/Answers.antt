use Rattle.std.proofs.Common.{◌≡◌, ◌⊎◌, arith, inl, inr}
use Rattle.h5_tree.proofs.LoopLaws.{bare_end, bare_found, bare_step, next_small}
use Rattle.h5_tree.proofs.block_elements.is_bare_from.Goals as goal
use Rattle.h5_tree.proofs.block_elements.is_bare_from.Goals.{then-kind-eq-ELEMENT-via-then-kind-eq-ELEMENT, then-kind-eq-ELEMENT-via-else-kind-eq-ELEMENT+then-kind-eq-TEXT}

pub returns-then-kind-eq-ELEMENT : goal.returns-then-kind-eq-ELEMENT
returns-then-kind-eq-ELEMENT c =
    let t = c.args.tree.now in
    let found : (c.kind-kind.result ≡ 1) ⊎ (c.kind-kind.result ≡ 3) = elim c.then-kind-eq-ELEMENT.branch [
      | then-kind-eq-ELEMENT-via-then-kind-eq-ELEMENT w ↦ inl w.if-kind-eq-ELEMENT.true
      | then-kind-eq-ELEMENT-via-else-kind-eq-ELEMENT+then-kind-eq-TEXT w ↦ inr w.if-kind-eq-TEXT.true
    ] in
    λ p child. bare_found t.view.block.now t.sound t.small p c.loop-child.child c.kind-kind.result _ c.kind-kind.ensures found c.loop-child-test.true (c.loop-child.invariant.1 p child)

pub loop-child-smaller : goal.loop-child-smaller
loop-child-smaller c = omega (arith, c.next-child.ensures.behind, c.loop-child.invariant.0, c.loop-child-test.true)

pub loop-child-preserved : goal.loop-child-preserved
loop-child-preserved c =
    let t = c.args.tree.now in (
      next_small t.view.block.now t.sound t.small c.loop-child.child c.next-child.result c.next-child.ensures.sibling,
      λ p child. bare_step t.view.block.now t.sound t.small p c.loop-child.child c.next-child.result c.kind-kind.result _ c.kind-kind.ensures c.if-kind-eq-ELEMENT.false c.if-kind-eq-TEXT.false c.next-child.ensures.sibling c.loop-child-test.true (c.loop-child.invariant.1 p child),
    )

pub returns : goal.returns
returns c = λ p child. bare_end c.args.tree.now.view.block.now c.args.tree.now.sound c.args.tree.now.small p c.loop-child.child _ c.loop-child-test.false (c.loop-child.invariant.1 p child)
