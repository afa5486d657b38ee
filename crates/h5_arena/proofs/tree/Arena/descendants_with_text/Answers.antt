use Rattle.std.proofs.Common.{ap, arith}
use Rattle.std.proofs.lemmas.List.{nil_from_length}
use Rattle.h5_arena.specs.ArenaModel.{child_view}
use Rattle.h5_arena.proofs.BelowLaws.{begins, ends, enters, goes_up, less_entered, less_passed, less_up, node_entered, node_passed, passes, text_passed}
use Rattle.h5_arena.proofs.tree.Arena.descendants_with_text.Goals as goal

pub loop-child-init : goal.loop-child-init
loop-child-init c = rw c.new-found.ensures.items (rw c.new-waiting.ensures.items (begins c.args.self.now c.args.id c.children-rest.result.now c.children-rest.ensures.children c.children-rest.ensures.held))

pub loop-child-smaller-then-len : goal.loop-child-smaller-then-len
loop-child-smaller-then-len c =
    let a = c.args.self.now in
    let first = c.in-Some.ensures.cases.0 in
    let kids = c.children-rest-then-len.result.now in
    let next = node_entered a c.loop-child.rest.now c.loop-child.waiting.items c.in-Some.child.now c.in-Some.others first c.in-Node.node kids (ap child_view c.in-Node.is) (omega (arith, c.if-len.true, c.len.ensures, c.len-in-Node.ensures, c.loop-child.waiting.ok.0)) c.children-rest-then-len.ensures.children in
    rw c.in_ok-push-in-Some-2.ensures.items (less_entered a c.args.id.index c.loop-child.found.items c.loop-child.rest.now c.loop-child.waiting.items c.in-Some.child c.in-Some.others first kids next)

pub loop-child-preserved-then-len : goal.loop-child-preserved-then-len
loop-child-preserved-then-len c =
    let a = c.args.self.now in
    let first = c.in-Some.ensures.cases.0 in
    let kids = c.children-rest-then-len.result.now in
    let next = node_entered a c.loop-child.rest.now c.loop-child.waiting.items c.in-Some.child.now c.in-Some.others first c.in-Node.node kids (ap child_view c.in-Node.is) (omega (arith, c.if-len.true, c.len.ensures, c.len-in-Node.ensures, c.loop-child.waiting.ok.0)) c.children-rest-then-len.ensures.children in
    rw c.in_ok-push-in-Some.ensures.items (rw c.in_ok-push-in-Some-2.ensures.items
    (enters a c.args.id.index c.loop-child.found.items c.loop-child.rest.now c.loop-child.waiting.items c.in-Some.child c.in-Some.others first kids next (omega (arith, c.if-len.true, c.len.ensures, c.len-in-Node.ensures, c.loop-child.waiting.ok.0)) c.children-rest-then-len.ensures.held c.loop-child.invariant))

pub loop-child-smaller-else-len : goal.loop-child-smaller-else-len
loop-child-smaller-else-len c =
    let a = c.args.self.now in
    let first = c.in-Some.ensures.cases.0 in
    let next = node_passed a c.loop-child.rest.now c.loop-child.waiting.items c.in-Some.child.now c.in-Some.others first c.in-Node.node.index (ap child_view c.in-Node.is) (omega (arith, c.if-len.false, c.len.ensures, c.len-in-Node.ensures, c.loop-child.waiting.ok.0)) in
    less_passed a c.args.id.index c.loop-child.found.items c.loop-child.rest.now c.loop-child.waiting.items c.in-Some.child c.in-Some.others first next

pub loop-child-preserved-else-len : goal.loop-child-preserved-else-len
loop-child-preserved-else-len c =
    let a = c.args.self.now in
    let first = c.in-Some.ensures.cases.0 in
    let next = node_passed a c.loop-child.rest.now c.loop-child.waiting.items c.in-Some.child.now c.in-Some.others first c.in-Node.node.index (ap child_view c.in-Node.is) (omega (arith, c.if-len.false, c.len.ensures, c.len-in-Node.ensures, c.loop-child.waiting.ok.0)) in
    rw c.in_ok-push-in-Some.ensures.items (passes a c.args.id.index c.loop-child.found.items c.loop-child.rest.now c.loop-child.waiting.items c.in-Some.child c.in-Some.others first next c.loop-child.invariant)

pub loop-child-smaller-in_default : goal.loop-child-smaller-in_default
loop-child-smaller-in_default c =
    let a = c.args.self.now in
    let first = c.in-Some.ensures.cases.0 in
    let next = text_passed a c.loop-child.rest.now c.loop-child.waiting.items c.in-Some.child.now c.in-Some.others first _ (ap child_view c.in_default.is) in
    less_passed a c.args.id.index c.loop-child.found.items c.loop-child.rest.now c.loop-child.waiting.items c.in-Some.child c.in-Some.others first next

pub loop-child-preserved-in_default : goal.loop-child-preserved-in_default
loop-child-preserved-in_default c =
    let a = c.args.self.now in
    let first = c.in-Some.ensures.cases.0 in
    let next = text_passed a c.loop-child.rest.now c.loop-child.waiting.items c.in-Some.child.now c.in-Some.others first _ (ap child_view c.in_default.is) in
    rw c.in_ok-push-in-Some.ensures.items (passes a c.args.id.index c.loop-child.found.items c.loop-child.rest.now c.loop-child.waiting.items c.in-Some.child c.in-Some.others first next c.loop-child.invariant)

pub loop-child-smaller : goal.loop-child-smaller
loop-child-smaller c = less_up c.args.self.now c.args.id.index c.loop-child.found.items c.loop-child.rest.now c.loop-child.waiting.items c.pop.new.self.items c.in-Some-pop.others (nil_from_length c.loop-child.rest.now c.in-None.ensures.cases) c.in-Some-pop.ensures.items

pub loop-child-preserved : goal.loop-child-preserved
loop-child-preserved c = goes_up c.args.self.now c.args.id.index c.loop-child.found.items c.loop-child.rest.now c.loop-child.waiting.items c.pop.new.self.items c.in-Some-pop.others (nil_from_length c.loop-child.rest.now c.in-None.ensures.cases) c.in-Some-pop.ensures.items c.loop-child.invariant
