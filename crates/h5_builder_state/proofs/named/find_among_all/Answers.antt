use Rattle.std.proofs.Common.{◌-◌, ap, is_some, sym, ◌∙◌, arith}
use Rattle.h5_builder_state.proofs.ListWalkLaws.{names_begin, names_end, names_find, names_go_on}
use Rattle.h5_builder_state.proofs.named.find_among_all.Goals as goal

pub down-init : goal.down-init
down-init g c = names_begin c.args.entries.now.items c.args.name.now c.args.end c.requires c.len-next.result (omega (arith, c.len-next.ensures, c.args.entries.now.ok.0))

pub down-preserved : goal.down-preserved
down-preserved g c =
    names_go_on c.args.entries.now.items c.args.name.now c.args.end c.requires c.down.next (c.down.next - 1) c.index.result.now c.down.invariant c.down-test.true (omega (arith, c.down-test.true)) c.index.ensures
    (sym c.is_named.ensures ∙ c.if-is_named.false)

pub returns-then-is_named-clause-place : goal.returns-then-is_named-clause-place
returns-then-is_named-clause-place g c = λ node.
    names_find c.args.entries.now.items c.args.name.now c.args.end c.requires c.down.next (c.down.next - 1) c.index.result.now c.down.invariant (omega (arith, c.down-test.true)) c.index.ensures
    (sym c.is_named.ensures ∙ c.if-is_named.true) node

pub returns-then-is_named-clause-found : goal.returns-then-is_named-clause-found
returns-then-is_named-clause-found g c = λ node.
    let at = names_find c.args.entries.now.items c.args.name.now c.args.end c.requires c.down.next (c.down.next - 1) c.index.result.now c.down.invariant (omega (arith, c.down-test.true)) c.index.ensures
    (sym c.is_named.ensures ∙ c.if-is_named.true) node in
    sym (ap is_some at.newest)

pub returns-clause-found : goal.returns-clause-found
returns-clause-found g c = λ node. sym (ap is_some (names_end c.args.entries.now.items c.args.name.now c.args.end c.requires c.down.next c.down.invariant c.down-test.false node))
