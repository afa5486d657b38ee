use Rattle.std.proofs.Common.{arith, length, subst, sym, ◌≤◌}
use Rattle.h5_builder_state.proofs.NumberedStackLaws.{newest_within, seen_newest, seen_none}
use Rattle.h5_builder_state.proofs.numbered_stack.NumberedStack.newest.Goals as goal

pub returns-then-number-len-clause-newest : goal.returns-then-number-len-clause-newest
returns-then-number-len-clause-newest g c =
    seen_newest c.self.inside.items.items c.args.self.now c.self.inside.table.items c.args.number c.index.result.now c.self.view_is c.self.invariant
    (omega (arith, c.if-number-len.true, c.len.ensures, c.self.inside.table.ok.0)) c.index.ensures

pub returns-then-number-len-clause-within : goal.returns-then-number-len-clause-within
returns-then-number-len-clause-within g c =
    subst (λ n. n ≤ length c.args.self.now)
    (sym (seen_newest c.self.inside.items.items c.args.self.now c.self.inside.table.items c.args.number c.index.result.now c.self.view_is c.self.invariant
    (omega (arith, c.if-number-len.true, c.len.ensures, c.self.inside.table.ok.0)) c.index.ensures))
    (newest_within c.args.number c.args.self.now)

pub returns-else-number-len-clause-newest : goal.returns-else-number-len-clause-newest
returns-else-number-len-clause-newest g c =
    seen_none c.self.inside.items.items c.args.self.now c.self.inside.table.items c.args.number c.self.view_is c.self.invariant
    (omega (arith, c.if-number-len.false, c.len.ensures, c.self.inside.table.ok.0))
