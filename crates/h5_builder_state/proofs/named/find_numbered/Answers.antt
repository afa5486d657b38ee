use Rattle.std.proofs.Common.{◌-◌, ap, is_some, reverse, sym, ◌∙◌, arith}
use Rattle.h5_builder_state.specs.Numbered.{newest_of, numbers}
use Rattle.h5_builder_state.proofs.NumberedLaws.{as_many}
use Rattle.h5_builder_state.proofs.ListWalkLaws.{walk_begins, walk_ends, walk_finds, walk_goes_on}
use Rattle.h5_builder_state.proofs.named.find_numbered.Goals as goal

pub down-init : goal.down-init
down-init g c =
    let stack = c.args.index.now.numbers in
    let items = c.args.entries.now.items in
    let many = as_many stack items c.requires.have_names in
    walk_begins stack items c.requires.have_names c.args.name.now c.newest-end.result c.newest-next.result c.newest-end.ensures.newest (omega (arith, c.newest-end.ensures.within, many))
    (c.newest-next.ensures.newest ∙ ap (λ n. newest_of n (reverse (numbers stack))) c.name_number.ensures) (omega (arith, c.newest-next.ensures.within, many))

pub overflow_sub-place : goal.overflow_sub-place
overflow_sub-place g c = omega (arith, c.down-test.true)

pub index-requires : goal.index-requires
index-requires g c = omega (arith, c.down-test.true, c.down.invariant.within, c.args.entries.now.ok.0)

pub returns-then-is_named-clause-place : goal.returns-then-is_named-clause-place
returns-then-is_named-clause-place g c = λ node.
    walk_finds c.args.index.now.numbers c.args.entries.now.items c.requires.have_names c.args.name.now c.newest-end.result c.down.next (c.down.next - 1) c.index.result.now c.down.invariant c.down-test.true
    (omega (arith, c.down-test.true)) c.index.ensures (sym c.is_named.ensures ∙ c.if-is_named.true) node

pub returns-then-is_named-clause-found : goal.returns-then-is_named-clause-found
returns-then-is_named-clause-found g c = λ node.
    let at = walk_finds c.args.index.now.numbers c.args.entries.now.items c.requires.have_names c.args.name.now c.newest-end.result c.down.next (c.down.next - 1) c.index.result.now c.down.invariant c.down-test.true
    (omega (arith, c.down-test.true)) c.index.ensures (sym c.is_named.ensures ∙ c.if-is_named.true) node in
    sym (ap is_some at.newest)

pub returns-then-is_named-clause-inside : goal.returns-then-is_named-clause-inside
returns-then-is_named-clause-inside g c = omega (arith, c.down-test.true, c.down.invariant.within, c.args.entries.now.ok.0)

pub older-next-requires : goal.older-next-requires
older-next-requires g c = omega (arith, c.down-test.true, c.down.invariant.within, as_many c.args.index.now.numbers c.args.entries.now.items c.requires.have_names)

pub down-smaller : goal.down-smaller
down-smaller g c = omega (arith, c.down-test.true, c.older-next.ensures.within)

pub down-preserved : goal.down-preserved
down-preserved g c =
    walk_goes_on c.args.index.now.numbers c.args.entries.now.items c.requires.have_names c.args.name.now c.newest-end.result c.down.next c.older-next.result c.index.result.now c.down.invariant c.down-test.true
    c.older-next.ensures.older c.older-next.ensures.within c.index.ensures (sym c.is_named.ensures ∙ c.if-is_named.false)

pub returns-clause-found : goal.returns-clause-found
returns-clause-found g c = λ node.
    sym (ap is_some (walk_ends c.args.index.now.numbers c.args.entries.now.items c.requires.have_names c.args.name.now c.newest-end.result c.down.next c.down.invariant c.down-test.false node))
