use Rattle.std.proofs.Common.{arith, subst}
use Rattle.h5_builder_state.specs.Keys.{IsIndexOf, IsIndexed}
use Rattle.h5_builder_state.proofs.IndexLaws.{index_moved}
use Rattle.h5_builder_state.proofs.KeyLaws.{as_many_keys}
use Rattle.h5_builder_state.proofs.index.move_index.Goals as goal

pub move_up-requires-clause-keys : goal.move_up-requires-clause-keys
move_up-requires-clause-keys g c =
    let kept : IsIndexOf c.in-Some.index c.args.entries.now.items = subst (λ i. IsIndexed i c.args.entries.now.items) c.in-Some.is c.requires.indexed in
    omega (arith, c.requires.inside, c.args.entries.now.ok.0, as_many_keys c.in-Some.index.key_numbers c.in-Some.index.keys c.args.entries.now.items kept.have_keys)

pub returns-in-Some : goal.returns-in-Some
returns-in-Some g c =
    let kept : IsIndexOf c.in-Some.index c.args.entries.now.items = subst (λ i. IsIndexed i c.args.entries.now.items) c.in-Some.is c.requires.indexed in
    index_moved c.in-Some.index c.move_up.new.self c.args.entries.now.items kept c.move_up.ensures.same c.args.from c.args.to (omega (arith, c.requires.order, c.requires.inside, c.args.entries.now.ok.0))
    c.move_up.ensures.numbers c.move_up.ensures.keys
