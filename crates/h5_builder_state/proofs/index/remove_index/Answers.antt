use Rattle.std.proofs.Common.{arith, subst}
use Rattle.h5_builder_state.specs.Keys.{IsIndexOf, IsIndexed}
use Rattle.h5_builder_state.proofs.IndexLaws.{index_less}
use Rattle.h5_builder_state.proofs.KeyLaws.{as_many_keys}
use Rattle.h5_builder_state.proofs.index.remove_index.Goals as goal

pub remove-requires-clause-keys : goal.remove-requires-clause-keys
remove-requires-clause-keys g c =
    let kept : IsIndexOf c.in-Some.index c.args.entries.now.items = subst (λ i. IsIndexed i c.args.entries.now.items) c.in-Some.is c.requires.indexed in
    omega (arith, c.requires.inside, c.args.entries.now.ok.0, as_many_keys c.in-Some.index.key_numbers c.in-Some.index.keys c.args.entries.now.items kept.have_keys)

pub returns-in-Some : goal.returns-in-Some
returns-in-Some g c =
    let kept : IsIndexOf c.in-Some.index c.args.entries.now.items = subst (λ i. IsIndexed i c.args.entries.now.items) c.in-Some.is c.requires.indexed in
    index_less c.in-Some.index c.remove.new.self c.args.entries.now.items kept c.remove.ensures.same c.args.place c.remove.ensures.numbers c.remove.ensures.keys
