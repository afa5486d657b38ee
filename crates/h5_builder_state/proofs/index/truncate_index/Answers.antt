use Rattle.std.proofs.Common.{subst}
use Rattle.h5_builder_state.specs.Keys.{IsIndexOf, IsIndexed}
use Rattle.h5_builder_state.proofs.IndexLaws.{index_kept}
use Rattle.h5_builder_state.proofs.index.truncate_index.Goals as goal

pub returns-in-Some : goal.returns-in-Some
returns-in-Some g c =
    let kept : IsIndexOf c.in-Some.index c.args.entries.now.items = subst (λ i. IsIndexed i c.args.entries.now.items) c.in-Some.is c.requires in
    index_kept c.in-Some.index c.truncate.new.self c.args.entries.now.items kept c.truncate.ensures.same c.args.count c.truncate.ensures.numbers c.truncate.ensures.keys
