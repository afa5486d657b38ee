use Rattle.std.proofs.Common.{ap, refl, sym, ◌∙◌}
use Rattle.h5_builder_state.proofs.ItemLaws.{links_of-set, same_stack}
use Rattle.h5_builder_state.specs.Items.{links_of}
use Rattle.h5_builder_state.specs.Replacing.{links_with}
use Rattle.h5_builder_state.proofs.places.set_older.Goals as goal

pub returns-in-Some-clause-same : goal.returns-in-Some-clause-same
returns-in-Some-clause-same g c = same_stack c.args.items.now.items c.in-Some.place c.index_mut.result.now _ c.index_mut.ensures.value refl

pub returns-in-Some-clause-links : goal.returns-in-Some-clause-links
returns-in-Some-clause-links g c =
    links_of-set c.args.items.now.items c.in-Some.place _ ∙ ap (λ o. links_with o c.args.older (links_of c.args.items.now.items)) (sym c.in-Some.is)
