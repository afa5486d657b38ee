use Rattle.std.proofs.Common.{arith, refl, ◌∙◌}
use Rattle.std.proofs.lemmas.List.{get_or_default}
use Rattle.h5_builder_state.proofs.ItemLaws.{entered, reached_at, same_stack}
use Rattle.h5_builder_state.proofs.places.enter.Goals as goal

pub index-requires : goal.index-requires
index-requires g c =
    omega (arith, reached_at c.args.items.now.items c.args.table.now.items c.args.place c.index_mut-item.result.now c.requires.place c.index_mut-item.ensures.value c.requires.reached, c.args.table.now.ok.0)

pub index_mut-requires : goal.index_mut-requires
index_mut-requires g c =
    omega (arith, reached_at c.args.items.now.items c.args.table.now.items c.args.place c.index_mut-item.result.now c.requires.place c.index_mut-item.ensures.value c.requires.reached, c.args.table.now.ok.0)

pub returns-clause-same : goal.returns-clause-same
returns-clause-same g c = same_stack c.args.items.now.items c.args.place c.index_mut-item.result.now _ c.index_mut-item.ensures.value refl

pub returns-clause-linked : goal.returns-clause-linked
returns-clause-linked g c =
    let r = reached_at c.args.items.now.items c.args.table.now.items c.args.place c.index_mut-item.result.now c.requires.place c.index_mut-item.ensures.value c.requires.reached in
    entered c.args.items.now.items c.args.table.now.items c.args.place c.index_mut-item.result.now _ c.requires.place c.index_mut-item.ensures.value refl
    (c.index.ensures ∙ get_or_default c.args.table.now.items c.index_mut-item.result.now.number c.index.result.now 0 r) r c.requires.linked
