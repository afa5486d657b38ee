use Rattle.std.proofs.Common.{arith}
use Rattle.h5_builder_state.proofs.ItemLaws.{left_out, left_reached}
use Rattle.h5_builder_state.proofs.places.leave.Goals as goal

pub index_mut-requires : goal.index_mut-requires
index_mut-requires g c =
    omega (arith, left_reached c.args.items.now.items c.args.table.now.items c.args.place c.index-item.result.now c.requires.place c.index-item.ensures c.requires.linked, c.args.table.now.ok.0)

pub returns-clause-linked : goal.returns-clause-linked
returns-clause-linked g c =
    left_out c.args.items.now.items c.args.table.now.items c.args.place c.index-item.result.now c.requires.place c.index-item.ensures c.requires.linked
