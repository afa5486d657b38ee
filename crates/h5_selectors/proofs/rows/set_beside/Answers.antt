use Rattle.std.proofs.Common.{arith}
use Rattle.std.proofs.lemmas.List.{length-set}
use Rattle.h5_selectors.specs.Rows.{IsLinked}
use Rattle.h5_selectors.proofs.RowLaws.{one_linked}
use Rattle.h5_selectors.proofs.rows.set_beside.Goals as goal

pub index_mut-changed-requires : goal.index_mut-changed-requires
index_mut-changed-requires c = omega (arith, c.requires, c.args.links.now.ok.0)

pub returns-clause-count : goal.returns-clause-count
returns-clause-count c = length-set c.args.links.now.items c.args.row _

pub returns-clause-links : goal.returns-clause-links
returns-clause-links c = λ f ns all beside.
    let old : IsLinked f ns c.args.row c.index_mut-changed.result.now = rw (c.index_mut-changed.ensures.value) (all c.args.row c.index_mut-changed.result.now c.requires) in
    one_linked f ns c.args.links.now.items c.args.row _ all (record { beside = beside; children = old.children; end = old.end })
