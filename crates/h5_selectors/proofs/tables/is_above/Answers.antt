use Rattle.std.proofs.Common.{◌∙◌, arith, length}
use Rattle.std.specs.Option.{option_map}
use Rattle.h5_selectors.specs.Query.{context, holds_by}
use Rattle.h5_selectors.specs.Rows.{nodes_in}
use Rattle.h5_selectors.proofs.TableLaws.{is_above, to_top}
use Rattle.h5_selectors.proofs.tables.is_above.Goals as goal

pub returns : goal.returns
returns g c =
    let k = length c.args.table.now in
    c.told.ensures
    ∙ is_above (g.T.Tree.forest c.args.query.now.tree.now) (nodes_in g.T.Tree.number c.args.rows.now) (holds_by (context (g.T.Tree.forest c.args.query.now.tree.now) c.args.query.now.is_quirky (option_map g.T.Tree.number c.args.query.now.scope)) c.args.inner.now) k c.args.set.now c.args.table.now c.links.result c.requires.rows.shape
    (c.links.ensures g.T.Tree.number (context (g.T.Tree.forest c.args.query.now.tree.now) c.args.query.now.is_quirky (option_map g.T.Tree.number c.args.query.now.scope)) c.requires.rows) (omega (arith, c.if-at-eq0.false)) c.if-set-at.false (c.requires.set k (to_top k) c.requires.rest) (λ p lt. c.requires.table p lt)
