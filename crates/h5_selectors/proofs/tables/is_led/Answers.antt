use Rattle.std.proofs.Common.{◌∙◌, ap}
use Rattle.std.specs.Option.{option_map}
use Rattle.h5_selectors.specs.Query.{context, holds_by}
use Rattle.h5_selectors.specs.Rows.{nodes_in}
use Rattle.h5_selectors.specs.Tables.{told}
use Rattle.h5_selectors.proofs.TableLaws.{leads, row_count}
use Rattle.h5_selectors.proofs.tables.is_led.Goals as goal

pub returns : goal.returns
returns g c =
    c.told.ensures
    ∙ ap (told c.args.table.now) c.link_to.ensures
    ∙ leads (g.T.Tree.forest c.args.query.now.tree.now) (nodes_in g.T.Tree.number c.args.rows.now) (holds_by (context (g.T.Tree.forest c.args.query.now.tree.now) c.args.query.now.is_quirky (option_map g.T.Tree.number c.args.query.now.scope)) c.args.inner.now) c.args.at c.requires.rows.shape (rw (row_count g.T.Tree.number c.args.rows.now) c.requires.within)
    c.links.result (c.links.ensures g.T.Tree.number (context (g.T.Tree.forest c.args.query.now.tree.now) c.args.query.now.is_quirky (option_map g.T.Tree.number c.args.query.now.scope)) c.requires.rows) c.args.table.now c.args.way (c.is_alone.ensures c.if-is_alone.false) (λ j up inside. c.requires.table j up (rw (← row_count g.T.Tree.number c.args.rows.now) inside))
