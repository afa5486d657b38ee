use Rattle.std.proofs.Common.{◌∙◌, ◌<◌, arith, false}
use Rattle.std.specs.Option.{option_map}
use Rattle.h5_selectors.specs.Query.{context}
use Rattle.h5_selectors.specs.Rows.{node_of, nodes_in}
use Rattle.h5_selectors.specs.Tables.{there}
use Rattle.h5_selectors.specs.declared.formula.Way.TheVariants.{Earlier}
use Rattle.h5_selectors.proofs.TableLaws.{behind_first, is_earlier, pushed}
use Rattle.h5_selectors.proofs.tables.earlier.Goals as goal

pub loop-at-preserved : goal.loop-at-preserved
loop-at-preserved g c =
    let f = g.T.Tree.forest c.args.query.now.tree.now in
    let rows = c.args.rows.now in
    let at = c.loop-at.at in
    let table = c.loop-at.table.items in (
      omega (arith, c.loop-at.invariant.0, c.in_ok-push.ensures.len),
      λ test tells. (
          let known = c.loop-at.invariant.1 test tells in
          rw c.in_ok-push.ensures.items (pushed (λ k. 0 < k) at table c.or_told-answer.result false (λ k. there f test Earlier (node_of g.T.Tree.number rows k)) (omega (arith, c.loop-at.table.ok.0, c.loop-at.invariant.0)) known
          (λ some. c.or_told-answer.ensures ∙ (rw c.as_slice.ensures.value (is_earlier f (nodes_in g.T.Tree.number rows) test at c.args.set.now table (tells at (omega (arith, c.loop-at-test.true, c.requires.count))) c.links.result.previous ((c.links.ensures g.T.Tree.number (context (g.T.Tree.forest c.args.query.now.tree.now) c.args.query.now.is_quirky (option_map g.T.Tree.number c.args.query.now.scope)) c.requires.rows).beside some).2.previous_is known))))
          ),
    )

pub returns-clause-table : goal.returns-clause-table
returns-clause-table g c = λ test tells k behind within. c.loop-at.invariant.1 test tells k (behind_first k behind) (omega (arith, within, c.requires.count, c.loop-at-test.false))
