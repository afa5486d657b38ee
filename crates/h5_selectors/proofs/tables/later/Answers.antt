use Rattle.std.proofs.Common.{◌∙◌, ◌-◌, ◌<◌, arith, false, length, ℕ}
use Rattle.std.proofs.lemmas.List.{length-set}
use Rattle.std.specs.Option.{option_map}
use Rattle.h5_selectors.specs.Query.{context}
use Rattle.h5_selectors.specs.Rows.{node_of, nodes_in}
use Rattle.h5_selectors.specs.Tables.{there}
use Rattle.h5_selectors.specs.declared.formula.Way.TheVariants.{Later}
use Rattle.h5_selectors.proofs.TableLaws.{is_later, one_more_told, row_count}
use Rattle.h5_selectors.proofs.tables.later.Goals as goal

pub loop-step-preserved : goal.loop-step-preserved
loop-step-preserved g c =
    let f = g.T.Tree.forest c.args.query.now.tree.now in
    let rows = c.args.rows.now in
    let all = length c.args.set.now in
    let at = all - 1 - c.loop-step.step in
    let table = c.loop-step.table.items in
    let lt : at < all = omega (arith, c.loop-step-test.true) in (
      length-set table at _ ∙ c.loop-step.invariant.0,
      λ test tells k some low within. one_more_told all at table _ false (λ k. there f test Later (node_of g.T.Tree.number rows k)) c.loop-step.invariant.0 lt
          (λ j pos up inside. c.loop-step.invariant.1 test tells j pos (omega (arith, up)) inside)
          (λ some.
          let known = (λ (r : ℕ) (up : at < r) (inside : r < length (nodes_in g.T.Tree.number rows)). c.loop-step.invariant.1 test tells r (omega (arith, up)) (omega (arith, up)) (omega (arith, inside, row_count g.T.Tree.number rows, c.requires.count))) in
          c.or_told-answer.ensures ∙ (rw c.as_slice.ensures.value (is_later f (nodes_in g.T.Tree.number rows) test at c.args.set.now table (tells at (omega (arith, lt, c.requires.count))) c.links.result.next ((c.links.ensures g.T.Tree.number (context (g.T.Tree.forest c.args.query.now.tree.now) c.args.query.now.is_quirky (option_map g.T.Tree.number c.args.query.now.scope)) c.requires.rows).beside some).2.next_is known)))
          k some (omega (arith, low)) within,
    )
