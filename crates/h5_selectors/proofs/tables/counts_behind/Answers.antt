use Rattle.std.proofs.Common.{◌∙◌, ◌-◌, ◌<◌, arith, length, ℕ}
use Rattle.std.specs.List.{filter}
use Rattle.std.proofs.lemmas.List.{length-set}
use Rattle.std.specs.Option.{option_map}
use Rattle.h5_selectors.specs.Query.{context}
use Rattle.h5_selectors.specs.Rows.{node_of, nodes_in}
use Rattle.h5_tree.specs.Elements.{behind}
use Rattle.h5_selectors.proofs.TableLaws.{counts_behind, few_counted, few_set, one_more_told, row_count}
use Rattle.h5_selectors.proofs.tables.counts_behind.Goals as goal

pub loop-step-preserved : goal.loop-step-preserved
loop-step-preserved g c =
    let f = g.T.Tree.forest c.args.query.now.tree.now in
    let rows = c.args.rows.now in
    let all = length c.args.set.now in
    let at = all - 1 - c.loop-step.step in
    let counts = c.loop-step.counts.items in
    let had = c.loop-step.invariant in
    let lt : at < all = omega (arith, c.loop-step-test.true) in
    record {
      count = length-set counts at _ ∙ had.count;
      few = few_set counts at c.counted_at-count.result c.loop-step.step had.few (rw (c.counted_at-count.ensures, c.as_slice.ensures.value) (few_counted counts c.args.set.now c.links.result.next c.loop-step.step had.few));
      counts = λ test tells k some low within. one_more_told all at counts c.counted_at-count.result 0 (λ k. length (filter test (behind f (node_of g.T.Tree.number rows k)))) had.count lt
          (λ j pos up inside. had.counts test tells j pos (omega (arith, up)) inside)
          (λ some.
          let known = (λ (r : ℕ) (up : at < r) (inside : r < length (nodes_in g.T.Tree.number rows)). had.counts test tells r (omega (arith, up)) (omega (arith, up)) (omega (arith, inside, row_count g.T.Tree.number rows, c.requires.count))) in
          c.counted_at-count.ensures ∙ (rw c.as_slice.ensures.value (counts_behind f (nodes_in g.T.Tree.number rows) test at counts c.args.set.now c.links.result.next ((c.links.ensures g.T.Tree.number (context (g.T.Tree.forest c.args.query.now.tree.now) c.args.query.now.is_quirky (option_map g.T.Tree.number c.args.query.now.scope)) c.requires.rows).beside some).2.next_is known (λ r lt. tells r (omega (arith, lt, row_count g.T.Tree.number rows))))))
          k some (omega (arith, low)) within;
    }
