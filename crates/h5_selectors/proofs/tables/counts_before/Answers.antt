use Rattle.std.proofs.Common.{◌∙◌, ◌<◌, arith, length}
use Rattle.std.specs.List.{filter}
use Rattle.std.specs.Option.{option_map}
use Rattle.h5_selectors.specs.Query.{context}
use Rattle.h5_selectors.specs.Rows.{node_of, nodes_in}
use Rattle.h5_tree.specs.Elements.{before}
use Rattle.h5_selectors.proofs.TableLaws.{counts_before, few_counted, few_pushed, pushed}
use Rattle.h5_selectors.proofs.tables.counts_before.Goals as goal

pub counted_at-count-requires : goal.counted_at-count-requires
counted_at-count-requires g c = rw c.as_slice.ensures.value (λ k. (let few = c.loop-at.invariant.few k in omega (arith, few, c.loop-at-test.true)))

pub loop-at-preserved : goal.loop-at-preserved
loop-at-preserved g c =
    let f = g.T.Tree.forest c.args.query.now.tree.now in
    let rows = c.args.rows.now in
    let at = c.loop-at.at in
    let counts = c.loop-at.counts.items in
    let had = c.loop-at.invariant in
    rw c.in_ok-push.ensures.items (record {
      count = omega (arith, had.count, c.in_ok-push.ensures.len);
      few = few_pushed counts c.counted_at-count.result at had.few (rw (c.counted_at-count.ensures, c.as_slice.ensures.value) (few_counted counts c.args.set.now c.links.result.previous at had.few));
      counts = λ test tells. (
          let known = had.counts test tells in
          pushed (λ k. 0 < k) at counts c.counted_at-count.result 0 (λ k. length (filter test (before f (node_of g.T.Tree.number rows k)))) (omega (arith, c.loop-at.counts.ok.0, had.count)) known
          (λ some. c.counted_at-count.ensures ∙ (rw c.as_slice.ensures.value (counts_before f (nodes_in g.T.Tree.number rows) test at counts c.args.set.now c.links.result.previous ((c.links.ensures g.T.Tree.number (context (g.T.Tree.forest c.args.query.now.tree.now) c.args.query.now.is_quirky (option_map g.T.Tree.number c.args.query.now.scope)) c.requires.rows).beside some).2.previous_is known (λ q lt. tells q (omega (arith, lt, c.loop-at-test.true, c.requires.count))))))
          );
    })
