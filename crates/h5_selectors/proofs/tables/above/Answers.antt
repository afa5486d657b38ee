use Rattle.std.proofs.Common.{◌≡◌, ◌∙◌, ap, arith, false, length, ℕ}
use Rattle.std.specs.Option.{option_map}
use Rattle.h5_selectors.specs.Query.{context, holds_by}
use Rattle.h5_selectors.specs.Rows.{node_of}
use Rattle.h5_selectors.specs.Tables.{there}
use Rattle.h5_selectors.specs.declared.formula.Way.TheVariants.{Ancestor}
use Rattle.h5_selectors.proofs.TableLaws.{pushed}
use Rattle.h5_selectors.proofs.tables.above.Goals as goal

pub loop-row-preserved : goal.loop-row-preserved
loop-row-preserved g c =
    let at = c.loop-row._row-index in
    let table = c.loop-row.table.items in
    let law = (λ (k : ℕ). there (g.T.Tree.forest c.args.query.now.tree.now) (holds_by (context (g.T.Tree.forest c.args.query.now.tree.now) c.args.query.now.is_quirky (option_map g.T.Tree.number c.args.query.now.scope)) c.args.inner.now) Ancestor (node_of g.T.Tree.number c.args.rows.now k)) in
    let count : length table ≡ at = omega (arith, c.loop-row.table.ok.0, c.loop-row.invariant.0) in
    let answer : c.in_ok-answer.answer ≡ law at = c.in_ok-answer.ensures ∙ ap law (ap length c.as_slice.ensures.value ∙ count) in (
      omega (arith, c.loop-row.invariant.0, c.in_ok-push.ensures.len),
      λ k lt. rw c.in_ok-push.ensures.items (pushed (λ _. Unit {0}) at table c.in_ok-answer.answer false law count (λ j _ l. c.loop-row.invariant.1 j l) (λ _. answer) k tt lt),
    )
