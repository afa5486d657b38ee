use Rattle.std.proofs.Common.{◌≡◌, ◌∙◌, ◌&&◌, ap, arith, false, get_or, sym, ℕ}
use Rattle.std.specs.Option.{option_map}
use Rattle.h5_selectors.specs.Rows.{node_of}
use Rattle.h5_selectors.specs.Tables.{is_nth_by}
use Rattle.h5_selectors.specs.Query.{context}
use Rattle.h5_selectors.proofs.TableLaws.{pushed}
use Rattle.h5_selectors.proofs.tables.placed.Goals as goal
use Rattle.h5_selectors.proofs.tables.placed.Goals.{then-set-at+in_ok-answer, else-set-at}

pub loop-at-preserved : goal.loop-at-preserved
loop-at-preserved g c =
    let at = c.loop-at.at in
    let set = c.args.set.now in
    let table = c.loop-at.table.items in
    let test = (λ (n : ℕ). is_nth_by (context (g.T.Tree.forest c.args.query.now.tree.now) c.args.query.now.is_quirky (option_map g.T.Tree.number c.args.query.now.scope)) c.args.indices c.args.side c.args.of.now n) in
    let law = (λ (k : ℕ). get_or set k false && test (node_of g.T.Tree.number c.args.rows.now k)) in
    let answer : c.if-set-at.answer ≡ law at = elim c.if-set-at.branch [
      | then-set-at+in_ok-answer w ↦ w.answer-is ∙ w.in_ok-answer.ensures ∙ ap (λ b. b && test (node_of g.T.Tree.number c.args.rows.now at)) (sym w.if-set-at.true)
      | else-set-at w ↦ w.answer-is ∙ w.if-set-at.false ∙ ap (λ b. b && test (node_of g.T.Tree.number c.args.rows.now at)) (sym w.if-set-at.false)
    ] in (
      omega (arith, c.loop-at.invariant.0, c.in_ok-push.ensures.len),
      λ k lt. rw c.in_ok-push.ensures.items (pushed (λ _. Unit {0}) at table c.if-set-at.answer false law (omega (arith, c.loop-at.table.ok.0, c.loop-at.invariant.0)) (λ j _ l. c.loop-at.invariant.1 j l) (λ _. answer) k tt lt),
    )
