use Rattle.std.proofs.Common.{◌≡◌, ◌∙◌, [], ◌∷◌, ◌++◌, ap, reverse, rules, sym}
use Rattle.h5_tree_block.proofs.HtmlLaws.{ended_all, ended_more, ended_stop}
use Rattle.h5_tree_block.proofs.view.View.close_before.Goals as goal

pub loop-step-preserved : goal.loop-step-preserved
loop-step-preserved c =
    let block = c.args.self.now.block.now in (
      ended_more block c.args.node c.args.begun.now.items c.args.html.now c.loop-step.begun.items c.pop.new.self.items c.in-Some.last c.loop-step.html c.close.new.html
          (search rules) (search rules) c.in_ok-close.ensures c.loop-step.invariant.0,
      search rules,
    )

pub returns-then-end-node-clause-told : goal.returns-then-end-node-clause-told
returns-then-end-node-clause-told c =
    let block = c.args.self.now.block.now in
    (ended_stop block c.args.node c.args.begun.now.items c.args.html.now c.loop-step.begun.items c.pop.new.self.items c.in-Some.last c.loop-step.html
    (search rules) (search rules) c.loop-step.invariant.0).0

pub returns-then-end-node-clause-left : goal.returns-then-end-node-clause-left
returns-then-end-node-clause-left c =
    let block = c.args.self.now.block.now in
    let popped : c.loop-step.begun.items ≡ c.pop.new.self.items ++ c.in-Some.last ∷ [] = search rules in
    ap reverse (c.in_ok-push.ensures.items ∙ sym popped) ∙ (ended_stop block c.args.node c.args.begun.now.items c.args.html.now c.loop-step.begun.items c.pop.new.self.items c.in-Some.last c.loop-step.html
    popped (search rules) c.loop-step.invariant.0).1

pub returns-clause-told : goal.returns-clause-told
returns-clause-told c =
    (ended_all c.args.self.now.block.now c.args.node c.args.begun.now.items c.args.html.now c.loop-step.begun.items c.loop-step.html (search rules) c.loop-step.invariant.0).0

pub returns-clause-left : goal.returns-clause-left
returns-clause-left c =
    (ended_all c.args.self.now.block.now c.args.node c.args.begun.now.items c.args.html.now c.loop-step.begun.items c.loop-step.html (search rules) c.loop-step.invariant.0).1
