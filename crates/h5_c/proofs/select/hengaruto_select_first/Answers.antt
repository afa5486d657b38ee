use Rattle.std.proofs.Common.{inr}
use Rattle.h5_c.specs.Selecting.{asked_in, first_in}
use Rattle.h5_c.proofs.AskLaws.{number_answered}
use Rattle.h5_c.proofs.select.hengaruto_select_first.Goals as goal

pub returns-in-Ok-clause-answered : goal.returns-in-Ok-clause-answered
returns-in-Ok-clause-answered c has text =
    number_answered (λ b. first_in b c.args.node) c.args.block.now c.in-Ok.query.tree.view.block.now (asked_in c.args.selector.now) c.in-Ok.query.selector c.first.result c.put.result c.put.new.out _
    c.in-Ok.ensures.tree.0 c.in-Ok.ensures.selector.1 c.first.ensures c.put.ensures

pub returns-in-Err-clause-answered : goal.returns-in-Err-clause-answered
returns-in-Err-clause-answered c has text = inr (c.in-Err.ensures.refused has text)
