use Rattle.std.proofs.Common.{Some, subst, sym}
use Rattle.h5_commands.specs.Outcome.{ComesBy}
use Rattle.h5_commands.specs.Words.{command_text}
use Rattle.h5_commands.proofs.OutcomeLaws.{fragment_comes, html_comes, tree_comes}
use Rattle.h5_commands.proofs.command.output_by.Goals as goal

pub returns-in-Tree : goal.returns-in-Tree
returns-in-Tree g c =
    let known = g.R.Read.remaining c.args.input in
    subst (λ x. ComesBy (Some (command_text x)) known c.tree_output.result) (sym c.in-Tree.is) (tree_comes known c.in_ok-text.text c.tree_output.result c.in_ok-text.ensures c.tree_output.ensures.prints c.tree_output.ensures.memory)

pub returns-in-Fragment : goal.returns-in-Fragment
returns-in-Fragment g c =
    let known = g.R.Read.remaining c.args.input in
    subst (λ x. ComesBy (Some (command_text x)) known c.fragment_output.result) (sym c.in-Fragment.is) (fragment_comes c.in-Fragment.context.now known c.in_ok-text.text c.fragment_output.result c.in_ok-text.ensures c.fragment_output.ensures.prints c.fragment_output.ensures.memory)

pub returns-in-Html : goal.returns-in-Html
returns-in-Html g c =
    let known = g.R.Read.remaining c.args.input in
    subst (λ x. ComesBy (Some (command_text x)) known c.html_output.result) (sym c.in-Html.is) (html_comes known c.in_ok-text.text c.html_output.result c.in_ok-text.ensures c.html_output.ensures.prints c.html_output.ensures.memory)
