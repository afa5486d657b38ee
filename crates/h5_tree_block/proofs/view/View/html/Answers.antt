use Rattle.std.proofs.Common.{◌∙◌, ap, sym}
use Rattle.std.specs.Prelude.{Some}
use Rattle.h5_serialize.specs.Standing.{HtmlState}
use Rattle.h5_tree_block.proofs.HtmlLaws.{html_written}
use Rattle.h5_tree_block.proofs.view.View.html.Goals as goal

pub returns : goal.returns
returns c =
    html_written c.args.self.now.block.now c.args.node c.args.is_outer c.in_ok-opts.opts c.in_ok-html.html c.write_node.new.html c.html.inside.writer.items
    c.in_ok-opts.ensures c.in_ok-html.ensures.standing (c.in_ok-html.ensures.contents ∙ ap Some c.new.ensures.items) (sym (ap (λ (s : HtmlState). s.contents) c.html.view_is)) c.in_ok-write_node.ensures
