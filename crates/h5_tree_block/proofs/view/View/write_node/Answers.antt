use Rattle.std.proofs.Common.{rules}
use Rattle.h5_tree_block.specs.Html.{calls_in}
use Rattle.h5_tree_block.proofs.HtmlLaws.{no_node, none_told}
use Rattle.h5_tree_block.proofs.view.View.write_node.Goals as goal

pub returns-then-node-node_count : goal.returns-then-node-node_count
returns-then-node-node_count c =
    let block = c.args.self.now.block.now in
    none_told (calls_in block c.args.node c.args.is_outer) c.args.html.now (no_node block c.args.node c.args.is_outer (search rules))
