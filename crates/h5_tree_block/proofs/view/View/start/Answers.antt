use Rattle.std.proofs.Common.{◌∙◌, ap}
use Rattle.h5_tree_block.specs.Block as b
use Rattle.h5_tree_block.specs.Read as r
use Rattle.h5_tree_block.proofs.HtmlLaws.{start_told}
use Rattle.h5_tree_block.proofs.view.View.start.Goals as goal

pub returns : goal.returns
returns c =
    let block = c.args.self.now.block.now in
    let named = c.in_ok-qual_name.ensures ∙ ap (r.name_of block) c.name.ensures in
    start_told c.iter.result c.in_ok-attrs.attrs.items (r.attributes_of block c.args.node) c.in_ok-qual_name.field-0 (r.name_of block (b.name_in block c.args.node)) c.start_elem.result c.args.html.now c.start_elem.new.self (c.iter.ensures.rest ∙ c.deref.ensures.value) c.in_ok-attrs.ensures named c.start_elem.ensures
