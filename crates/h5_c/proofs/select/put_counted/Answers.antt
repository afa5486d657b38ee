use Rattle.std.proofs.Common.{◌∙◌, ap, arith, length, sym}
use Rattle.std.proofs.lemmas.List.{map-id}
use Rattle.h5_c.proofs.CountLaws.{end_within, few_selected}
use Rattle.h5_c.proofs.select.put_counted.Goals as goal

pub overflow_cast-len : goal.overflow_cast-len
overflow_cast-len c =
    let tree = c.args.tree.now in
    let block = tree.view.block.now in
    let few = few_selected block c.args.node c.args.selector.now (c.sound_blocks_are_forests.ensures.descendants block tree.sound tree.small c.args.node c.requires) in
    let within = end_within block c.args.node c.requires in
    let count = ap length (sym (map-id c.in_ok-elements.elements.items) ∙ c.in_ok-elements.ensures.found) in
    omega (arith, tree.small)
