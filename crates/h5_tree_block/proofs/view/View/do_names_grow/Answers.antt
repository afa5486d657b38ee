use Rattle.std.proofs.Common.{refl, rules, sym}
use Rattle.h5_tree_block.specs.Block as b
use Rattle.h5_tree_block.specs.Sound.{does_grow}
use Rattle.h5_tree_block.proofs.SoundLaws.{one_fails, one_more}
use Rattle.h5_tree_block.proofs.view.View.do_names_grow.Goals as goal

pub loop-name-init : goal.loop-name-init
loop-name-init c = refl

pub returns-then-name_end-name_begin : goal.returns-then-name_end-name_begin
returns-then-name_end-name_begin c =
    let block = c.args.self.now.block.now in
    sym (one_fails (does_grow block (b.name_ends_at block)) (b.names_in block) c.loop-name.name (search rules) (search rules))

pub loop-name-preserved : goal.loop-name-preserved
loop-name-preserved c =
    let block = c.args.self.now.block.now in
    one_more (does_grow block (b.name_ends_at block)) c.loop-name.name c.loop-name.invariant (search rules)
