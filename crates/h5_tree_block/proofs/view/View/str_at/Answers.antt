use Rattle.h5_tree_block.proofs.ReadingLaws.{is_no_text, is_text}
use Rattle.h5_tree_block.proofs.view.View.str_at.Goals as goal

pub returns-in-Ok : goal.returns-in-Ok
returns-in-Ok c =
    is_text c.args.self.now.block.now c.args.span c.bytes_at.result.now c.in-Ok.text.now c.bytes_at.ensures c.in-Ok.ensures.cases.0 c.in-Ok.ensures.cases.1

pub returns-in-Err : goal.returns-in-Err
returns-in-Err c =
    is_no_text c.args.self.now.block.now c.args.span c.bytes_at.result.now c.bytes_at.ensures c.in-Err.ensures.cases.0
