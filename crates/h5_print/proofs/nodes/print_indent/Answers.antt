use Rattle.std.proofs.Common.{string_bytes}
use Rattle.h5_print.proofs.FrameLaws.{indent-more}
use Rattle.h5_print.proofs.nodes.print_indent.Goals as goal

pub loop-level-preserved : goal.loop-level-preserved
loop-level-preserved c = indent-more (string_bytes c.args.out.now) (string_bytes c.loop-level.out) (string_bytes c.push_str.new.self) c.loop-level._level c.in_ok-push_str.ensures.bytes c.loop-level.invariant
