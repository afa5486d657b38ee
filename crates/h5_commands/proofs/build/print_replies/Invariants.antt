use Rattle.std.proofs.Common.{length, string_bytes}
use Rattle.h5_arena.specs.ArenaModel.{place}
use Rattle.h5_commands.proofs.ReplyLaws.{LinesLeft}
use Rattle.h5_commands.proofs.build.print_replies.Given as goal

abbrev pub invariant-replies : goal.invariant-replies
invariant-replies l = LinesLeft place l.fn.replies l.left (string_bytes l.fn.out) (string_bytes l.out)

abbrev pub decreases-replies : goal.decreases-replies
decreases-replies l = length l.left
