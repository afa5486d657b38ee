use Rattle.h5_arena.proofs.BelowLaws.{IsWalking, weight}
use Rattle.h5_arena.proofs.tree.Arena.descendants_with_text.Given as goal

abbrev pub invariant-loop-child : goal.invariant-loop-child
invariant-loop-child l = IsWalking l.self l.fn.id.index l.found.items l.rest l.waiting.items

abbrev pub decreases-loop-child : goal.decreases-loop-child
decreases-loop-child l = weight l.self l.rest l.waiting.items
