use Rattle.h5_builder_state.proofs.NumberedStackLaws.{placed_none}
use Rattle.h5_builder_state.proofs.numbered_stack.NumberedStack.new.Goals as goal

pub invariant_of-result : goal.invariant_of-result
invariant_of-result g c = placed_none _ _ c.new.ensures.items c.new-2.ensures.items
