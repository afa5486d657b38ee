use Rattle.h5_builder_state.proofs.NumberedStackLaws.{seen_number}
use Rattle.h5_builder_state.proofs.numbered_stack.NumberedStack.number_at.Goals as goal

pub returns : goal.returns
returns g c = seen_number c.self.inside.items.items c.args.self.now c.args.place c.index.result.now c.self.view_is c.requires c.index.ensures
