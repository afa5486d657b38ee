use Rattle.h5_builder_state.proofs.IndexLaws.{indexed_handed}
use Rattle.h5_builder_state.proofs.formatting_list.FormattingList.set_handle.Goals as goal

pub invariant_of-self : goal.invariant_of-self
invariant_of-self g c = indexed_handed c.self.inside.index c.self.inside.entries.items c.set_element.new.entries.items c.args.handle c.args.place c.self.invariant c.set_element.ensures
