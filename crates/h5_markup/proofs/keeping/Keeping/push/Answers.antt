use Rattle.std.proofs.Common.{arith}
use Rattle.h5_markup.specs.declared.keeping.TheConstants.{FEW}
use Rattle.h5_markup.proofs.LaterLaws.{still_none}
use Rattle.h5_markup.proofs.keeping.Keeping.push.Goals as goal

pub invariant_of-self : goal.invariant_of-self
invariant_of-self c = record { later_names = still_none FEW c.args.self.now.attributes.items c.make_room.new.attributes.items c.args.self.now.later c.args.self.now.later_names (omega arith) (omega arith) }

pub invariant_of-self-2 : goal.invariant_of-self-2
invariant_of-self-2 c = record { later_names = still_none FEW c.args.self.now.attributes.items c.push.new.self.items c.args.self.now.later c.args.self.now.later_names (omega arith) (omega arith) }
