use Rattle.std.proofs.Common.{subst, sym, get_or, ◌≤◌}
use Rattle.h5_builder_state.specs.Numbered.{numbers}
use Rattle.h5_builder_state.proofs.NumberedStackLaws.{newest_under_within, seen_older}
use Rattle.h5_builder_state.proofs.numbered_stack.NumberedStack.older.Goals as goal

pub returns-clause-older : goal.returns-clause-older
returns-clause-older g c =
    seen_older c.self.inside.items.items c.args.self.now c.self.inside.table.items c.args.place c.index.result.now c.self.view_is c.self.invariant c.requires c.index.ensures

pub returns-clause-within : goal.returns-clause-within
returns-clause-within g c =
    subst (λ n. n ≤ c.args.place)
    (sym (seen_older c.self.inside.items.items c.args.self.now c.self.inside.table.items c.args.place c.index.result.now c.self.view_is c.self.invariant c.requires c.index.ensures))
    (newest_under_within (get_or (numbers c.args.self.now) c.args.place 0) c.args.self.now c.args.place c.requires)
