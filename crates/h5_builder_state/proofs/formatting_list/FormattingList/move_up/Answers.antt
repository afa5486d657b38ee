use Rattle.std.proofs.Common.{List, ap, arith, length, subst, sym}
use Rattle.h5_builder_state.proofs.NumberedStackLaws.{item_at}
use Rattle.h5_tables.specs.declared.entry.FormatEntry.{FormatEntry}
use Rattle.h5_builder_state.specs.Keys.{IsIndexed}
use Rattle.h5_builder_state.proofs.formatting_list.FormattingList.move_up.Goals as goal

pub invariant_of-self : goal.invariant_of-self
invariant_of-self g c =
    let one = item_at c.self.inside.entries.items c.args.from (omega (arith, c.requires.order, c.requires.inside, ap (λ (xs : List (FormatEntry _)). length xs) c.self.view_is)) in
    subst (λ (xs : List (FormatEntry _)). IsIndexed c.move_index.new.index xs) (sym (c.move_up.ensures.moved one.0 one.1)) (c.move_index.ensures one.0 one.1)
