use Rattle.std.proofs.Common.{◌||◌, ap, sym, ◌∙◌}
use Rattle.h5_tables.specs.TagSets.{is_one_of}
use Rattle.h5_clean.specs.Kinds.{late_barrier_names}
use Rattle.h5_clean.proofs.NameLaws.{barrier_parts}
use Rattle.h5_clean.proofs.kind.is_barrier.Goals as goal

pub returns-then-is_early_barrier : goal.returns-then-is_early_barrier
returns-then-is_early_barrier c =
    let name = c.args.name.now in
    c.if-is_early_barrier.true ∙ ap (λ b. b || is_one_of late_barrier_names name) (sym (sym c.is_early_barrier.ensures ∙ c.if-is_early_barrier.true)) ∙ barrier_parts name

pub returns-else-is_early_barrier : goal.returns-else-is_early_barrier
returns-else-is_early_barrier c =
    let name = c.args.name.now in
    c.is_late_barrier.ensures ∙ ap (λ b. b || is_one_of late_barrier_names name) (sym (sym c.is_early_barrier.ensures ∙ c.if-is_early_barrier.false)) ∙ barrier_parts name
