use Rattle.std.proofs.Common.{sym, ◌∙◌}
use Rattle.h5_builder_spec.proofs.changes.PopLaws.{first_is_open}
use Rattle.h5_builder_actions.proofs.implied_ends.pop_heading.Goals as goal

pub pop-requires : goal.pop-requires
pop-requires g c = record { sound = c.requires; some = first_is_open _ _ (sym c.is_current_heading.ensures ∙ c.if-is_current_heading.true) }
