use Rattle.std.proofs.Common.{◌∙◌, sym}
use Rattle.h5_tables.proofs.DoctypeLaws.{same_lowered}
use Rattle.h5_tables.proofs.doctypes.is_same_lowered.Goals as goal

pub returns-then-text-other : goal.returns-then-text-other
returns-then-text-other c = c.begins_with.ensures ∙ sym (same_lowered c.args.text.now c.args.other.now c.if-text-other.true)
