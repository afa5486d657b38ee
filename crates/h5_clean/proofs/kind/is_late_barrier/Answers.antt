use Rattle.std.proofs.Common.{sym}
use Rattle.h5_clean.specs.Kinds.{late_barrier_names}
use Rattle.h5_clean.proofs.NameLaws.{isnt_among}
use Rattle.h5_clean.proofs.kind.is_late_barrier.Goals as goal

pub returns-in_default : goal.returns-in_default
unfolding late_barrier_names
returns-in_default c =
    sym (isnt_among c.args.name.now late_barrier_names (c.in_default.not-footer, (c.in_default.not-header, (c.in_default.not-hgroup, (c.in_default.not-main, (c.in_default.not-menu, (c.in_default.not-nav, (c.in_default.not-ol, (c.in_default.not-section, (c.in_default.not-summary, (c.in_default.not-ul, tt)))))))))))
