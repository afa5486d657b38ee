use Rattle.std.proofs.Common.{sym}
use Rattle.h5_clean.specs.Kinds.{lone_rows}
use Rattle.h5_clean.proofs.KindLaws.{kind_outside}
use Rattle.h5_clean.proofs.kind.kind_alone.Goals as goal

pub returns-in_default : goal.returns-in_default
unfolding lone_rows
returns-in_default c =
    sym (kind_outside c.args.name.now lone_rows ((c.in_default.not-a, tt), ((c.in_default.not-p, tt), ((c.in_default.not-li, tt), ((c.in_default.not-tr, tt), ((c.in_default.not-pre, tt), ((c.in_default.not-hr, tt), ((c.in_default.not-table, tt), ((c.in_default.not-caption, tt), ((c.in_default.not-colgroup, tt), ((c.in_default.not-col, tt), ((c.in_default.not-ruby, tt), tt))))))))))))
