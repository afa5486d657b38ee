use Rattle.std.proofs.Common.{sym}
use Rattle.h5_clean.specs.Kinds.{late_phrase_names}
use Rattle.h5_clean.proofs.NameLaws.{isnt_among}
use Rattle.h5_clean.proofs.kind.is_late_phrase.Goals as goal

pub returns-in_default : goal.returns-in_default
unfolding late_phrase_names
returns-in_default c =
    sym (isnt_among c.args.name.now late_phrase_names (c.in_default.not-mark, (c.in_default.not-meter, (c.in_default.not-output, (c.in_default.not-progress, (c.in_default.not-q, (c.in_default.not-samp, (c.in_default.not-span, (c.in_default.not-sub, (c.in_default.not-sup, (c.in_default.not-time, (c.in_default.not-var, tt))))))))))))
