use Rattle.std.proofs.Common.{sym}
use Rattle.h5_clean.specs.Kinds.{early_barrier_names}
use Rattle.h5_clean.proofs.NameLaws.{isnt_among}
use Rattle.h5_clean.proofs.kind.is_early_barrier.Goals as goal

pub returns-in_default : goal.returns-in_default
unfolding early_barrier_names
returns-in_default c =
    sym (isnt_among c.args.name.now early_barrier_names (c.in_default.not-article, (c.in_default.not-aside, (c.in_default.not-blockquote, (c.in_default.not-center, (c.in_default.not-details, (c.in_default.not-dir, (c.in_default.not-dl, (c.in_default.not-fieldset, (c.in_default.not-figcaption, (c.in_default.not-figure, tt)))))))))))
