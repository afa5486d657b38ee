use Rattle.std.proofs.Common.{sym}
use Rattle.h5_clean.specs.Kinds.{early_phrase_names}
use Rattle.h5_clean.proofs.NameLaws.{isnt_among}
use Rattle.h5_clean.proofs.kind.is_early_phrase.Goals as goal

pub returns-in_default : goal.returns-in_default
unfolding early_phrase_names
returns-in_default c =
    sym (isnt_among c.args.name.now early_phrase_names (c.in_default.not-abbr, (c.in_default.not-bdi, (c.in_default.not-bdo, (c.in_default.not-cite, (c.in_default.not-data, (c.in_default.not-del, (c.in_default.not-dfn, (c.in_default.not-ins, (c.in_default.not-kbd, (c.in_default.not-label, tt)))))))))))
