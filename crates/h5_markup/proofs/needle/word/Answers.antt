use Rattle.h5_markup.proofs.Words.{word_boundary}
use Rattle.h5_markup.proofs.needle.word.Goals as goal

pub split_at-requires : goal.split_at-requires
split_at-requires c =
    let spells = rw (c.as_bytes.ensures.value, c.as_bytes-2.ensures.value) at c.in-Whole.ensures in
    word_boundary c.args.needle.now c.args.text.now _ c.requires.some c.requires.ascii c.utf8.text spells.0 spells.1
