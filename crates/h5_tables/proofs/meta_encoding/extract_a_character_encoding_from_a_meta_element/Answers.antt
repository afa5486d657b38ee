use Rattle.std.proofs.Common.{◌∙◌, ap}
use Rattle.h5_tables.specs.MetaEncoding.{encoding_at, encoding_behind, meta_encoding}
use Rattle.h5_tables.proofs.MetaParts.{blanks_are}
use Rattle.h5_tables.proofs.meta_encoding.extract_a_character_encoding_from_a_meta_element.Goals as goal

pub returns-in_err-value : goal.returns-in_err-value
unfolding meta_encoding
returns-in_err-value c = rw c.from_residual.ensures (ap encoding_behind c.in_err-value.ensures)

pub returns : goal.returns
unfolding meta_encoding
returns c =
    c.encoding_at.ensures ∙ ap encoding_at (c.skip.ensures ∙ blanks_are c.in_ok-value.value.now) ∙ ap encoding_behind c.in_ok-value.ensures
