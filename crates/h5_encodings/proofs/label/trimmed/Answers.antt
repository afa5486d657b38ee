use Rattle.std.proofs.Common.{refl}
use Rattle.std.proofs.lemmas.Str.Ascii.{trim_ascii_is}
use Rattle.h5_encodings.specs.Labels.{past_blanks}
use Rattle.h5_encodings.proofs.label.trimmed.Goals as goal

pub returns : goal.returns
returns c = trim_ascii_is c.args.text.now c.trim_ascii.result.now (past_blanks c.args.text.now) refl c.trim_ascii.ensures.value
