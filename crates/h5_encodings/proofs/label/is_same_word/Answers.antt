use Rattle.std.proofs.Common.{map}
use Rattle.std.specs.Char.{to_ascii_lowercase}
use Rattle.std.specs.Str.{bytes_eq}
use Rattle.std.proofs.lemmas.Bool.Decides.{same_from_decides}
use Rattle.std.proofs.lemmas.Slice.Eq.{bytes_eq-Decides}
use Rattle.h5_encodings.proofs.label.is_same_word.Goals as goal

pub returns : goal.returns
returns c =
    let text = map to_ascii_lowercase c.args.text.now in
    let word = map to_ascii_lowercase c.args.word.now in
    same_from_decides c.eq_ignore_ascii_case.result (bytes_eq text word) c.eq_ignore_ascii_case.ensures.test (bytes_eq-Decides text word)
