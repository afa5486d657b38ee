use Rattle.std.proofs.Common.{ℕ, List, length, subst}
use Rattle.std.proofs.lemmas.Bool.{eqb-true}
use Rattle.h5_serialize.proofs.Escapes.{Clean, escape_last}
use Rattle.h5_serialize.proofs.escape.is_short_and_plain.Goals as goal

pub returns-then-text-lt64 : goal.returns-then-text-lt64
returns-then-text-lt64 c = λ all.
    let text = c.args.text.now in
    let n = c.plain_len.result in
    let P : List ℕ → Type 0 = λ l. Clean c.args.attr_mode l n in
    escape_last c.args.attr_mode text n c.utf8.text (eqb-true n (length text) all) (subst P c.as_bytes.ensures.value c.plain_len.ensures.plain)
