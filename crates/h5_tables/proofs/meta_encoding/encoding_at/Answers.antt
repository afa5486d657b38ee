use Rattle.std.proofs.Common.{◌∙◌, ap, arith, sym}
use Rattle.std.proofs.lemmas.Str.Pattern.{strip_prefix_char}
use Rattle.std.specs.Prelude.{None, Some}
use Rattle.h5_tables.proofs.MetaParts.{not_quoted}
use Rattle.h5_tables.proofs.meta_encoding.encoding_at.Goals as goal

pub returns-else-is_empty : goal.returns-else-is_empty
returns-else-is_empty c =
    let double = strip_prefix_char 34 _ None c.in_default.ensures.cases (omega arith) in
    let single = strip_prefix_char 39 _ None c.in_default-strip_prefix.ensures.cases (omega arith) in
    ap (λ name. Some name) c.up_to_end.ensures ∙ sym (not_quoted c.args.text.now c.if-is_empty.ensures double single)
