use Rattle.std.proofs.Common.{◌∙◌, ap, sym, arith}
use Rattle.std.proofs.lemmas.Str.Pattern.{strip_prefix_char}
use Rattle.std.specs.Prelude.{codes}
use Rattle.h5_tables.specs.MetaEncoding.{after_equals, and_blanks_and_equals}
use Rattle.h5_tables.proofs.Charset.{rest_of, word_is}
use Rattle.h5_tables.proofs.MetaParts.{blanks_are, equals_is}
use Rattle.h5_tables.proofs.meta_encoding.after_declaration.Goals as goal

pub returns : goal.returns
returns c =
    let rest = equals_is _ _ (strip_prefix_char 61 _ c.strip_prefix.result c.strip_prefix.ensures.cases (omega arith)) in
    let blanks = c.skip.ensures ∙ blanks_are c.in-Found.behind.now in
    let found = sym (word_is (codes "charset") c.args.text.now) in
    let declared = ap rest_of c.in-Found.ensures ∙ found in
    rest ∙ ap after_equals blanks ∙ ap and_blanks_and_equals declared
