use Rattle.std.proofs.Common.{◌∙◌}
use Rattle.h5_tokenizer_spec.specs.Told.{if_any}
use Rattle.h5_tokenizer_states.proofs.DoctypeErrorLaws.{at_keyword, before_keyword}
use Rattle.h5_tokenizer_states.proofs.doctype_errors.after_doctype_name_error.Goals as goal

pub returns-then-is_before_keyword : goal.returns-then-is_before_keyword
returns-then-is_before_keyword c = λ doctype. before_keyword doctype c.args.seen.now c.args.b c.is_before_keyword.result c.is_before_keyword.ensures c.if-is_before_keyword.true

pub returns : goal.returns
returns c = λ doctype.
    at_keyword doctype c.args.seen.now c.args.b c.is_before_keyword.result c.begins_keyword.result (if_any c.only_if.result) c.is_before_keyword.ensures c.if-is_before_keyword.false c.begins_keyword.ensures c.only_if.ensures
