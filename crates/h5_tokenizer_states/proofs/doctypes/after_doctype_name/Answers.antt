use Rattle.std.proofs.Common.{sym, ap, ◌∙◌, []}
use Rattle.std.specs.String.{string_bytes}
use Rattle.h5_token.specs.TokenText.{doctype_text}
use Rattle.h5_tokenizer_spec.specs.States.{BogusDoctype}
use Rattle.h5_tokenizer_spec.specs.Turn.{Reconsumed}
use Rattle.h5_tokenizer_states.proofs.AheadLaws.{ends_no_keyword}
use Rattle.h5_tokenizer_states.proofs.doctypes.after_doctype_name.Goals as goal

pub returns-then-b-ge128 : goal.returns-then-b-ge128
returns-then-b-ge128 c = λ parts.
    rw c.without_keyword.ensures.transition (ap (λ d. Reconsumed [] (BogusDoctype d)) c.without_keyword.ensures.doctype ∙ sym (ends_no_keyword (doctype_text c.args.doctype.now) (string_bytes c.args.seen.now) c.args.b c.if-b-ge128.true))
