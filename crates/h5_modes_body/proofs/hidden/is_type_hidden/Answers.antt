use Rattle.std.proofs.Common.{ap, codes, sym, ◌∙◌}
use Rattle.std.specs.Str.{str_eq_ignore_ascii_case}
use Rattle.h5_modes_body.proofs.HiddenLaws.{hidden_here, same_lowered}
use Rattle.h5_modes_body.proofs.hidden.is_type_hidden.Goals as goal

pub returns-then-is_type : goal.returns-then-is_type
returns-then-is_type c =
    same_lowered c.as_str.result.now (codes "hidden") c.eq_ignore_ascii_case.result c.eq_ignore_ascii_case.ensures.test
    ∙ ap (λ value. str_eq_ignore_ascii_case value (codes "hidden")) c.as_str.ensures.value
    ∙ sym (hidden_here c.args.attrs.now c.loop-attribute.attribute-index c.attribute-item.result c.loop-attribute-test.true c.attribute-item.is (sym c.is_type.ensures ∙ c.if-is_type.true))
    ∙ c.loop-attribute.invariant
