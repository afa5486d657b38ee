use Rattle.std.proofs.Common.{◌∙◌}
use Rattle.h5_tokenizer_states.proofs.TableLemmas.{text_between, text_bounds}
use Rattle.h5_tokenizer_states.proofs.table.text.Goals as goal

pub range-requires-clause-start_le_end : goal.range-requires-clause-start_le_end
range-requires-clause-start_le_end c =
    (text_bounds c.all_texts.result.now c.text_begin-from.result c.text_begin-to.result c.args.number c.all_texts.ensures c.text_begin-from.ensures c.text_begin-to.ensures c.requires).0

pub range-requires-clause-start_boundary : goal.range-requires-clause-start_boundary
range-requires-clause-start_boundary c = λ _.
    (text_bounds c.all_texts.result.now c.text_begin-from.result c.text_begin-to.result c.args.number c.all_texts.ensures c.text_begin-from.ensures c.text_begin-to.ensures c.requires).1

pub range-requires-clause-end_boundary : goal.range-requires-clause-end_boundary
range-requires-clause-end_boundary c =
    (text_bounds c.all_texts.result.now c.text_begin-from.result c.text_begin-to.result c.args.number c.all_texts.ensures c.text_begin-from.ensures c.text_begin-to.ensures c.requires).2

pub returns : goal.returns
returns c =
    c.range.ensures.value
    ∙ text_between c.all_texts.result.now c.text_begin-from.result c.text_begin-to.result c.args.number c.all_texts.ensures c.text_begin-from.ensures c.text_begin-to.ensures c.requires
