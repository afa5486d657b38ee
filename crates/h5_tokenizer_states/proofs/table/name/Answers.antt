use Rattle.h5_tokenizer_states.proofs.TableLemmas.{name_between, name_bounds}
use Rattle.h5_tokenizer_states.proofs.table.name.Goals as goal

pub slice_bounds-result-count : goal.slice_bounds-result-count
slice_bounds-result-count c =
    (name_bounds c.all_names.result.now c.name_begin-from.result c.name_begin-to.result c.args.number c.all_names.ensures c.name_begin-from.ensures c.name_begin-to.ensures c.requires).0

pub slice_bounds-result-start : goal.slice_bounds-result-start
slice_bounds-result-start c =
    (name_bounds c.all_names.result.now c.name_begin-from.result c.name_begin-to.result c.args.number c.all_names.ensures c.name_begin-from.ensures c.name_begin-to.ensures c.requires).0

pub slice_bounds-result-end : goal.slice_bounds-result-end
slice_bounds-result-end c =
    (name_bounds c.all_names.result.now c.name_begin-from.result c.name_begin-to.result c.args.number c.all_names.ensures c.name_begin-from.ensures c.name_begin-to.ensures c.requires).1

pub returns : goal.returns
returns c =
    name_between c.all_names.result.now c.name_begin-from.result c.name_begin-to.result c.args.number c.all_names.ensures c.name_begin-from.ensures c.name_begin-to.ensures c.requires
