use Rattle.std.proofs.Common.{not, ap, ◌∙◌}
use Rattle.h5_tokenizer_states.proofs.NarrowingLemmas.{begin_by_test}
use Rattle.h5_tokenizer_states.proofs.search.is_beginning.Goals as goal

pub returns : goal.returns
returns c =
    let candidates = c.candidates_of.result in
    ap not c.is_empty.ensures ∙ begin_by_test c.args.seen.now candidates.from candidates.to candidates.ordered candidates.within_table c.candidates_of.ensures
