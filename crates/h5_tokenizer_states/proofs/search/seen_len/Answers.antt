use Rattle.h5_tokenizer_states.proofs.NarrowingLemmas.{nothing_begins}
use Rattle.h5_tokenizer_states.proofs.search.seen_len.Goals as goal

pub returns-clause-begins : goal.returns-clause-begins
returns-clause-begins c = c.further_len.ensures.begins nothing_begins
