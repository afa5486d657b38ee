use Rattle.h5_plain_tokenizer.proofs.WholeLaws.{undecided_nothing}
use Rattle.h5_plain_tokenizer.proofs.laws.nothing_is_undecided.Goals as goal

pub returns : goal.returns
returns c = λ p foreign. undecided_nothing p foreign
