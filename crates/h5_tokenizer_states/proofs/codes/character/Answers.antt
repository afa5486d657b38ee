use Rattle.h5_tokenizer_states.proofs.CodeLaws.{unknown}
use Rattle.h5_tokenizer_states.proofs.codes.character.Goals as goal

pub returns-in-None : goal.returns-in-None
returns-in-None c = unknown c.args.code c.in-None.ensures.cases
