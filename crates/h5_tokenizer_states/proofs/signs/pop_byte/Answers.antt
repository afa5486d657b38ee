use Rattle.h5_tokenizer_states.proofs.AheadLaws.{unpushed}
use Rattle.h5_tokenizer_states.proofs.signs.pop_byte.Goals as goal

pub returns : goal.returns
returns c = λ front x small was. unpushed _ _ front x _ c.args.text.now.bytes.ok.0 was small c.pop.ensures.ascii_bytes
