use Rattle.std.proofs.Common.{arith, ap, ◌∙◌}
use Rattle.h5_tokenizer_states.specs.Candidates.{key_at}
use Rattle.h5_tokenizer_states.proofs.NarrowingLemmas.{key_inside, key_past}
use Rattle.h5_tokenizer_states.proofs.candidates.key.Goals as goal

pub returns-then-depth-name : goal.returns-then-depth-name
returns-then-depth-name c =
    key_inside c.name-name.result.now c.args.depth (omega arith) ∙ ap (λ name. key_at name c.args.depth) c.name-name.ensures

pub returns-else-depth-name : goal.returns-else-depth-name
returns-else-depth-name c =
    key_past c.name-name.result.now c.args.depth (omega arith) ∙ ap (λ name. key_at name c.args.depth) c.name-name.ensures
