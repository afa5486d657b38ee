use Rattle.std.proofs.Common.{◌+◌, subst, sym, arith}
use Rattle.h5_tokenizer_states.specs.Candidates.{IsCut, IsRising}
use Rattle.h5_tokenizer_states.proofs.NarrowingLemmas.{narrowed_are, rising, rising_part}
use Rattle.h5_tokenizer_states.proofs.candidates.Candidates.narrowed.Goals as goal

pub returns : goal.returns
returns c = λ seen e are.
    let from = c.args.self.from in
    let to = c.args.self.to in
    let first = c.first_from-from.result in
    let last = c.first_from-to.result in
    let rises : IsRising c.args.depth from to = subst (λ depth. IsRising depth from to) e (rising seen from to (omega arith) are) in
    let begin = c.first_from-from.ensures.cut rises in
    let end = c.first_from-to.ensures.cut (rising_part c.args.depth from to first (omega arith) rises) in
    narrowed_are seen c.args.byte from to first last are
    (subst (λ depth. IsCut depth from first to (c.args.byte + 1)) (sym e) begin)
    (subst (λ depth. IsCut depth first last to (c.args.byte + 1 + 1)) (sym e) end)
