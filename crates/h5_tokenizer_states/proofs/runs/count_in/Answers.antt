use Rattle.std.proofs.Common.{◌≡◌, ◌+◌, ◌≤◌, true, cond, eqb, get_or, ap, sym, ◌∙◌, arith}
use Rattle.std.proofs.lemmas.Bool.{ne_eqb}
use Rattle.h5_tokenizer_states.specs.Runs.{is_in}
use Rattle.h5_tokenizer_states.proofs.CountLaws.{counted_next, none_more}
use Rattle.h5_tokenizer_states.proofs.runs.count_in.Goals as goal
use Rattle.h5_tokenizer_states.proofs.runs.count_in.Goals.{then-b-eq10, else-b-eq10}

pub loop-i-preserved : goal.loop-i-preserved
loop-i-preserved c =
    let bytes = c.args.bytes.now in
    let i = c.loop-i.i in
    let here : is_in c.args.run (get_or bytes i 0) ≡ true = sym c.is_in.ensures ∙ c.if-not-is_in.false in
    let counted : c.if-b-eq10.lines ≡ c.loop-i.lines + cond (eqb (get_or bytes i 0) 10) 1 0 = elim c.if-b-eq10.branch [
      | then-b-eq10 w ↦ w.lines-is ∙ ap (λ x. c.loop-i.lines + cond (eqb x 10) 1 0) (sym w.if-b-eq10.true)
      | else-b-eq10 w ↦ w.lines-is ∙ sym (none_more (ne_eqb (get_or bytes i 0) 10 w.if-b-eq10.false))
    ] in
    let few : c.if-b-eq10.lines ≤ i + 1 = elim c.if-b-eq10.branch [
      | then-b-eq10 w ↦ omega (arith, w.lines-is, c.loop-i.invariant.few)
      | else-b-eq10 w ↦ omega (arith, w.lines-is, c.loop-i.invariant.few)
    ] in
    let next = counted_next c.args.run bytes i c.loop-i.lines c.if-b-eq10.lines (omega arith) c.loop-i.invariant.taken c.loop-i.invariant.counted here counted in
    record { taken = next.0; few = few; counted = next.1 }
