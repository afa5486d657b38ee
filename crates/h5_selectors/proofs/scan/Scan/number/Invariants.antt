use Rattle.std.proofs.Common.{◌≡◌, ◌-◌}
use Rattle.h5_selectors.specs.Tokens.{digit_at, number_within, pieces_within, with_digits}
use Rattle.h5_selectors.proofs.scan.Scan.number.Given as goal

abbrev pub invariant-loop-step : goal.invariant-loop-step
invariant-loop-step l =
    let left = pieces_within (digit_at l.radix) (l.most - l._step) l.self.rest.now in
    record {
      number : with_digits l.radix l.number left.value ≡ (number_within l.radix l.most l.fn.self.rest.now).value;
      rest : left.rest ≡ (number_within l.radix l.most l.fn.self.rest.now).rest;
    }
