use Rattle.std.proofs.Common.{◌≡◌, ◌-◌}
use Rattle.std.specs.Prelude.{◌||◌, true}
use Rattle.h5_selectors.specs.Tokens.{begins, behind_blanks, blank_at, is_spaced, pieces_within}
use Rattle.h5_selectors.proofs.scan.Scan.skip_blanks.Given as goal

abbrev pub invariant-loop-step : goal.invariant-loop-step
invariant-loop-step l =
    let left = pieces_within blank_at (l._step-end - l._step) l.self.rest.now in
    record {
      found : (l.found || begins (λ _. true) left.value) ≡ is_spaced l.fn.self.rest.now;
      rest : left.rest ≡ behind_blanks l.fn.self.rest.now;
    }
