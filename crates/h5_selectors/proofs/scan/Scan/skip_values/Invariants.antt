use Rattle.std.proofs.Common.{◌≡◌, ◌-◌, reverse}
use Rattle.h5_selectors.specs.Tokens.{behind_values, components_within}
use Rattle.h5_selectors.proofs.scan.Scan.skip_values.Given as goal

abbrev pub invariant-loop-step : goal.invariant-loop-step
invariant-loop-step l = components_within (l._step-end - l._step) (reverse l.missing.items) l.self.rest.now ≡ behind_values l.fn.self.rest.now
