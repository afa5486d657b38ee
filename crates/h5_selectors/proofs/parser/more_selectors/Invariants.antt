use Rattle.std.proofs.Common.{◌≡◌, ◌-◌, [], ◌∷◌, map}
use Rattle.h5_selectors.specs.Asking.{asked}
use Rattle.h5_selectors.specs.Grammar.{comma_next, commas_at, repeated, top_at}
use Rattle.h5_selectors.proofs.parser.more_selectors.Given as goal

abbrev pub invariant-loop-step : goal.invariant-loop-step
invariant-loop-step l =
    repeated (comma_next top_at) (l._step-end - l._step) (map asked l.list.items) l.parser.parts l.parser.scan.rest.now ≡ commas_at top_at (asked l.fn.first ∷ []) l.fn.parser.parts l.fn.parser.scan.rest.now
