use Rattle.std.proofs.Common.{◌≡◌, ◌-◌, [], ◌∷◌, map, string_bytes}
use Rattle.h5_selectors.specs.Grammar.{alone, comma_next, commas_at, range_item, repeated}
use Rattle.h5_selectors.proofs.parser.Parser.more_ranges.Given as goal

abbrev pub invariant-loop-step : goal.invariant-loop-step
invariant-loop-step l =
    repeated (comma_next (alone range_item)) (l._step-end - l._step) (map string_bytes l.ranges.items) l.self.parts l.self.scan.rest.now
    ≡ commas_at (alone range_item) (string_bytes l.fn.first ∷ []) l.fn.self.parts l.fn.self.scan.rest.now
