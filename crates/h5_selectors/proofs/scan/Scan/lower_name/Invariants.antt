use Rattle.std.proofs.Common.{◌≡◌, ◌-◌, ◌++◌, map}
use Rattle.std.specs.Char.{to_ascii_lowercase}
use Rattle.h5_selectors.specs.Tokens.{name_at, name_piece_at, pieces_within}
use Rattle.h5_selectors.proofs.scan.Scan.lower_name.Given as goal

abbrev pub invariant-loop-step : goal.invariant-loop-step
invariant-loop-step l =
    let left = pieces_within name_piece_at (l._step-end - l._step) l.self.rest.now in
    record {
      name : l.name.items ++ map to_ascii_lowercase left.value ≡ map to_ascii_lowercase (name_at l.fn.self.rest.now).value;
      rest : left.rest ≡ (name_at l.fn.self.rest.now).rest;
    }
