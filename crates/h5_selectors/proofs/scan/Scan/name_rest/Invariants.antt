use Rattle.std.proofs.Common.{◌≡◌, ◌-◌, ◌++◌, string_bytes}
use Rattle.std.specs.Str.{encode_utf8_all}
use Rattle.h5_selectors.specs.Tokens.{name_at, name_piece_at, pieces_within}
use Rattle.h5_selectors.proofs.scan.Scan.name_rest.Given as goal

abbrev pub invariant-loop-step : goal.invariant-loop-step
invariant-loop-step l =
    let left = pieces_within name_piece_at (l._step-end - l._step) l.self.rest.now in
    record {
      name : string_bytes l.name ++ encode_utf8_all left.value ≡ encode_utf8_all (name_at l.fn.self.rest.now).value;
      rest : left.rest ≡ (name_at l.fn.self.rest.now).rest;
    }
