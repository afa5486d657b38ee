use Rattle.std.proofs.Common.{◌≡◌, ◌-◌, ◌++◌, string_bytes}
use Rattle.std.specs.Str.{encode_utf8_all}
use Rattle.h5_selectors.specs.Tokens.{pieces, pieces_within, string_piece_at}
use Rattle.h5_selectors.proofs.scan.Scan.string_body.Given as goal

abbrev pub invariant-loop-step : goal.invariant-loop-step
invariant-loop-step l =
    let left = pieces_within (string_piece_at l.quote) (l._step-end - l._step) l.self.rest.now in
    let all = pieces (string_piece_at l.quote) l.fn.self.rest.now in
    record {
      text : string_bytes l.text ++ encode_utf8_all left.value ≡ encode_utf8_all all.value;
      rest : left.rest ≡ all.rest;
    }
