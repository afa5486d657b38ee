use Rattle.std.proofs.Common.{◌+◌, ◌-◌, ◌++◌, ◌∙◌, [], ◌∷◌, ap, append-nil, append_assoc, arith, encode_utf8, encode_utf8_all, length, string_bytes, sym}
use Rattle.h5_selectors.proofs.Pieces.{pieces_done, pieces_more, pieces_stop}
use Rattle.h5_selectors.specs.Tokens.{name_piece_at, pieces_within, reading}
use Rattle.h5_selectors.proofs.scan.Scan.name_rest.Goals as goal

pub returns-in_default-clause-name : goal.returns-in_default-clause-name
returns-in_default-clause-name c =
    let e = pieces_stop name_piece_at (length c.args.self.now.rest.now - c.loop-step._step) c.loop-step.self.rest.now c.in_default.ensures.piece in
    sym (append-nil (string_bytes c.loop-step.name)) ∙ (rw e at c.loop-step.invariant.name)

pub loop-step-preserved : goal.loop-step-preserved
loop-step-preserved c =
    let e = pieces_more name_piece_at (length c.args.self.now.rest.now) c.loop-step._step c.loop-step.self.rest.now (reading (c.in-Some.c ∷ []) c.name_piece.new.self.rest.now) (omega (arith, c.loop-step-test.true)) c.in-Some.ensures.piece in
    let left = encode_utf8_all (pieces_within name_piece_at (length c.args.self.now.rest.now - (c.loop-step._step + 1)) c.name_piece.new.self.rest.now).value in
    record {
      name = ap (λ bytes. bytes ++ left) c.in_ok-push.ensures.bytes ∙ append_assoc (string_bytes c.loop-step.name) (encode_utf8 c.in-Some.c) left ∙ (rw e at c.loop-step.invariant.name);
      rest = rw e at c.loop-step.invariant.rest;
    }

pub returns-clause-name : goal.returns-clause-name
returns-clause-name c =
    let e = pieces_done name_piece_at (length c.args.self.now.rest.now) c.loop-step._step c.loop-step.self.rest.now (omega (arith, c.loop-step-test.false)) in
    sym (append-nil (string_bytes c.loop-step.name)) ∙ (rw e at c.loop-step.invariant.name)

pub returns-clause-rest : goal.returns-clause-rest
returns-clause-rest c =
    let e = pieces_done name_piece_at (length c.args.self.now.rest.now) c.loop-step._step c.loop-step.self.rest.now (omega (arith, c.loop-step-test.false)) in
    rw e at c.loop-step.invariant.rest

pub returns-in_default-clause-rest : goal.returns-in_default-clause-rest
returns-in_default-clause-rest c =
    let e = pieces_stop name_piece_at (length c.args.self.now.rest.now - c.loop-step._step) c.loop-step.self.rest.now c.in_default.ensures.piece in
    c.in_default.ensures.none ∙ (rw e at c.loop-step.invariant.rest)
