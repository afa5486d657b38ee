use Rattle.std.proofs.Common.{◌+◌, ◌-◌, ◌++◌, ◌∙◌, ap, append-nil, append_assoc, arith, encode_utf8_all, length, option_to_list, string_bytes, sym}
use Rattle.std.proofs.lemmas.Str.{encodes-append}
use Rattle.h5_selectors.proofs.Pieces.{pieces_done, pieces_more, pieces_stop}
use Rattle.h5_selectors.specs.Tokens.{string_piece_at, pieces_within, reading}
use Rattle.h5_selectors.proofs.scan.Scan.string_body.Goals as goal

pub returns-in_default-clause-text : goal.returns-in_default-clause-text
returns-in_default-clause-text c =
    let e = pieces_stop (string_piece_at c.args.quote) (length c.args.self.now.rest.now - c.loop-step._step) c.loop-step.self.rest.now c.in_default.ensures.piece in
    sym (append-nil (string_bytes c.loop-step.text)) ∙ (rw e at c.loop-step.invariant.text)

pub loop-step-preserved : goal.loop-step-preserved
loop-step-preserved c =
    let e = pieces_more (string_piece_at c.args.quote) (length c.args.self.now.rest.now) c.loop-step._step c.loop-step.self.rest.now (reading (option_to_list c.in-Some.piece) c.string_piece.new.self.rest.now) (omega (arith, c.loop-step-test.true)) c.in-Some.ensures.piece in
    let left = (pieces_within (string_piece_at c.args.quote) (length c.args.self.now.rest.now - (c.loop-step._step + 1)) c.string_piece.new.self.rest.now).value in
    let piece = option_to_list c.in-Some.piece in
    record {
      text = ap (λ bytes. bytes ++ encode_utf8_all left) c.in_ok-push_piece.ensures ∙ append_assoc (string_bytes c.loop-step.text) (encode_utf8_all piece) (encode_utf8_all left)
          ∙ ap (λ bytes. string_bytes c.loop-step.text ++ bytes) (sym (encodes-append piece left)) ∙ (rw e at c.loop-step.invariant.text);
      rest = rw e at c.loop-step.invariant.rest;
    }

pub returns-clause-text : goal.returns-clause-text
returns-clause-text c =
    let e = pieces_done (string_piece_at c.args.quote) (length c.args.self.now.rest.now) c.loop-step._step c.loop-step.self.rest.now (omega (arith, c.loop-step-test.false)) in
    sym (append-nil (string_bytes c.loop-step.text)) ∙ (rw e at c.loop-step.invariant.text)

pub returns-clause-rest : goal.returns-clause-rest
returns-clause-rest c =
    let e = pieces_done (string_piece_at c.args.quote) (length c.args.self.now.rest.now) c.loop-step._step c.loop-step.self.rest.now (omega (arith, c.loop-step-test.false)) in
    rw e at c.loop-step.invariant.rest

pub returns-in_default-clause-rest : goal.returns-in_default-clause-rest
returns-in_default-clause-rest c =
    let e = pieces_stop (string_piece_at c.args.quote) (length c.args.self.now.rest.now - c.loop-step._step) c.loop-step.self.rest.now c.in_default.ensures.piece in
    c.in_default.ensures.none ∙ (rw e at c.loop-step.invariant.rest)
