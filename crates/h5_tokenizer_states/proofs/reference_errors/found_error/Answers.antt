use Rattle.std.proofs.Common.{take, drop}
use Rattle.h5_tokenizer_states.specs.StateOf.{return_of}
use Rattle.h5_tokenizer_states.proofs.ReferenceErrorLaws.{historical_quiet, found_missing}
use Rattle.h5_tokenizer_states.proofs.reference_errors.found_error.Goals as goal

pub returns-then-is_historical : goal.returns-then-is_historical
returns-then-is_historical c = λ tag.
    let seen = c.args.seen.now in
    let found = c.args.found.now in
    historical_quiet (return_of c.args.return_to tag) seen c.args.b found.text.now (take found.len seen) (drop found.len seen) _ _ c.split_found.ensures.name c.split_found.ensures.rest (c.if-is_historical.ensures tag found.text.now)

pub returns : goal.returns
returns c = λ tag.
    let seen = c.args.seen.now in
    let found = c.args.found.now in
    found_missing (return_of c.args.return_to tag) seen c.args.b found.text.now (take found.len seen) (drop found.len seen) _ _ _ _ c.split_found.ensures.name c.split_found.ensures.rest (c.if-is_historical.ensures tag found.text.now) c.is_closed.ensures c.only_if.ensures
