use Rattle.std.proofs.Common.{string_bytes, Err, ap}
use Rattle.std.proofs.lemmas.Result.{err_from_is_err_and}
use Rattle.h5_driver.specs.Parsing.{text_of, view_of}
use Rattle.h5_driver.proofs.FaultLaws.{fault_of}
use Rattle.h5_driver.proofs.PlainLaws.{brought_back}
use Rattle.h5_driver.proofs.ReadingLaws.{nothing_read, piece_taken, told_behind}
use Rattle.h5_driver.proofs.parser.Parser.one_owned.Goals as goal

pub returns-clause-parses : goal.returns-clause-parses
returns-clause-parses g c =
    let first = c.args.self in
    let took = c.in_ok-process_owned.ensures.takes in
    told_behind g.met.R.Reader.lawful g.R.Sink.TreeSink.told took.worked.ready
    (piece_taken g.met.R.Reader.lawful (string_bytes c.args.text) (nothing_read g.met.R.Reader.lawful (text_of g.R.Reader first) (view_of g.R.Reader first) first.waiting) took.advances took.none_waits)
    c.finish.result c.finish.ensures.parses

pub returns-clause-plain : goal.returns-clause-plain
returns-clause-plain g c =
    let first = c.args.self in
    brought_back g.met.R.Reader.lawful g.R.Sink.TreeSink.told (text_of g.R.Reader first) (view_of g.R.Reader first) first.waiting (string_bytes c.args.text) c.finish.result (returns-clause-parses g c)

pub returns-in_err-process_owned-clause-memory : goal.returns-in_err-process_owned-clause-memory
returns-in_err-process_owned-clause-memory g c = λ h.
    let r = err_from_is_err_and c.from_residual.result c.from_residual.ensures.1 in
    rw (r.1, r.2) (ap (λ f. Err f) (ap fault_of (c.in_err-process_owned.ensures.memory h)))
