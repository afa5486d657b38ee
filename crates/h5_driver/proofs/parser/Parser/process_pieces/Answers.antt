use Rattle.std.proofs.Common.{map, string_bytes, rules, Err, ap}
use Rattle.std.proofs.lemmas.Result.{err_from_is_err_and}
use Rattle.h5_driver.specs.Parsing.{joined, text_of, view_of}
use Rattle.h5_driver.specs.inner.Working.{IsReady}
use Rattle.h5_driver.proofs.FaultLaws.{fault_of}
use Rattle.h5_driver.proofs.PlainLaws.{brought_back}
use Rattle.h5_driver.proofs.ReadingLaws.{told_behind}
use Rattle.h5_driver.proofs.parser.Parser.process_pieces.Goals as goal

pub returns-clause-parses : goal.returns-clause-parses
returns-clause-parses g c =
    let ready : IsReady (view_of g.R.Reader c.args.self) = search rules in
    told_behind g.met.R.Reader.lawful g.R.Sink.TreeSink.told ready c.in_ok-process_each.ensures.takes c.finish.result c.finish.ensures.parses

pub returns-clause-plain : goal.returns-clause-plain
returns-clause-plain g c =
    let first = c.args.self in
    brought_back g.met.R.Reader.lawful g.R.Sink.TreeSink.told (text_of g.R.Reader first) (view_of g.R.Reader first) first.waiting (joined (map string_bytes c.args.pieces.now)) c.finish.result (returns-clause-parses g c)

pub returns-in_err-process_each-clause-memory : goal.returns-in_err-process_each-clause-memory
returns-in_err-process_each-clause-memory g c = λ h.
    let r = err_from_is_err_and c.from_residual.result c.from_residual.ensures.1 in
    rw (r.1, r.2) (ap (λ f. Err f) (ap fault_of (c.in_err-process_each.ensures.memory h)))
