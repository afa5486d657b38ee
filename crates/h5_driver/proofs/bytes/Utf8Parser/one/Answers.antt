use Rattle.std.proofs.Common.{◌++◌, rules, Err, ap}
use Rattle.std.proofs.lemmas.Result.{err_from_is_err_and}
use Rattle.std.specs.Str.Lossy.{utf8_lossy}
use Rattle.h5_driver.specs.Parsing.{text_of, view_of}
use Rattle.h5_driver.specs.inner.Working.{IsReady}
use Rattle.h5_driver.proofs.ByteLaws.{told_of_bytes}
use Rattle.h5_driver.proofs.FaultLaws.{fault_of}
use Rattle.h5_driver.proofs.PlainLaws.{brought_back}
use Rattle.h5_driver.proofs.bytes.Utf8Parser.one.Goals as goal

pub returns-clause-parses : goal.returns-clause-parses
returns-clause-parses g c =
    let first = c.args.self in
    let ready : IsReady (view_of g.R.Reader first.parser) = search rules in
    told_of_bytes g.R.Reader g.met.R.Reader.lawful g.R.Sink.TreeSink.told c.args.bytes.now first c.process_parts.new.self ready c.in_ok-process_parts.ensures.takes c.finish.result c.finish.ensures.parses

pub returns-clause-plain : goal.returns-clause-plain
returns-clause-plain g c =
    let first = c.args.self in
    brought_back g.met.R.Reader.lawful g.R.Sink.TreeSink.told (text_of g.R.Reader first.parser) (view_of g.R.Reader first.parser) first.parser.waiting (utf8_lossy (first.unfinished ++ c.args.bytes.now)) c.finish.result
    (returns-clause-parses g c)

pub returns-in_err-process_parts-clause-memory : goal.returns-in_err-process_parts-clause-memory
returns-in_err-process_parts-clause-memory g c = λ h.
    let r = err_from_is_err_and c.from_residual.result c.from_residual.ensures.1 in
    rw (r.1, r.2) (ap (λ f. Err f) (ap fault_of (c.in_err-process_parts.ensures.memory h)))
