use Rattle.std.proofs.Common.{ap, subst, ◌∙◌, rules, Err}
use Rattle.std.proofs.lemmas.Result.{err_from_is_err_and}
use Rattle.h5_interface.specs.Seen.{Seen}
use Rattle.h5_driver.specs.Parsing.{Parsing, text_of, view_of}
use Rattle.h5_driver.specs.Reading.{Parses}
use Rattle.h5_driver.specs.inner.Working.{IsReady}
use Rattle.h5_driver.proofs.FaultLaws.{fault_of}
use Rattle.h5_driver.proofs.ReadingLaws.{parsed}
use Rattle.h5_driver.proofs.parser.Parser.finish.Goals as goal

pub returns-clause-parses : goal.returns-clause-parses
returns-clause-parses g c =
    let reader = g.R.Reader in
    let told = g.R.Sink.TreeSink.told c.finish.result in
    let ready : IsReady (reader.building c.self.inside.tokenizer).view = search rules in
    subst (λ (p : Parsing g.row.R.Denot). Parses reader.Reads g.R.Sink.TreeSink.choices (text_of reader p) (view_of reader p) p.waiting told) c.self.view_is
    (parsed g.met.R.Reader.lawful ready c.in_ok-feed_all.ensures.advances c.in_ok-end.ensures.ends
    (ap (λ (s : Seen). s.forest) c.finish.ensures ∙ c.into_sink.ensures.forest) (ap (λ (s : Seen). s.quirks) c.finish.ensures ∙ c.into_sink.ensures.quirks))

pub returns-in_err-feed_all-clause-memory : goal.returns-in_err-feed_all-clause-memory
returns-in_err-feed_all-clause-memory g c = λ _.
    let r = err_from_is_err_and c.from_residual.result c.from_residual.ensures.1 in
    rw (r.1, r.2) (ap (λ f. Err f) (ap fault_of c.in_err-feed_all.ensures.memory))

pub returns-in_err-end-clause-memory : goal.returns-in_err-end-clause-memory
returns-in_err-end-clause-memory g c = λ _.
    let r = err_from_is_err_and c.from_residual-in_err-end.result c.from_residual-in_err-end.ensures.1 in
    rw (r.1, r.2) (ap (λ f. Err f) (ap fault_of c.in_err-end.ensures.memory))
