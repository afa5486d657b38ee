use Rattle.h5_driver.specs.Parsing.{text_of, view_of}
use Rattle.h5_driver.proofs.PlainLaws.{brought_back}
use Rattle.h5_bytes.specs.Texts.{text_behind}
use Rattle.h5_bytes.proofs.PageLaws.{told_of_bytes}
use Rattle.h5_bytes.proofs.parser.BytesParser.one.Goals as goal

pub returns-clause-parses : goal.returns-clause-parses
returns-clause-parses g c =
    told_of_bytes g.R.Reader g.met.R.Reader.lawful g.R.Sink.TreeSink.told c.args.bytes.now c.args.self c.process.new.self c.in_ok-process.ensures.takes c.finish.result c.finish.ensures.parses

pub returns-clause-plain : goal.returns-clause-plain
returns-clause-plain g c =
    let first = c.args.self in
    let parser = first.parser in
    brought_back g.met.R.Reader.lawful g.R.Sink.TreeSink.told (text_of g.R.Reader parser) (view_of g.R.Reader parser) parser.waiting (text_behind first.opts first.stage c.args.bytes.now) c.finish.result
    (returns-clause-parses g c)
