use Rattle.std.proofs.Common.{string_bytes}
use Rattle.h5_bytes.specs.Texts.{text_of_bytes}
use Rattle.h5_bytes.proofs.PageLaws.{told_of_text}
use Rattle.h5_bytes.proofs.TextLaws.{whole_text}
use Rattle.h5_bytes.proofs.parser.whole.Goals as goal

pub returns-clause-parses : goal.returns-clause-parses
returns-clause-parses g c =
    let bytes = c.args.bytes.now in
    let first = c.in_ok-decoder.field-0 in
    let text = string_bytes first.text in
    let rest = c.finish.result.now in
    told_of_text g.R.Reader g.met.R.Reader.lawful g.R.Sink.TreeSink.told text rest (text_of_bytes c.args.opts bytes) c.args.parser c.process_owned.new.self c.in_ok-process_owned.ensures.takes
    (whole_text c.args.opts bytes text rest first.decoder c.in_ok-decoder.ensures.text c.finish.ensures) c.one.result c.one.ensures.parses
