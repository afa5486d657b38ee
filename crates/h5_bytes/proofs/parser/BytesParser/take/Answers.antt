use Rattle.std.proofs.Common.{OnOk, Option, Some, String, refl, subst, option_map, string_bytes}
use Rattle.std.specs.declared.alloc.Global.{Global}
use Rattle.h5_bytes.specs.Parsing.{ParsingPage, ProcessedBytes}
use Rattle.h5_bytes.specs.Texts.{Takes}
use Rattle.h5_bytes.proofs.PageLaws.{handed_on}
use Rattle.h5_bytes.proofs.parser.BytesParser.take.Goals as goal

pub returns-in-Some-clause-takes : goal.returns-in-Some-clause-takes
returns-in-Some-clause-takes g c =
    let inside = c.self.inside in
    let bytes = c.args.bytes.now in
    let new : ParsingPage g.row.R.Denot = record { parser = c.process_owned.new.self; opts = inside.opts; stage = c.decode.new.self; failed = inside.failed } in
    let takes : Takes inside.opts inside.stage bytes (Some (string_bytes c.in-Some.text)) c.decode.new.self =
    subst (λ (piece : Option (String Global)). Takes inside.opts inside.stage bytes (option_map string_bytes piece) c.decode.new.self) c.in-Some.is c.in_ok-decode.ensures in
    subst (λ (old : ParsingPage g.row.R.Denot). OnOk c.process_owned.result (ProcessedBytes g.R.Reader bytes old new)) c.self.view_is
    (handed_on c.process_owned.result (λ took. record { piece = Some (string_bytes c.in-Some.text); opts = refl; takes = takes; handed = took }) c.process_owned.ensures.takes)
