use Rattle.std.proofs.Common.{rules, Some, string_bytes, subst, sym, ◌≡◌, ◌≤◌, ◌++◌, length}
use Rattle.h5_bytes.specs.declared.stage.Stage.{Stage}
use Rattle.h5_bytes.specs.declared.stage.Stage.TheVariants.{Decoding}
use Rattle.h5_bytes.specs.Texts.{Takes}
use Rattle.h5_bytes.proofs.TextLaws.{decided}
use Rattle.h5_bytes.proofs.stage.Stage.decode.Goals as goal

pub returns-in_ok-decoder-in-Sniffing : goal.returns-in_ok-decoder-in-Sniffing
returns-in_ok-decoder-in-Sniffing c =
    let first = c.in-Sniffing.first in
    let found = c.in_ok-decoder-in-Sniffing.field-0 in
    let now = c.as_slice.result.now in
    let same : now ≡ first.items ++ c.args.bytes.now = search rules in
    let enough : 1024 ≤ length now = search rules in
    subst (λ (s : Stage). Takes c.args.opts s c.args.bytes.now (Some (string_bytes found.text)) (Decoding found.decoder found.source)) (sym c.in-Sniffing.is)
    (decided c.args.opts first now c.args.bytes.now (string_bytes found.text) found.source found.decoder same enough c.in_ok-decoder-in-Sniffing.ensures.source c.in_ok-decoder-in-Sniffing.ensures.counts c.in_ok-decoder-in-Sniffing.ensures.text)
