use Rattle.std.proofs.Common.{sym}
use Rattle.h5_markup.proofs.TextLaws.{reads_found, reads_cr}
use Rattle.h5_markup.proofs.text.read_bit.Goals as goal

pub returns-in_ok-push_str-in-Found : goal.returns-in_ok-push_str-in-Found
returns-in_ok-push_str-in-Found c = reads_found c.args.references c.args.text.now c.in-Found.rest.now c.in-Found.bytes.now _ _ (sym c.in-Found.ensures) c.in_ok-push_str-in-Found.ensures.bytes

pub returns-in_ok-push_str-in-Some : goal.returns-in_ok-push_str-in-Some
returns-in_ok-push_str-in-Some c =
    let h = c.in-Some.ensures.cases in
    reads_cr c.args.references c.args.text.now c.in-Some.rest.now _ _ h.0 (sym c.in-Open.ensures) h.1.1 h.2 c.in_ok-push_str-in-Some.ensures.bytes
