use Rattle.std.specs.Prelude.{string_bytes}
use Rattle.h5_tokenizer_states.proofs.OutcomeLaws.{wonders}
use Rattle.h5_tokenizer_states.proofs.machine.Machine.take.Goals as goal

pub returns-in-Asks : goal.returns-in-Asks
returns-in-Asks c =
    wonders c.args.self.now c.args.b c.normal.result c.in_ok-at.field-0 (string_bytes c.args.out.now) (string_bytes c.turn.new.out) c.turn.new.self c.go_behind-in-Asks.new.self
    c.if-is_dropped.ensures c.in-Asks.is c.normal.ensures c.in_ok-at.ensures.row c.in_ok-at.ensures.others c.go_behind-in-Asks.ensures.place
