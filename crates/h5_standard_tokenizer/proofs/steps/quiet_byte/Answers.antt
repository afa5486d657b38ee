use Rattle.std.proofs.Common.{string_bytes}
use Rattle.h5_standard_tokenizer.proofs.TakeLaws.{consumed_is_ascii, front_is_ascii, reconsumed_is_less_at, took_consumed, took_reconsumed}
use Rattle.h5_standard_tokenizer.proofs.steps.quiet_byte.Goals as goal

pub behind_byte-requires-clause-ascii : goal.behind_byte-requires-clause-ascii
behind_byte-requires-clause-ascii c =
    front_is_ascii c.args.b c.args.rest.now c.requires.front
    (consumed_is_ascii c.args.machine.now c.take.new.self c.args.b (string_bytes c.args.out.now) (string_bytes c.take.new.out) c.requires.narrow (rw c.in-Consumed.is at c.in_ok-take.ensures))

pub returns-in-Reconsumed-clause-passes : goal.returns-in-Reconsumed-clause-passes
returns-in-Reconsumed-clause-passes c =
    took_reconsumed c.args.machine.now c.take.new.self c.args.b (string_bytes c.args.out.now) (string_bytes c.take.new.out) c.args.rest.now c.requires.front (rw c.in-Reconsumed.is at c.in_ok-take.ensures)

pub returns-in-Reconsumed-clause-less : goal.returns-in-Reconsumed-clause-less
returns-in-Reconsumed-clause-less c =
    reconsumed_is_less_at c.args.machine.now c.take.new.self c.args.b (string_bytes c.args.out.now) (string_bytes c.take.new.out) c.args.rest.now c.requires.front (rw c.in-Reconsumed.is at c.in_ok-take.ensures)

pub returns-in-Consumed-clause-passes : goal.returns-in-Consumed-clause-passes
returns-in-Consumed-clause-passes c =
    took_consumed c.args.machine.now c.take.new.self c.args.b (string_bytes c.args.out.now) (string_bytes c.take.new.out) c.args.rest.now c.behind_byte.result.now c.requires.front c.behind_byte.ensures (rw c.in-Consumed.is at c.in_ok-take.ensures)
