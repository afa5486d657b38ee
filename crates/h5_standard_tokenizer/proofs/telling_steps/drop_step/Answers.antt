use Rattle.std.proofs.Common.{string_bytes}
use Rattle.h5_standard_tokenizer.proofs.TakeLaws.{front_is_ascii}
use Rattle.h5_standard_tokenizer.proofs.TellingLaws.{dropped_is_ascii, drops_only}
use Rattle.h5_standard_tokenizer.proofs.telling_steps.drop_step.Goals as goal

pub behind_byte-requires-clause-ascii : goal.behind_byte-requires-clause-ascii
behind_byte-requires-clause-ascii c = front_is_ascii c.args.b c.args.rest.now c.requires.front (dropped_is_ascii c.args.machine.now c.args.b c.requires.dropped)

pub take-requires : goal.take-requires
take-requires c = λ wide. dropped_is_ascii c.args.machine.now c.args.b c.requires.dropped

pub returns-clause-drops : goal.returns-clause-drops
returns-clause-drops c = drops_only c.args.machine.now c.take.new.self c.args.b (string_bytes c.args.out.now) (string_bytes c.take.new.out) c.in_ok-_step._step c.requires.dropped c.in_ok-_step.ensures
