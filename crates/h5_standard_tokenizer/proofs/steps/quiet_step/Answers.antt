use Rattle.std.proofs.Common.{string_bytes}
use Rattle.h5_tokenizer_states.proofs.CommonLaws.{took_common}
use Rattle.h5_standard_tokenizer.proofs.steps.quiet_step.Goals as goal

pub returns-in-Some-clause-passes : goal.returns-in-Some-clause-passes
returns-in-Some-clause-passes c =
    took_common c.args.machine.now c.pass_common.new.self c.args.rest.now c.in-Some.text.now c.in-Some.behind.now (string_bytes c.args.out.now) (string_bytes c.pass_common.new.out)
    c.in-Some.ensures.0 c.in-Some.ensures.1 c.in_ok-pass_common.ensures.out c.in_ok-pass_common.ensures.others
