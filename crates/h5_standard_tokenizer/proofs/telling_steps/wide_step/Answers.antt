use Rattle.std.proofs.Common.{string_bytes}
use Rattle.h5_standard_tokenizer.proofs.TellingLaws.{taken_whole}
use Rattle.h5_standard_tokenizer.proofs.telling_steps.wide_step.Goals as goal

pub returns-clause-run : goal.returns-clause-run
returns-clause-run c =
    let h = c.requires.character in
    taken_whole c.args.machine.now c.take_run.new.self h.first h.others c.args.front.now (string_bytes c.args.out.now) (string_bytes c.take_run.new.out) c.in_ok-_rest._rest.now h.split h.wide h.within c.requires.wide c.in_ok-_rest.ensures.narrow c.in_ok-_rest.ensures.passes
