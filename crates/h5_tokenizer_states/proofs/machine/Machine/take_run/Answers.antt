use Rattle.std.proofs.lemmas.Result.{IfOk-weaker}
use Rattle.h5_tokenizer_states.proofs.MoreLaws.{took_more}
use Rattle.h5_tokenizer_states.proofs.machine.Machine.take_run.Goals as goal

pub returns-in-Tag-BeforeAttributeName-clause-passes : goal.returns-in-Tag-BeforeAttributeName-clause-passes
returns-in-Tag-BeforeAttributeName-clause-passes c =
    IfOk-weaker c.take_quoted.result _ _ (λ after h. took_more c.in_ok-behind.ensures.passes (h _)) c.take_quoted.ensures.passes
