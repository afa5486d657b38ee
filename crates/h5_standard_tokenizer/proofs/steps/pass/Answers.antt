use Rattle.std.proofs.Common.{IsUtf8, subst, arith}
use Rattle.h5_tokenizer_states.proofs.MoreLaws.{took_more}
use Rattle.h5_tokenizer_states.proofs.PassLaws.{took_nothing}
use Rattle.h5_standard_tokenizer.proofs.TakeLaws.{passes_less}
use Rattle.h5_standard_tokenizer.proofs.steps.pass.Goals as goal

pub bytes-init : goal.bytes-init
bytes-init c = record { utf8 = c.utf8.piece; passes = took_nothing _ _ _ }

pub returns-in_default-clause-passes : goal.returns-in_default-clause-passes
returns-in_default-clause-passes c = took_more c.bytes.invariant.passes c.in_ok-behind.ensures.passes

pub returns-then-may_hand-clause-passes : goal.returns-then-may_hand-clause-passes
returns-then-may_hand-clause-passes c = took_more c.bytes.invariant.passes c.in_ok-behind.ensures.passes

pub bytes-smaller : goal.bytes-smaller
bytes-smaller c = omega (arith, c.in_ok-after.ensures.less, passes_less c.in_ok-behind.ensures.passes)

pub bytes-preserved : goal.bytes-preserved
bytes-preserved c = record {
  utf8 = subst IsUtf8 c.as_bytes-bytes.ensures.value c.as_bytes-bytes.ensures.utf8;
  passes = took_more (took_more c.bytes.invariant.passes c.in_ok-behind.ensures.passes) c.in_ok-after.ensures.passes;
}
