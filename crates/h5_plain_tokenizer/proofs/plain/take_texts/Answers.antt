use Rattle.std.proofs.Common.{true, string_bytes, subst, IsUtf8}
use Rattle.h5_plain_tokenizer.specs.Steps.{TakesBits}
use Rattle.h5_plain_tokenizer.proofs.PlainLaws.{many_none, many_more}
use Rattle.h5_plain_tokenizer.proofs.plain.take_texts.Goals as goal
use Rattle.h5_plain_tokenizer.proofs.plain.take_texts.Goals.{In-Some}

taken : (c : In-Some) → TakesBits c.args.mode c.args.last.now true c.loop-after.rest.now c.in-Some.after.now (string_bytes c.loop-after.out) (string_bytes c.take_some.new.out)
taken c = rw c.in-Some.is at c.in_ok-after.ensures

pub loop-after-init : goal.loop-after-init
loop-after-init c = record { utf8 = c.utf8.text; bits = many_none _ _ }

pub loop-after-smaller : goal.loop-after-smaller
loop-after-smaller c = (taken (goal.at.loop-after-smaller c).In-Some).shorter

pub loop-after-preserved : goal.loop-after-preserved
loop-after-preserved c = record { utf8 = subst IsUtf8 c.as_bytes-bytes.ensures.value c.as_bytes-bytes.ensures.utf8; bits = many_more _ _ _ _ _ _ c.loop-after.invariant.bits (taken (goal.at.loop-after-preserved c).In-Some) }

pub returns : goal.returns
returns c = rw (rw c.in_default.is at c.in_ok-after.ensures) c.loop-after.invariant.bits
