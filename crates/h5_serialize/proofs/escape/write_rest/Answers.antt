use Rattle.std.proofs.Common.{Bor, List, arith, subst, sym, ℕ}
use Rattle.h5_serialize.proofs.Escapes.{Wrote}
use Rattle.h5_serialize.proofs.FrontLaws.{front_kept, front_written, wrote_all, wrote_kept, wrote_none, wrote_taken}
use Rattle.h5_serialize.proofs.escape.write_rest.Goals.{in-Ok, in-Err+else-ne}
use Rattle.h5_serialize.proofs.escape.write_rest.Goals as goal

pub loop-init : goal.loop-init
loop-init g c = wrote_none (g.Wr.Write.contents c.args.writer.now) c.args.bytes.now

pub returns-then-is_empty-clause-bytes : goal.returns-then-is_empty-clause-bytes
returns-then-is_empty-clause-bytes g c = wrote_all _ _ c.args.bytes.now c.loop.rest.now (grind (arith, c.if-is_empty.true)) c.loop.invariant

pub returns-in-Ok-eq0-clause-bytes : goal.returns-in-Ok-eq0-clause-bytes
returns-in-Ok-eq0-clause-bytes g c = front_written _ _ c.args.bytes.now _ (wrote_taken _ _ _ c.args.bytes.now c.loop.rest.now c.in-Ok-eq0.field-0 c.loop.invariant c.in-Ok-eq0.ensures.bytes)

pub returns-then-ne-clause-bytes : goal.returns-then-ne-clause-bytes
returns-then-ne-clause-bytes g c = front_kept _ _ _ c.args.bytes.now c.loop.rest.now c.loop.invariant c.in-Err.ensures.bytes

pub loop-preserved : goal.loop-preserved
loop-preserved g c =
    let contents = g.Wr.Write.contents in
    let Left : Bor (List ℕ) → Type 0 = λ rest. Wrote (contents c.args.writer.now) (contents c.write.new.self) c.args.bytes.now rest.now in
    elim c.match-write.branch [
      | in-Ok w ↦ subst Left (sym w.rest-is) (wrote_taken _ _ _ c.args.bytes.now c.loop.rest.now w.in-Ok.n c.loop.invariant w.in-Ok.ensures.bytes)
      | in-Err+else-ne w ↦ subst Left (sym w.rest-is) (wrote_kept _ _ _ c.args.bytes.now c.loop.rest.now c.loop.invariant w.in-Err.ensures.bytes)
    ]

pub returns-clause-bytes : goal.returns-clause-bytes
returns-clause-bytes g c = front_written _ _ c.args.bytes.now c.loop.rest.now c.loop.invariant
