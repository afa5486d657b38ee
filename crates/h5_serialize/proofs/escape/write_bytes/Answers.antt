use Rattle.std.proofs.Common.{◌≡◌, ◌++◌, ◌∙◌, ◌-◌, ap, arith, drop, length, sym, take, take-append-drop}
use Rattle.h5_serialize.proofs.Escapes.{rest_same}
use Rattle.h5_serialize.proofs.FrontLaws.{front_kept, front_written, goes_after, goes_on, wrote_all, wrote_none, wrote_taken}
use Rattle.h5_serialize.proofs.escape.write_bytes.Goals as goal

pub returns-then-is_empty-clause-bytes : goal.returns-then-is_empty-clause-bytes
returns-then-is_empty-clause-bytes g c = wrote_all _ _ c.args.bytes.now c.args.bytes.now (grind (arith, c.if-is_empty.true)) (wrote_none (g.Wr.Write.contents c.args.writer.now) c.args.bytes.now)

pub returns-in-Ok-eq0-clause-bytes : goal.returns-in-Ok-eq0-clause-bytes
returns-in-Ok-eq0-clause-bytes g c = front_written _ _ c.args.bytes.now _ (wrote_taken _ _ _ c.args.bytes.now c.args.bytes.now c.in-Ok-eq0.field-0 (wrote_none _ c.args.bytes.now) c.in-Ok-eq0.ensures.bytes)

pub returns-in-Ok-2-clause-bytes : goal.returns-in-Ok-2-clause-bytes
returns-in-Ok-2-clause-bytes g c =
    let bytes = c.args.bytes.now in
    let n = c.in-Ok.n in
    let split : bytes ≡ take n bytes ++ take (length bytes - n) (drop n bytes) = sym (take-append-drop n bytes) ∙ ap (λ l. take n bytes ++ l) (sym (rest_same bytes n)) in
    goes_on _ _ _ c.write_rest.result (take n bytes) _ bytes split c.in-Ok.ensures.bytes c.write_rest.ensures.bytes

pub returns-then-ne-clause-bytes : goal.returns-then-ne-clause-bytes
returns-then-ne-clause-bytes g c = front_kept _ _ _ c.args.bytes.now c.args.bytes.now (wrote_none _ c.args.bytes.now) c.in-Err.ensures.bytes

pub returns-else-ne-clause-bytes : goal.returns-else-ne-clause-bytes
returns-else-ne-clause-bytes g c = goes_after _ _ _ c.write_rest-in-Err.result c.args.bytes.now c.in-Err.ensures.bytes c.write_rest-in-Err.ensures.bytes
