use Rattle.std.proofs.Common.{List, ℕ, Bor, ap, subst, sym}
use Rattle.h5_commands.proofs.FrontLaws.{Wrote, wrote_more, wrote_kept, left_same}
use Rattle.h5_commands.proofs.output.write_bytes.Goals as goal
use Rattle.h5_commands.proofs.output.write_bytes.Goals.{in-Ok, in-Err+else-ne}

pub pieces-preserved : goal.pieces-preserved
pieces-preserved g c =
    let contents = g.W.Write.contents in
    elim c.match-write.branch [
      | in-Ok w ↦ wrote_more (contents c.args.writer.now) (contents c.pieces.writer) (contents c.write.new.self) c.args.bytes.now c.pieces.rest.now c.match-write.rest.now w.in-Ok.count c.pieces.invariant w.in-Ok.ensures.bytes (left_same c.pieces.rest.now c.match-write.rest.now w.in-Ok.count (ap (λ (r : Bor (List ℕ)). r.now) w.rest-is))
      | in-Err+else-ne w ↦ subst (λ (r : Bor (List ℕ)). Wrote (contents c.args.writer.now) (contents c.write.new.self) c.args.bytes.now r.now) (sym w.rest-is) (wrote_kept (contents c.args.writer.now) (contents c.pieces.writer) (contents c.write.new.self) c.args.bytes.now c.pieces.rest.now c.pieces.invariant w.in-Err.ensures.bytes)
    ]
