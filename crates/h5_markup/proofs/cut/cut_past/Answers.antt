use Rattle.std.proofs.Common.{arith, false-eqb, subst, IsUtf8}
use Rattle.h5_markup.proofs.Cutting.{boundary_past}
use Rattle.h5_markup.proofs.cut.cut_past.Goals as goal

pub split_at-requires : goal.split_at-requires
split_at-requires c = boundary_past c.args.class c.args.text.now c.cut_at.result.1.now (subst IsUtf8 c.as_bytes-bytes.ensures.value c.as_bytes-bytes.ensures.utf8) c.cut_at.ensures.back (omega (arith, false-eqb _ 0 c.if-is_empty.ensures))
