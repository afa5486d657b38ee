use Rattle.std.proofs.Common.{arith}
use Rattle.h5_names.proofs.KnownNameLemmas.{text_of_name}
use Rattle.h5_serialize.proofs.AttributeLaws.{no_prefix}
use Rattle.h5_serialize.proofs.tags.known_of.Goals as goal

pub returns-then-is_empty : goal.returns-then-is_empty
returns-then-is_empty c = λ h. (
  no_prefix c.args.name.now c.as_str.result.now c.as_str.ensures (grind (arith, c.if-is_empty.true)),
  text_of_name c.args.name.now.local c.known.result c.known.ensures h,
)
