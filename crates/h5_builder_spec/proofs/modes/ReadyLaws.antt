-- If builder and sink are ready in the body, some element is open.
use Rattle.std.proofs.Common.{◌<◌, length, arith}
use Rattle.h5_builder_spec.specs.inner.Kept.{HasHtmlRoot}
use Rattle.h5_builder_spec.specs.World.{World, names_of}
use Rattle.h5_builder_spec.proofs.changes.PopLaws.{names_length}
use Rattle.h5_builder_spec.proofs.fitting.OpenLaws.{open_some}

pub ready_open : (w : World) → HasHtmlRoot w → 0 < length w.stack
ready_open w k = let some = open_some (names_of w) k.root in let same = names_length w in omega (arith, some, same)
