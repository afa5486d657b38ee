use Rattle.std.proofs.Common.{◌++◌, map}
use Rattle.std.specs.List.{flat_map}
use Rattle.std.specs.Prelude.{codes, IsOkUnless}
use Rattle.h5_serialize.specs.Fronts.{Writes}
use Rattle.h5_serialize.specs.Writing.{attribute_begun, attribute_next}
use Rattle.h5_serialize.specs.declared.fault.SerializeFault.TheVariants.{Write}
use Rattle.h5_serialize.proofs.tags.write_open.Given as goal

abbrev pub invariant-loop-attr : goal.invariant-loop-attr
invariant-loop-attr g l = record {
  text : Writes l.result (g.Wr.Write.contents l.fn.writer) (g.Wr.Write.contents l.writer) ((codes "<" ++ l.name ++ attribute_begun (g.T.AttrRef.attribute l.first)) ++ flat_map attribute_next (map g.T.AttrRef.attribute l.yielded));
  fault : IsOkUnless l.result Write;
}
