use Rattle.std.proofs.Common.{◌++◌, ◌∙◌, subst}
use Rattle.std.specs.Prelude.{codes}
use Rattle.h5_serialize.specs.Fronts.{Writes}
use Rattle.h5_serialize.proofs.AttributeLaws.{front_of_known}
use Rattle.h5_serialize.proofs.tags.write_front.Goals as goal

pub returns-in-Other : goal.returns-in-Other
returns-in-Other g c =
    let contents = g.Wr.Write.contents in
    record {
      text = subst (λ bytes. Writes c.write_between.result (contents c.args.writer.now) (contents c.write_between.new.writer) bytes)
          (λ i. (c.prefix_of.ensures i ++ c.as_str.ensures i) ++ codes "=\"") c.write_between.ensures.text;
      fault = c.write_between.ensures.fault;
    }

pub returns-in_default : goal.returns-in_default
returns-in_default g c =
    let contents = g.Wr.Write.contents in
    let name = c.known_of.ensures c.in_default.not-Other in
    record {
      text = subst (λ bytes. Writes c.write_bytes.result (contents c.args.writer.now) (contents c.write_bytes.new.writer) bytes)
          (c.attribute_of.ensures ∙ front_of_known c.args.name.now _ name.0 name.1) c.write_bytes.ensures.bytes;
      fault = c.write_bytes.ensures.fault;
    }
