use Rattle.std.proofs.Common.{◌++◌, append-nil, rules, subst, sym}
use Rattle.std.specs.Iterator.{Drains}
use Rattle.std.specs.Prelude.{codes}
use Rattle.h5_serialize.specs.Fronts.{Writes}
use Rattle.h5_serialize.specs.Writing.{attribute_begun, attribute_next}
use Rattle.h5_serialize.proofs.FrontLaws.{writes_more}
use Rattle.h5_serialize.proofs.tags.write_open.Goals as goal

pub loop-attr-init : goal.loop-attr-init
loop-attr-init g c =
    let contents = g.Wr.Write.contents in
    record {
      text = subst (λ bytes. Writes c.write_begun-result.result (contents c.args.writer.now) (contents c.write_begun-result.new.writer) bytes)
          (sym (append-nil (codes "<" ++ c.args.name.now ++ attribute_begun (g.T.AttrRef.attribute c.args.first)))) c.write_begun-result.ensures.text;
      fault = c.write_begun-result.ensures.fault;
    }

pub loop-attr-preserved : goal.loop-attr-preserved
loop-attr-preserved g c =
    let made = c.write_further-result.ensures in
    let start = codes "<" ++ c.args.name.now ++ attribute_begun (g.T.AttrRef.attribute c.args.first) in
    record {
      text = writes_more attribute_next g.T.AttrRef.attribute _ _ _ c.loop-attr.result c.write_further-result.result start c.loop-attr.yielded c.in-Some.attr c.loop-attr.invariant.text made.text made.kept made.stays;
      fault = made.fault c.loop-attr.invariant.fault;
    }

pub returns : goal.returns
returns g c =
    let drains : Drains g.I.Iterator.next_gives c.args.attrs c.loop-attr.yielded = search rules in
    record {
      text = (c.loop-attr.yielded, drains, c.loop-attr.invariant.text);
      fault = c.loop-attr.invariant.fault;
    }
