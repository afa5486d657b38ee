use Rattle.std.proofs.Common.{◌++◌, ◌∷◌, map}
use Rattle.std.specs.Iterator.{Drains}
use Rattle.std.specs.List.{flat_map}
use Rattle.std.specs.Prelude.{codes}
use Rattle.h5_serialize.specs.Writing.{attribute_begun, attribute_next}
use Rattle.h5_serialize.proofs.AttributeLaws.{closed}
use Rattle.h5_serialize.proofs.FrontLaws.{front_first, goes_on, stops}
use Rattle.h5_serialize.proofs.tags.write_start_tag.Goals as goal

pub returns-in_err-write_open-in-Some-clause-text : goal.returns-in_err-write_open-in-Some-clause-text
returns-in_err-write_open-in-Some-clause-text g c =
    let open_tag = c.in_err-write_open-in-Some.ensures.text in
    let all = c.in-Some.first ∷ open_tag.0 in
    let drains : Drains g.I.Iterator.next_gives c.args.attrs all =
    (open_tag.1.0, (open_tag.1.1.0, (c.next.new.self, c.in-Some.ensures.steps, open_tag.1.1.1), open_tag.1.1.2)) in
    let first = g.T.AttrRef.attribute c.in-Some.first in
    let rest = map g.T.AttrRef.attribute open_tag.0 in
    let start = codes "<" ++ c.args.name.now.local in
    (all, drains, stops _ {b = g.Wr.Write.contents c.write_open.new.writer} _ c.from_residual.ensures.1 (front_first {b = g.Wr.Write.contents c.write_open.new.writer} ((start ++ attribute_begun first) ++ flat_map attribute_next rest) (codes "\">") _ (closed start first rest) open_tag.2))

pub returns-in_ok-write_open-in-Some-clause-text : goal.returns-in_ok-write_open-in-Some-clause-text
returns-in_ok-write_open-in-Some-clause-text g c =
    let open_tag = c.in_ok-write_open-in-Some.ensures.text in
    let all = c.in-Some.first ∷ open_tag.0 in
    let drains : Drains g.I.Iterator.next_gives c.args.attrs all =
    (open_tag.1.0, (open_tag.1.1.0, (c.next.new.self, c.in-Some.ensures.steps, open_tag.1.1.1), open_tag.1.1.2)) in
    let first = g.T.AttrRef.attribute c.in-Some.first in
    let rest = map g.T.AttrRef.attribute open_tag.0 in
    let start = codes "<" ++ c.args.name.now.local in
    (all, drains, goes_on _ _ _ c.write_verbatim.result ((start ++ attribute_begun first) ++ flat_map attribute_next rest) (codes "\">") _ (closed start first rest) open_tag.2 c.write_verbatim.ensures.text)
