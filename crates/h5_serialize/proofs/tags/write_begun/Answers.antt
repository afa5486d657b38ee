use Rattle.std.proofs.Common.{◌++◌, refl, sym}
use Rattle.std.specs.Prelude.{codes}
use Rattle.h5_serialize.specs.Writing.{attribute_begun}
use Rattle.h5_serialize.proofs.FrontLaws.{front_first, goes_on, stops}
use Rattle.h5_serialize.proofs.tags.write_begun.Goals as goal

pub returns-in_err-write_start-clause-text : goal.returns-in_err-write_start-clause-text
returns-in_err-write_start-clause-text g c =
    stops _ _ c.from_residual.ensures.1 (front_first (codes "<" ++ c.args.name.now) (attribute_begun (g.T.AttrRef.attribute c.args.first.now)) _ refl c.in_err-write_start.ensures.text)

pub returns-clause-text : goal.returns-clause-text
returns-clause-text g c =
    let start = codes "<" ++ c.args.name.now in
    goes_on _ _ _ c.write_first.result start (attribute_begun (record { name = c.name.result.now; value = c.value.result.now })) _
    (λ i. start ++ attribute_begun (record { name = sym c.name.ensures i; value = sym c.value.ensures i }))
    c.in_ok-write_start.ensures.text c.write_first.ensures.text
