use Rattle.std.proofs.Common.{◌++◌, append_assoc}
use Rattle.std.specs.Prelude.{codes}
use Rattle.h5_serialize.proofs.FrontLaws.{front_first, goes_on, stops}
use Rattle.h5_serialize.proofs.html.write_instruction.Goals as goal

pub returns-in_err-write_between-clause-text : goal.returns-in_err-write_between-clause-text
returns-in_err-write_between-clause-text g c =
    let front = codes "<?" ++ c.args.target.now ++ codes " " in
    let parts = append_assoc front c.args.content.now (codes ">") in
    stops _ _ c.from_residual.ensures.1 (front_first front (c.args.content.now ++ codes ">") _ parts c.in_err-write_between.ensures.text)

pub returns-clause-text : goal.returns-clause-text
returns-clause-text g c =
    let front = codes "<?" ++ c.args.target.now ++ codes " " in
    let parts = append_assoc front c.args.content.now (codes ">") in
    goes_on _ _ _ c.write_between-2.result front (c.args.content.now ++ codes ">") _ parts c.in_ok-write_between.ensures.text c.write_between-2.ensures.text
