use Rattle.std.proofs.Common.{◌++◌, refl, rules}
use Rattle.std.proofs.KnownBytes.{Appends-trans}
use Rattle.h5_serialize.proofs.FrontLaws.{front_first, front_later, goes_on, stops}
use Rattle.h5_serialize.proofs.escape.write_between.Goals as goal

pub returns-in_err-write_verbatim-clause-text : goal.returns-in_err-write_verbatim-clause-text
returns-in_err-write_verbatim-clause-text g c =
    let two = front_first c.args.before.now c.args.text.now (c.args.before.now ++ c.args.text.now) refl c.in_err-write_verbatim.ensures.text in
    stops _ _ c.from_residual.ensures.1 (front_first (c.args.before.now ++ c.args.text.now) c.args.after.now _ refl two)

pub returns-in_err-write_verbatim-2-clause-text : goal.returns-in_err-write_verbatim-2-clause-text
returns-in_err-write_verbatim-2-clause-text g c =
    let two = front_later c.args.before.now c.args.text.now (c.args.before.now ++ c.args.text.now) refl c.in_ok-write_verbatim.ensures.text c.in_err-write_verbatim-2.ensures.text in
    stops _ _ c.from_residual-in_err-write_verbatim-2.ensures.1 (front_first (c.args.before.now ++ c.args.text.now) c.args.after.now _ refl two)

pub returns-clause-text : goal.returns-clause-text
returns-clause-text g c =
    let two = Appends-trans _ _ _ c.args.before.now c.args.text.now c.in_ok-write_verbatim.ensures.text c.in_ok-write_verbatim-2.ensures.text in
    goes_on _ _ _ c.write_verbatim-3.result (c.args.before.now ++ c.args.text.now) c.args.after.now _ refl two c.write_verbatim-3.ensures.text

pub returns-clause-fault : goal.returns-clause-fault
returns-clause-fault g c = search rules
