use Rattle.std.proofs.Common.{refl, true}
use Rattle.h5_serialize.specs.Escape.{escape}
use Rattle.h5_serialize.specs.Writing.{attribute_front}
use Rattle.h5_serialize.proofs.FrontLaws.{front_first, goes_on, stops}
use Rattle.h5_serialize.proofs.tags.write_first.Goals as goal

pub returns-in_err-write_front-clause-text : goal.returns-in_err-write_front-clause-text
returns-in_err-write_front-clause-text g c = stops _ _ c.from_residual.ensures.1 (front_first (attribute_front c.args.name.now) (escape true c.args.value.now) _ refl c.in_err-write_front.ensures.text)

pub returns-clause-text : goal.returns-clause-text
returns-clause-text g c = goes_on _ _ _ c.write_escaped.result (attribute_front c.args.name.now) (escape true c.args.value.now) _ refl c.in_ok-write_front.ensures.text c.write_escaped.ensures.text
