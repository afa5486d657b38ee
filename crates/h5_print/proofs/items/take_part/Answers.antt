use Rattle.std.proofs.Common.{refl}
use Rattle.h5_print.specs.Parts.{part_text}
use Rattle.h5_print.proofs.ItemLaws.{part_is_put, part_is_refused}
use Rattle.h5_print.proofs.items.take_part.Goals as goal

pub returns-in_ok-push-in-Some-2 : goal.returns-in_ok-push-in-Some-2
returns-in_ok-push-in-Some-2 c =
    part_is_put (part_text c.args.part) c.args.items.now.items c.pop.new.self.items c.push.new.self.items c.in-Some.last c.in-Some-2.item c.in_ok-item.field-0
    c.in-Some.ensures.items c.in_ok-item.ensures c.in-Some-2.is c.in_ok-push-in-Some-2.ensures.items

pub returns-in-None : goal.returns-in-None
returns-in-None c =
    (part_is_refused (part_text c.args.part) c.args.items.now.items c.pop.new.self.items c.in-Some.last c.in_ok-item.field-0 c.in-Some.ensures.items c.in_ok-item.ensures c.in-None.is, refl)
