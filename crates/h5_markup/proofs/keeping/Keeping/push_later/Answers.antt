use Rattle.std.proofs.Common.{◌∷◌, [], ◌++◌, cond, ap, ◌∙◌, arith}
use Rattle.h5_markup.specs.declared.keeping.TheConstants.{FEW}
use Rattle.h5_markup.proofs.LaterLaws.{one_behind}
use Rattle.h5_markup.proofs.keeping.Keeping.push_later.Goals as goal

pub invariant_of-self-2 : goal.invariant_of-self-2
invariant_of-self-2 c =
    let room = c.push.ensures.succeeds (omega (arith, c.in_ok-reserve.ensures.ok)) in
    record {
      later_names = one_behind FEW c.args.self.now.attributes.items c.push.new.self.items c.args.attribute _ c.args.self.now.later c.insert.new.self c.args.self.now.later_names (omega arith) c.in_ok-name.ensures.value c.in_ok-insert.ensures.updates
          (c.push.ensures.items ∙ ap (λ b. cond b (c.reserve.new.self.items ++ c.args.attribute ∷ []) c.reserve.new.self.items) room ∙ ap (λ l. l ++ c.args.attribute ∷ []) c.reserve.ensures.items);
    }
